-- A gate is in doubt only where the journal has failed.
use Rattle.std.proofs.Common.{◌≡◌, ℕ, ◌≤◌, Bool, true, false, arith, refl, sym, ap, ◌∙◌}
use Rattle.std.specs.Prelude.{◌||◌}
use Rattle.std.proofs.lemmas.Bool.{false≢true}
use Rattle.tsdb_base.specs.Causes.{Rose}
use Rattle.tsdb_frames.specs.Asides.{IsCounted, is_doubted}
use Rattle.tsdb_frames.specs.Frames.{faults_of, is_in_doubt}
use Rattle.tsdb_frames.specs.declared.aside.Aside.{Aside}
use Rattle.tsdb_frames.specs.declared.frames.Frames.{Frames}
use Rattle.tsdb_outside.specs.declared.disk.Disk as disk
use Rattle.tsdb_outside.specs.declared.faults.Counted as counted

or_right : (a b : Bool) → b ≡ true → (a || b) ≡ true
or_right true b is = refl
or_right false b is = is

or_left : (a b c : Bool) → c ≡ false → (a || c) ≡ true → (a || b) ≡ true
or_left true b c none is = refl
or_left false b c none is = absurd (false≢true (sym none ∙ is))

-- the count goes on
pub counted_later : (doubt : Bool) (aside : Aside) (before now : ℕ) → IsCounted doubt aside before → before ≤ now
    → IsCounted doubt aside now
counted_later doubt aside before now was less = λ is. let some = was is in omega (arith, some, less)

-- a fault was counted
pub counted_risen : (doubt : Bool) (aside : Aside) (before now : ℕ) → Rose before now → IsCounted doubt aside now
counted_risen doubt aside before now rose = λ is. omega (arith, rose)

-- the gate of the log is closed
pub counted_closed : (doubt : Bool) (aside : Aside) (before now : ℕ) → IsCounted doubt aside before → before ≤ now
    → IsCounted false aside now
counted_closed doubt aside before now was less = λ is.
    let some = was (or_right doubt (is_doubted aside) is) in omega (arith, some, less)

-- that of the slot aside is not in doubt
pub counted_aside : (doubt : Bool) (aside other : Aside) (before now : ℕ) → is_doubted other ≡ false
    → IsCounted doubt aside before → before ≤ now → IsCounted doubt other now
counted_aside doubt aside other before now none was less = λ is.
    let some = was (or_left doubt (is_doubted aside) (is_doubted other) none is) in omega (arith, some, less)

-- where the journal has counted no fault no gate is in doubt
pub no_fault_no_doubt : {J : Type 0} {means : disk.Ghosts J} {counts : counted.Ghosts J} (log : Frames J means counts)
    → faults_of log ≡ 0 → is_in_doubt log ≡ false
no_fault_no_doubt log none = by (is_in_doubt log) refl
  where
    by : (b : Bool) → is_in_doubt log ≡ b → is_in_doubt log ≡ false
    by true is = let some = log.counted is in absurd (omega (arith, some, none))
    by false is = is
