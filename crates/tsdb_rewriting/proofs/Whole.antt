-- What a compaction leaves as a whole.
use Rattle.std.proofs.Common.{◌≡◌, ◌≢◌, ℕ, ◌≤◌, Option, None, Result, Ok, Err, inl, inr, subst, sym, ◌∙◌}
use Rattle.std.specs.Prelude.{IfErr, OnOk}
use Rattle.tsdb_base.specs.declared.ids.Space.{Space}
use Rattle.tsdb_serving.specs.InputRuns.{InputRuns}
use Rattle.tsdb_compactions.specs.declared.job.Job.{Job}
use Rattle.tsdb_serving.proofs.Beginnings.{Fit}
use Rattle.tsdb_serving.specs.Beginnings.{IsBegun}
use Rattle.tsdb_serving.proofs.Flushes.{stayed_idle}
use Rattle.tsdb_serving.proofs.Swept.{goes_on_swept}
use Rattle.tsdb_serving.specs.Core.{files_of, next_of}
use Rattle.tsdb_serving.specs.CoreType.{Core}
use Rattle.tsdb_serving.specs.Out.{HandsOn}
use Rattle.tsdb_fileset.specs.Files.{AreKept}
use Rattle.tsdb_outside.specs.Disk.{IsLawful}
use Rattle.tsdb_outside.specs.Files.{NamedFile, Store}
use Rattle.tsdb_outside.specs.declared.disk.Disk as disk
use Rattle.tsdb_outside.specs.declared.faults.Counted as counted
use Rattle.tsdb_rewriting.proofs.Listed.{replaced_by}
use Rattle.tsdb_rewriting.specs.Rewriting.{IsCompacted, IsFinished, IsFullAtEnd, LendsNoJob}
use Rattle.tsdb_serving.specs.Flushing.{GoesOn}
use Rattle.tsdb_serving.specs.Sweeping.{KeepsAllButOutgoing}
use Rattle.tsdb_serving.specs.declared.fault.FlushFault.{FlushFault}
use Rattle.tsdb_serving.specs.declared.fault.FlushFault.TheVariants as fault

module _ {J F S R P : Type 0} {means : disk.Ghosts J} {counts : counted.Ghosts J} (name : R → NamedFile) where
  pub compacted : (IsPlan : InputRuns → Type 0) (space : Space) (runs : InputRuns) (old mid new : Core J F S R P means counts)
      (job : Job F S R P) (result : Result (Unit {0}) FlushFault) → IsPlan runs → IsBegun name space runs old mid job
      → Fit space runs (files_of old) → AreKept (files_of mid) → OnOk result (IsFinished job mid new)
      → OnOk result (IsCompacted IsPlan space old new)
  compacted IsPlan space runs old mid new job (Ok value) plan begun fit kept finished =
      inl (runs, plan, replaced_by name space runs old mid job begun fit kept new finished)
  compacted IsPlan space runs old mid new job (Err why) plan begun fit kept finished = tt

-- ---- no job, and then a sweep

module _ {J F S R P : Type 0} {means : disk.Ghosts J} {counts : counted.Ghosts J} where
  module _ (old mid new : Core J F S R P means counts) (lent : LendsNoJob old mid) (keeps : KeepsAllButOutgoing mid new) where
    -- there is no plan, and the lists are as they were
    pub nothing_compacted : (IsPlan : InputRuns → Type 0) (space : Space) → ((runs : InputRuns) → ¬ IsPlan runs)
        → IsCompacted IsPlan space old new
    nothing_compacted IsPlan space none = inr (
      none,
      record {
        sequence = keeps.sequence ∙ lent.none.lists.sequence;
        unsequence = keeps.unsequence ∙ lent.none.lists.unsequence;
      },
    )

    pub idle_swept : ((journal : J) → IsLawful (means.state journal)) → (store : P → Store) (faults : P → ℕ)
        (port after : P) → HandsOn mid new → store after ≡ store port → faults port ≤ faults after
        → GoesOn store faults port after old new 1
    idle_swept laws store faults port after hands_on same_store later = goes_on_swept old mid new keeps store faults port
        port after 1 (stayed_idle store faults laws port old mid 1 lent.turn) hands_on same_store later

    -- the next number is the one before it
    pub full_swept : (why : FlushFault) → IsFullAtEnd (next_of old) why → IsFullAtEnd (next_of new) why
    full_swept why = subst (λ next. IsFullAtEnd next why) (sym (keeps.next ∙ lent.turn.next))

-- no number was asked for
pub no_full : (result : Result (Unit {0}) FlushFault) (next : ℕ)
    → IfErr result (λ why. (counter : ℕ) → why ≢ fault.Full counter) → IfErr result (IsFullAtEnd next)
no_full (Ok value) next not = tt
no_full (Err why) next not = λ counter is. absurd (not counter is)

-- without hulls in order there is no answer that there is no plan
module _ {A : Type 0} (result : Result (Option A) FlushFault) (why : FlushFault) where
  abbrev nothing : Result (Option A) FlushFault
  nothing = Ok None

  differ : nothing ≡ Err why → ⊥
  differ is = cc

  pub no_plan : (Order Plan : Type 0) → result ≡ Ok None → (¬ Order → result ≡ Err why) → (Order → ¬ Plan) → ¬ Plan
  no_plan Order Plan none disorder never plan = differ (sym none ∙ disorder (λ order. never order plan))
