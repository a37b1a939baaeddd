-- Where a compaction ends, the others keep what they have claimed.
use Rattle.std.proofs.Common.{◌≡◌, ℕ, ◌+◌, ◌≤◌, Bool, true, false, cond, List, [], ◌∷◌, ◌++◌, drop, take, inl, inr}
use Rattle.std.proofs.Common.{Option}
use Rattle.std.proofs.Common.{ap, arith, refl, sym, subst, ◌∙◌}
use Rattle.std.proofs.lemmas.List.Folds.{list_any-append}
use Rattle.std.specs.Cmp.{unsigned_Decides}
use Rattle.std.specs.List.{AllByRecursion as Each, list_any}
use Rattle.std.specs.Prelude.{◌==◌, ◌&&◌, ◌||◌, slice_range}
use Rattle.tsdb_base.specs.declared.ids.Space.{Space}
use Rattle.tsdb_base.specs.declared.ids.Space.TheVariants.{Sequence, Unsequence}
use Rattle.tsdb_tasks.specs.Files.{NewFile}
use Rattle.tsdb_tasks.specs.Ending.{GivesUp}
use Rattle.tsdb_tasks.specs.Finishing.{AreRunsOf, Finishes}
use Rattle.tsdb_tasks.specs.declared.finishing.InputRuns.{InputRuns}
use Rattle.tsdb_tasks.specs.Jobs.{IsCompactionOf}
use Rattle.tsdb_tasks.specs.Job.{Job}
use Rattle.tsdb_core.proofs.Claims.{is_claim_of}
use Rattle.tsdb_core.proofs.Jobs.{is_counted}
use Rattle.tsdb_core.specs.Core.{AreClaimed, files_of, is_claimed, is_sequence_claimed}
use Rattle.tsdb_core.specs.Replacements.{without_claim}
use Rattle.tsdb_core.specs.declared.engine.Core.{Core}
use Rattle.tsdb_fileset.proofs.Replaced.{run_parts}
use Rattle.tsdb_fileset.specs.Files.{KeptFiles, entry_numbers}
use Rattle.tsdb_fileset.specs.Replacing.{IsWithin, replace_run}
use Rattle.tsdb_base.proofs.Lists.{among_left, among_map, among_right, each_among, each_from_among, with_one_apart}
use Rattle.tsdb_base.proofs.Lists.{with_one_each, with_one_is}
use Rattle.tsdb_base.specs.Lists.{Among, IsRun, IsWithOne, count}
use Rattle.tsdb_outside.specs.declared.disk.Disk as disk
use Rattle.tsdb_outside.specs.declared.faults.Counted as counted
use Rattle.tsdb_plan.specs.declared.entry.FileEntry.{FileEntry}
use Rattle.tsdb_plan.specs.declared.entry.Run.{Run}
use Rattle.tsdb_state.proofs.Numbering.{count_files}
use Rattle.tsdb_state.proofs.OtherJobs.{apart_turned}
use Rattle.tsdb_state.specs.Jobs.{AreApart, HasKind, Stands}
use Rattle.tsdb_state.specs.Order.{IsInOrder}
use Rattle.tsdb_state.specs.Plans.{IsSequenceFree}
use Rattle.tsdb_state.specs.Records.{numbers_of}
use Rattle.tsdb_state.specs.State.{Compaction, EngineState, KnownFiles, File, ToldContents}

-- ---- claims in a list of which a run is replaced

or_outside : (a m b t : Bool) → m ≡ false → (a || (m || b)) ≡ true → (a || (t || b)) ≡ true
or_outside true m b t none is = refl
or_outside false true b t none is = absurd cc
or_outside false false true true none is = refl
or_outside false false true false none is = refl
or_outside false false false t none is = absurd cc

or_each : (a b c d : Bool) → (a ≡ true → c ≡ true) → (b ≡ true → d ≡ true) → (a || b) ≡ true → (c || d) ≡ true
or_each true b c d first second is = ap (λ x. x || d) (first refl)
or_each false b true d first second is = refl
or_each false b false d first second is = second is

-- files with other numbers claim no such file
no_claim : (file : File) (entries : List FileEntry)
    → ((n : ℕ) → Among n (entry_numbers entries) → n ≡ file.number → ⊥)
    → list_any (is_claim_of file) entries ≡ false
no_claim file [] never = refl
no_claim file (entry ∷ entries) never =
    by (entry.number.0 == file.number) refl (no_claim file entries (λ n among. never n (inr among)))
  where
    by : (b : Bool) → (entry.number.0 == file.number) ≡ b → list_any (is_claim_of file) entries ≡ false
        → ((b && entry.claimed) || list_any (is_claim_of file) entries) ≡ false
    by true is rest = absurd (never entry.number.0 (inl refl) ((unsigned_Decides entry.number.0 file.number).0 is))
    by false is rest = rest

-- a claim outside a run stays where the run is replaced
outside_run : (file : File) (run : Run) (these entries : List FileEntry) → IsWithin run entries
    → list_any (is_claim_of file) (slice_range entries run.first run.end) ≡ false
    → list_any (is_claim_of file) entries ≡ true → list_any (is_claim_of file) (replace_run run these entries) ≡ true
outside_run file run these entries within none is =
    let test = is_claim_of file in
    let front = take run.first entries in
    let mid = slice_range entries run.first run.end in
    let back = drop run.end entries in
    list_any-append test front (these ++ back) ∙ ap (λ b. list_any test front || b) (list_any-append test these back)
    ∙ or_outside (list_any test front) (list_any test mid) (list_any test back) (list_any test these) none
    (sym (list_any-append test front (mid ++ back)
    ∙ ap (λ b. list_any test front || b) (list_any-append test mid back))
    ∙ ap (list_any test) (run_parts run.first run.end entries within.rises) ∙ is)

-- where it stays in each list it stays
in_both : (file : File) (old new : KeptFiles)
    → (list_any (is_claim_of file) old.sequence ≡ true → list_any (is_claim_of file) new.sequence ≡ true)
    → (list_any (is_claim_of file) old.unsequence ≡ true → list_any (is_claim_of file) new.unsequence ≡ true)
    → is_claimed old file ≡ true → is_claimed new file ≡ true
in_both file old new first second is =
    let test = is_claim_of file in
    list_any-append test new.sequence new.unsequence
    ∙ or_each (list_any test old.sequence) (list_any test old.unsequence) (list_any test new.sequence)
    (list_any test new.unsequence) first second (sym (list_any-append test old.sequence old.unsequence) ∙ is)

-- ---- the inputs of two jobs

-- the file of a number
number_file : (n : ℕ) (files : List File) → Among n (numbers_of files)
    → (file : File) × Among file files × (file.number ≡ n)
number_file n [] among = absurd among
number_file n (file ∷ files) (inl is) = (file, inl refl, is)
number_file n (file ∷ files) (inr among) =
    let found = number_file n files among in (found.0, inr found.1, found.2)

counted_file : (file : File) (files : List File) → Among file files → 1 ≤ count file.number (numbers_of files)
counted_file file files among =
    is_counted file.number (numbers_of files) (among_map (λ (f : File). f.number) files file among)

-- where each number stands once, two files of one number are one
not_twice : (file : File) (files : List File) → ((n : ℕ) → count n (numbers_of (file ∷ files)) ≤ 1) → (a b : File)
    → file ≡ a → Among b files → a.number ≡ b.number → ⊥
not_twice file files once a b first there same = omega (
  arith,
  once b.number,
  ap {B = ℕ} (λ t. cond t 1 0 + count b.number (numbers_of files))
      ((unsigned_Decides file.number b.number).1 (ap (λ (f : File). f.number) first ∙ same)),
  counted_file b files there,
)

same_file : (files : List File) → ((n : ℕ) → count n (numbers_of files) ≤ 1) → (a b : File) → Among a files
    → Among b files → a.number ≡ b.number → a ≡ b
same_file [] once a b first second same = absurd first
same_file (file ∷ files) once a b (inl x) (inl y) same = sym x ∙ y
same_file (file ∷ files) once a b (inl x) (inr y) same = absurd (not_twice file files once a b x y same)
same_file (file ∷ files) once a b (inr x) (inl y) same = absurd (not_twice file files once b a y x (sym same))
same_file (file ∷ files) once a b (inr x) (inr y) same = same_file files less a b x y same
  where
    less : (n : ℕ) → count n (numbers_of files) ≤ 1
    less n = omega (arith, once n)

in_run : (run all : List File) → IsRun run all → (file : File) → Among file run → Among file all
in_run run all is file among =
    subst (Among file) (sym is.is) (among_right is.before (run ++ is.behind) file (among_left run is.behind file among))

late_in : (told : ToldContents) (sequence unsequence : List File) (job : Compaction) (space : Space)
    → Stands space told sequence unsequence job → (file : File) → Among file job.unsequence → Among file unsequence
late_in told sequence unsequence job Sequence gap file among =
    subst (Among file) (sym gap.first) (among_left job.unsequence gap.later file among)
late_in told sequence unsequence job Unsequence run file among = in_run job.unsequence unsequence run file among

sequence_in : (told : ToldContents) (sequence unsequence : List File) (job : Compaction) (space : Space) → HasKind space job
    → Stands space told sequence unsequence job → (file : File) → Among file job.sequence → Among file sequence
sequence_in told sequence unsequence job Sequence kind gap file among =
    in_run job.sequence sequence gap.run file among
sequence_in told sequence unsequence job Unsequence kind run file among =
    absurd (subst (Among file) kind.0 among)

module _ (told : ToldContents) (known : KnownFiles) (named : List ℕ) (engine : EngineState)
    (order : IsInOrder told known named engine) (job : Compaction) (others : List Compaction)
    (out : IsWithOne job others engine.compactions) where
  once : (n : ℕ) → count n (numbers_of engine.store.sequence) + count n (numbers_of engine.store.unsequence) ≤ 1
  once n = omega (
    arith,
    order.numbers.differ n,
    count_files n (engine.store.sequence ++ engine.store.unsequence) engine.outgoing,
    count_files n engine.store.sequence engine.store.unsequence,
  )

  pub kind : HasKind job.space job
  kind = with_one_is (λ (c : Compaction). HasKind c.space c) job others engine.compactions out order.compactions.kinds

  pub stands : Stands job.space told engine.store.sequence engine.store.unsequence job
  stands = with_one_is (λ (c : Compaction). Stands c.space told engine.store.sequence engine.store.unsequence c) job
      others engine.compactions out order.compactions.stand

  apart : Each (AreApart job) others
  apart = with_one_apart AreApart apart_turned job others engine.compactions out order.compactions.apart

  -- a late input of another job is no input of this one
  module _ (other : Compaction) (there : Among other others) (file : File) (among : Among file other.unsequence) where
    is_late : Among file engine.store.unsequence
    is_late = late_in told engine.store.sequence engine.store.unsequence other other.space
        (each_among (λ (c : Compaction). Stands c.space told engine.store.sequence engine.store.unsequence c) others
        other (with_one_each (λ (c : Compaction). Stands c.space told engine.store.sequence engine.store.unsequence c)
        job others engine.compactions out order.compactions.stand) there) file among

    pub no_sequence_input : (n : ℕ) → Among n (numbers_of job.sequence) → n ≡ file.number → ⊥
    no_sequence_input n here same =
        let found = number_file n job.sequence here in
        let first = counted_file found.0 engine.store.sequence (sequence_in told engine.store.sequence
        engine.store.unsequence job job.space kind stands found.0 found.1) in
        omega (
          arith,
          once file.number,
          subst (λ m. 1 ≤ count m (numbers_of engine.store.sequence)) (found.2 ∙ same) first,
          counted_file file engine.store.unsequence is_late,
        )

    pub no_late_input : (n : ℕ) → Among n (numbers_of job.unsequence) → n ≡ file.number → ⊥
    no_late_input n here same =
        let found = number_file n job.unsequence here in
        (each_among (AreApart job) others other apart there).late file
        (subst (λ (f : File). Among f job.unsequence) (same_file engine.store.unsequence (λ m. omega (arith, once m))
        found.0 file (late_in told engine.store.sequence engine.store.unsequence job job.space stands found.0 found.1)
        is_late (found.2 ∙ same)) found.1) among

    -- so its claim outlasts the end of this one
    module _ {F S R P : Type 0} (ended : Job F S R P) (is : IsCompactionOf ended job) (old new : KeptFiles)
        (made : Option NewFile) where
      pub over_given_up : GivesUp old new ended made → is_claimed old file ≡ true → is_claimed new file ≡ true
      over_given_up up = in_both file old new (λ claimed. ap (list_any (is_claim_of file)) up.sequence ∙ claimed)
          (λ claimed. ap (list_any (is_claim_of file)) up.unsequence.is
          ∙ outside_run file up.unsequence.run _ old.unsequence up.unsequence.within
          (no_claim file (slice_range old.unsequence up.unsequence.run.first up.unsequence.run.end)
          (λ n numbered. no_late_input n (subst (Among n) (up.unsequence.are ∙ sym is.unsequence) numbered))) claimed)

      pub over_finished : (runs : InputRuns) → AreRunsOf ended runs old → Finishes old new ended runs made
          → is_claimed old file ≡ true → is_claimed new file ≡ true
      over_finished runs stand up = in_both file old new
          (λ claimed. ap (list_any (is_claim_of file)) up.lists.sequence_is
          ∙ outside_run file runs.sequence _ old.sequence stand.sequence.within
          (no_claim file (slice_range old.sequence runs.sequence.first runs.sequence.end)
          (λ n numbered. no_sequence_input n (subst (Among n) (stand.sequence.are ∙ sym is.sequence) numbered)))
          claimed)
          (λ claimed. ap (list_any (is_claim_of file)) up.lists.unsequence_is
          ∙ outside_run file runs.unsequence _ old.unsequence stand.unsequence.within
          (no_claim file (slice_range old.unsequence runs.unsequence.first runs.unsequence.end)
          (λ n numbered. no_late_input n (subst (Among n) (stand.unsequence.are ∙ sym is.unsequence) numbered)))
          claimed)

  -- ---- and so do all claims

  abbrev LateStay : KeptFiles → KeptFiles → Type 0
  LateStay old new = (other : Compaction) → Among other others → (file : File) → Among file other.unsequence
      → is_claimed old file ≡ true → is_claimed new file ≡ true

  free_with : (space : Space) → job.space ≡ space → (claimed : Bool)
      → (claimed ≡ false → IsSequenceFree engine.compactions) → without_claim space claimed ≡ false
      → IsSequenceFree others
  free_with Sequence same claimed free is = each_from_among (λ (c : Compaction). c.space ≡ Sequence → ⊥) others
      (λ other there. (each_among (AreApart job) others other apart there).one same)
  free_with Unsequence same claimed free is = with_one_each (λ (c : Compaction). c.space ≡ Sequence → ⊥) job others
      engine.compactions out (free is)

  module _ {J F S R P : Type 0} {means : disk.Ghosts J} {counts : counted.Ghosts J} where
    pub claims_without : (old new : Core J F S R P means counts) → LateStay (files_of old) (files_of new)
        → is_sequence_claimed new ≡ without_claim job.space (is_sequence_claimed old)
        → AreClaimed old engine.compactions → AreClaimed new others
    claims_without old new stay flag claims = record {
      late = each_from_among (λ (c : Compaction). (file : File) → Among file c.unsequence
          → is_claimed (files_of new) file ≡ true) others (λ other there file among. stay other there file among
          (each_among (λ (c : Compaction). (file : File) → Among file c.unsequence
          → is_claimed (files_of old) file ≡ true) others other
          (with_one_each (λ (c : Compaction). (file : File) → Among file c.unsequence
          → is_claimed (files_of old) file ≡ true) job others engine.compactions out claims.late) there file among));
      sequence = λ free. free_with job.space refl (is_sequence_claimed old) claims.sequence (sym flag ∙ free);
    }
