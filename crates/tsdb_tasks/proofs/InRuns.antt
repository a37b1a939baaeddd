-- The runs of a job have the inputs of its compaction.
use Rattle.std.proofs.Common.{◌≡◌, ℕ, zero, suc, ◌<◌, ◌≤◌, List, [], ◌∷◌, ◌++◌, drop, get_or, length, map}
use Rattle.std.proofs.Common.{take}
use Rattle.std.proofs.Common.{refl, sym, ap, subst, ◌∙◌, arith}
use Rattle.std.specs.Prelude.{slice_range}
use Rattle.std.proofs.lemmas.List.{drop-map, drop_at, length-map, map-append, take-map, take_at}
use Rattle.tsdb_base.specs.declared.ids.FileNumber.{FileNumber}
use Rattle.tsdb_base.specs.declared.ids.Space.{Space}
use Rattle.tsdb_base.specs.declared.ids.Space.TheVariants.{Sequence, Unsequence}
use Rattle.tsdb_tasks.proofs.Finished.{run_long}
use Rattle.tsdb_tasks.proofs.Given.{once_late}
use Rattle.tsdb_tasks.proofs.Standing.{only_place}
use Rattle.tsdb_tasks.specs.Finishing.{AreRunsOf, IsRunOf}
use Rattle.tsdb_tasks.specs.States.{AreInputsIn, IsPlaceOf}
use Rattle.tsdb_tasks.specs.declared.finishing.InputRuns.{InputRuns}
use Rattle.tsdb_compactions.specs.Jobs.{IsCompactionOf}
use Rattle.tsdb_compactions.specs.declared.job.Job.{Job}
use Rattle.tsdb_fileset.specs.StateOfFiles.{AreFilesOf, listed}
use Rattle.tsdb_fileset.specs.Files.{AreKept, KeptFiles, entry_numbers}
use Rattle.tsdb_fileset.specs.Replacing.{run_length}
use Rattle.tsdb_base.specs.Lists.{IsRun, count}
use Rattle.tsdb_plan.specs.declared.entry.FileEntry.{FileEntry}
use Rattle.tsdb_plan.specs.declared.entry.Run.{Run}
use Rattle.tsdb_state.specs.Jobs.{HasKind, Stands}
use Rattle.tsdb_state.specs.Records.{numbers_of}
use Rattle.tsdb_state.specs.State.{Compaction, EngineState, KnownFiles, File, ToldContents}
use Rattle.tsdb_state.specs.Steps.{IsOutputPlace}
use Rattle.tsdb_outside.specs.Files.{plain_numbers}

-- the first of some numbers from a place on stands at the place
pub record HasAt (xs : List ℕ) (place y : ℕ) : Type 0 where
  pub within : place < length xs
  pub at : get_or xs place 0 ≡ y

same_head : (x y : ℕ) (xs ys : List ℕ) → x ∷ xs ≡ y ∷ ys → x ≡ y
same_head x y xs ys is = cc

no_head : (y : ℕ) (ys : List ℕ) → [] ≡ y ∷ ys → ⊥
no_head y ys is = cc

head_at : (place long : ℕ) (xs : List ℕ) (y : ℕ) (ys : List ℕ) → take long (drop place xs) ≡ y ∷ ys → HasAt xs place y
head_at zero zero xs y ys is = absurd (no_head y ys is)
head_at zero (suc long) [] y ys is = absurd (no_head y ys is)
head_at zero (suc long) (x ∷ xs) y ys is =
    record { within = omega arith; at = same_head x y (take long xs) ys is }
head_at (suc place) zero [] y ys is = absurd (no_head y ys is)
head_at (suc place) (suc long) [] y ys is = absurd (no_head y ys is)
head_at (suc place) long (x ∷ xs) y ys is =
    let rest = head_at place long xs y ys is in
    record { within = omega (arith, rest.within); at = rest.at }

pub listed_numbers : (entries : List FileEntry) → numbers_of (map listed entries) ≡ entry_numbers entries
listed_numbers [] = refl
listed_numbers (entry ∷ entries) = ap (λ rest. entry.number.0 ∷ rest) (listed_numbers entries)

-- the numbers of a run
run_numbers : (run : Run) (numbers : List FileNumber) (entries : List FileEntry) → IsRunOf run numbers entries
    → take (run_length run) (drop run.first (entry_numbers entries)) ≡ plain_numbers numbers
run_numbers run numbers entries of =
    ap (take (run_length run)) (drop-map (λ (e : FileEntry). e.number.0) run.first entries)
    ∙ take-map (λ (e : FileEntry). e.number.0) (run_length run) (drop run.first entries) ∙ of.are

-- where a run of files begins that stands side by side
pub begins_at : (run : Run) (numbers : List FileNumber) (entries : List FileEntry) (file : File)
    (files before behind : List File) → IsRunOf run numbers entries
    → ((n : ℕ) → count n (entry_numbers entries) ≤ 1) → numbers_of (file ∷ files) ≡ plain_numbers numbers
    → map listed entries ≡ before ++ ((file ∷ files) ++ behind) → run.first ≡ length before
begins_at run numbers entries file files before behind of once same all =
    let parts : entry_numbers entries ≡ numbers_of before ++ file.number ∷ numbers_of (files ++ behind) =
    sym (listed_numbers entries) ∙ ap numbers_of all
    ∙ map-append (λ (f : File). f.number) before ((file ∷ files) ++ behind) in
    let head = head_at run.first (run_length run) (entry_numbers entries) file.number (numbers_of files)
    (run_numbers run numbers entries of ∙ sym same) in
    let Once : List ℕ → Type 0 = λ xs. count file.number xs ≤ 1 in
    only_place file.number (numbers_of before) (numbers_of (files ++ behind)) run.first 0
    (subst Once parts (once file.number))
    (subst (λ xs. run.first < length xs) parts head.within)
    (ap (λ xs. get_or xs run.first 0) (sym parts) ∙ head.at)
    ∙ length-map before (λ (f : File). f.number)

-- the files that stand from their place on
files_from : (run : Run) (numbers : List FileNumber) (entries : List FileEntry) (files before behind : List File)
    → IsRunOf run numbers entries → numbers_of files ≡ plain_numbers numbers
    → map listed entries ≡ before ++ (files ++ behind) → run.first ≡ length before
    → map listed (slice_range entries run.first run.end) ≡ files
files_from run numbers entries files before behind of same all first =
    let long : run_length run ≡ length files = run_long run numbers entries of
    ∙ sym (length-map numbers (λ (n : FileNumber). n.0)) ∙ ap length (sym same)
    ∙ length-map files (λ (f : File). f.number) in
    sym (take-map listed (run_length run) (drop run.first entries))
    ∙ (λ i. take (long i) ((sym (drop-map listed run.first entries) ∙ (λ j. drop (first j) (all j))
    ∙ drop_at before (files ++ behind) (length before) refl) i))
    ∙ take_at files behind (length files) refl

-- late files side by side are those of their run
late_files : (run : Run) (numbers : List FileNumber) (entries : List FileEntry) (files before behind : List File)
    → IsRunOf run numbers entries → ((n : ℕ) → count n (entry_numbers entries) ≤ 1)
    → numbers_of files ≡ plain_numbers numbers → map listed entries ≡ before ++ (files ++ behind)
    → map listed (slice_range entries run.first run.end) ≡ files
late_files run numbers entries [] before behind of once same all =
    let none : run_length run ≡ 0 = run_long run numbers entries of
    ∙ sym (length-map numbers (λ (n : FileNumber). n.0)) ∙ ap length (sym same) in
    ap (λ n. map listed (take n (drop run.first entries))) none
late_files run numbers entries (file ∷ files) before behind of once same all =
    files_from run numbers entries (file ∷ files) before behind of same all
    (begins_at run numbers entries file files before behind of once same all)

module _ {F S R P : Type 0} (job : Job F S R P) (told : ToldContents) (files : KeptFiles) (known : KnownFiles)
    (engine : EngineState) (compaction : Compaction) (runs : InputRuns) (are : AreFilesOf files known engine)
    (kept : AreKept files) (is : IsCompactionOf job compaction) (stand : AreRunsOf job runs files) where
  once : (n : ℕ) → count n (entry_numbers files.unsequence) ≤ 1
  once = once_late files kept

  -- without files there are no numbers
  no_numbers : (numbers : List FileNumber) → [] ≡ plain_numbers numbers → numbers ≡ []
  no_numbers [] none = refl
  no_numbers (n ∷ numbers) none = absurd (no_head n.0 (plain_numbers numbers) none)

  -- the first files of the list
  first_late : (late later : List File) → compaction.unsequence ≡ late
      → engine.store.unsequence ≡ late ++ later → runs.unsequence.first ≡ 0
  first_late [] later same all =
      stand.none (no_numbers job.unsequence (ap numbers_of (sym same) ∙ is.unsequence))
  first_late (file ∷ late) later same all = begins_at runs.unsequence job.unsequence files.unsequence file late [] later
      stand.unsequence once (ap numbers_of (sym same) ∙ is.unsequence) (are.unsequence ∙ all)

  no_sequence : compaction.sequence ≡ [] → run_length runs.sequence ≡ 0
  no_sequence none = run_long runs.sequence job.sequence files.sequence stand.sequence
      ∙ sym (length-map job.sequence (λ (n : FileNumber). n.0)) ∙ ap length (sym is.sequence)
      ∙ ap (λ fs. length (numbers_of fs)) none

  pub inputs_stand : (space : Space) → job.space ≡ space → HasKind space compaction
      → Stands space told engine.store.sequence engine.store.unsequence compaction
      → AreInputsIn runs files compaction
      × ((place : ℕ) × IsPlaceOf space runs place × IsOutputPlace space compaction engine.store place)
  inputs_stand Sequence same kind gap =
      let first = stand.place same in (
        record {
          sequence = files_from runs.sequence job.sequence files.sequence compaction.sequence gap.run.before
              gap.run.behind stand.sequence is.sequence (are.sequence ∙ gap.run.is)
              (first ∙ sym is.place ∙ sym gap.place);
          unsequence = late_files runs.unsequence job.unsequence files.unsequence compaction.unsequence [] gap.later
              stand.unsequence once is.unsequence (are.unsequence ∙ gap.first);
        },
        (
          runs.sequence.first,
          (refl, first_late compaction.unsequence gap.later refl gap.first),
          first ∙ sym is.place,
        ),
      )
  inputs_stand Unsequence same kind run = (
    record {
      sequence = ap (λ n. map listed (take n (drop runs.sequence.first files.sequence))) (no_sequence kind.0)
          ∙ sym kind.0;
      unsequence = late_files runs.unsequence job.unsequence files.unsequence compaction.unsequence run.before
          run.behind stand.unsequence once is.unsequence (are.unsequence ∙ run.is);
    },
    (
      runs.unsequence.first,
      (refl, no_sequence kind.0),
      (run, late_first compaction.unsequence refl kind.1 run),
    ),
  )
    where
      late_first : (late : List File) → compaction.unsequence ≡ late → 2 ≤ length late
          → (run : IsRun compaction.unsequence engine.store.unsequence) → runs.unsequence.first ≡ length run.before
      late_first [] same some run = absurd (omega (arith, some))
      late_first (file ∷ late) same some run = begins_at runs.unsequence job.unsequence files.unsequence file late
          run.before run.behind stand.unsequence once (ap numbers_of (sym same) ∙ is.unsequence)
          (are.unsequence ∙ run.is ∙ ap (λ fs. run.before ++ (fs ++ run.behind)) same)
