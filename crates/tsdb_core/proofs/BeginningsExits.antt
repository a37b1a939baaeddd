-- How the calls that begin a compaction end.
use Rattle.std.proofs.Common.{◌≡◌, ℕ, List, Option, None, Some, Result, Ok, Err, arith, refl, subst, sym}
use Rattle.tsdb_base.specs.declared.ids.Space.{Space}
use Rattle.tsdb_tasks.specs.Beginning.{AreFilesUntouched}
use Rattle.tsdb_tasks.specs.declared.finishing.InputRuns.{InputRuns}
use Rattle.tsdb_tasks.specs.Job.{Job}
use Rattle.tsdb_core.proofs.Beginnings.{begun_world}
use Rattle.tsdb_core.proofs.Commits.{not_taken, not_taken_world}
use Rattle.tsdb_core.specs.Beginnings.{IsBeginAnswer, IsBegun, IsBegunOrNot, IsCrossRuns, IsNotBegun, cross_run}
use Rattle.tsdb_core.specs.Worlds.{CoreKeepsWorld}
use Rattle.tsdb_core.specs.declared.commit.CoreFault.{CoreFault}
use Rattle.tsdb_core.specs.declared.commit.CoreFault.TheVariants.{Memory, Full}
use Rattle.tsdb_core.specs.declared.engine.Core.{Core}
use Rattle.tsdb_fileset.specs.Files.{KeepsLists, KeptFiles}
use Rattle.tsdb_fileset.specs.Places.{OnlyMakesPlaces}
use Rattle.tsdb_memory.specs.Commands.{IsPrepared}
use Rattle.tsdb_memory.specs.declared.logged_memory.LoggedMemory.{LoggedMemory}
use Rattle.tsdb_outside.specs.Files.{NamedFile}
use Rattle.tsdb_outside.specs.declared.disk.Disk as disk
use Rattle.tsdb_outside.specs.declared.faults.Counted as counted
use Rattle.tsdb_plan.specs.CrossPlan.{HasNoCrossPlan, IsEligible}
use Rattle.tsdb_plan.specs.declared.entry.FileEntry.{FileEntry}

-- the answer for some runs that are a plan is that for all plans
pub answer_of : {F S R P : Type 0} (IsPlan : InputRuns → Type 0) (runs : InputRuns) (next : ℕ)
    (result : Result (Option (Job F S R P)) CoreFault) → IsPlan runs
    → IsBeginAnswer (λ these. these ≡ runs) next result → IsBeginAnswer IsPlan next result
answer_of IsPlan runs next (Ok None) plan answer = absurd (answer runs refl)
answer_of IsPlan runs next (Ok (Some job)) plan answer = ((runs, plan), answer.1)
answer_of IsPlan runs next (Err Memory) plan answer = ((runs, plan), answer.1)
answer_of IsPlan runs next (Err (Full counter)) plan answer = ((runs, plan), answer.1, answer.2)

module _ {J : Type 0} {means : disk.Ghosts J} {counts : counted.Ghosts J} where
  pub nothing_prepared : (logged : LoggedMemory J means counts) → IsPrepared logged logged
  nothing_prepared logged = record {
    log = record { log = refl; doubted = refl };
    record_room = omega arith;
    room = record {
      series = refl;
      stamp = refl;
      watermarks = λ device. refl;
      marks = refl;
      frozen = refl;
      working = λ space number. refl;
    };
    same = λ state is. is;
  }

module _ {J F S R P : Type 0} {means : disk.Ghosts J} {counts : counted.Ghosts J} where
  pub begun_of : (name : R → NamedFile) (space : Space) (IsPlan : InputRuns → Type 0) (runs : InputRuns)
      (old new : Core J F S R P means counts) (result : Result (Option (Job F S R P)) CoreFault) → IsPlan runs
      → IsBegunOrNot name space (λ these. these ≡ runs) old new result → IsBegunOrNot name space IsPlan old new result
  begun_of name space IsPlan runs old new (Ok None) plan not = not
  begun_of name space IsPlan runs old new (Ok (Some job)) plan (these, same, begun) =
      (runs, plan, subst (λ r. IsBegun name space r old new job) same begun)
  begun_of name space IsPlan runs old new (Err fault) plan not = not

  pub same_world : (name : R → NamedFile) (space : Space) (IsPlan : InputRuns → Type 0)
      (old new : Core J F S R P means counts) (result : Result (Option (Job F S R P)) CoreFault)
      → IsBegunOrNot name space IsPlan old new result → CoreKeepsWorld old new
  same_world name space IsPlan old new (Ok None) not = not_taken_world old new not.same
  same_world name space IsPlan old new (Ok (Some job)) (these, plan, begun) =
      begun_world name space these old new job begun
  same_world name space IsPlan old new (Err fault) not = not_taken_world old new not.same

  pub not_begun : (old : Core J F S R P means counts) (logged : LoggedMemory J means counts) (files : KeptFiles)
      → IsPrepared old.logged logged → KeepsLists old.files files → OnlyMakesPlaces old.files.places files.places
      → files.spare ≡ old.files.spare → IsNotBegun old (record old { logged = logged; files = files })
  not_begun old logged files prepared lists made spare = record {
    logged = prepared;
    lists = lists;
    places = made;
    limit = refl;
    flushed = refl;
    claimed = refl;
    same = not_taken old logged files prepared lists made spare;
  }

  pub memory_taken : (old : Core J F S R P means counts) (logged : LoggedMemory J means counts) → IsPrepared old.logged logged
      → IsNotBegun old (record old { logged = logged })
  memory_taken old logged prepared = not_begun old logged old.files prepared
      (record { store = refl; sequence = refl; unsequence = refl; outgoing = refl })
      (record { files = λ n. refl; places = λ n is. is }) refl

  pub nothing_begun : (core : Core J F S R P means counts) → IsNotBegun core core
  nothing_begun core = memory_taken core core.logged (nothing_prepared core.logged)

  pub untouched : (old : Core J F S R P means counts) (logged : LoggedMemory J means counts) (files : KeptFiles)
      → IsPrepared old.logged logged → AreFilesUntouched old.files files
      → IsNotBegun old (record old { logged = logged; files = files })
  untouched old logged files prepared left = not_begun old logged files prepared left.lists
      (record { files = left.files; places = left.places }) left.room

  -- without a cross plan no runs are one
  pub no_cross : (core : Core J F S R P means counts) (sequence unsequence : List FileEntry)
      → sequence ≡ core.files.sequence → unsequence ≡ core.files.unsequence → HasNoCrossPlan sequence unsequence
      → (runs : InputRuns) → ¬ IsCrossRuns core runs
  no_cross core sequence unsequence first second none runs plan = none (cross_run runs)
      (subst (λ entries. IsEligible entries unsequence (cross_run runs)) (sym first)
      (subst (λ entries. IsEligible core.files.sequence entries (cross_run runs)) (sym second) plan.plan.eligible))
