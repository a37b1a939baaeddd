-- What the turns of a compaction answer and leave, and a compaction as a whole.
use Rattle.std.specs.Prelude.{◌≡◌, ◌⊎◌, ℕ, ◌+◌, ◌<◌, ◌≤◌, Bool, true, false, IfSome, Option, None, Some}
use Rattle.std.specs.Prelude.{Result}
use Rattle.std.specs.declared.result.Result.TheVariants.{Ok, Err}
use Rattle.tsdb_base.specs.Limits.{end_of_numbers}
use Rattle.tsdb_base.specs.declared.ids.Space.{Space}
use Rattle.tsdb_base.specs.declared.ids.Space.TheVariants.{Sequence, Unsequence}
use Rattle.tsdb_serving.specs.Finishing.{AreRunsOf}
use Rattle.tsdb_serving.specs.InputRuns.{InputRuns}
use Rattle.tsdb_serving.specs.TasksEnding.{AreFreed}
use Rattle.tsdb_compactions.specs.Built.{Built}
use Rattle.tsdb_compactions.specs.Outputs.{TellsTruth}
use Rattle.tsdb_compactions.specs.declared.job.Job.{Job}
use Rattle.tsdb_serving.specs.Beginnings.{HasPlan, IsBegun, IsNotBegun}
use Rattle.tsdb_serving.specs.Core.{files_of, logged_of, next_of}
use Rattle.tsdb_serving.specs.CoreType.{Core}
use Rattle.tsdb_fileset.specs.Files.{KeptFiles}
use Rattle.tsdb_fileset.specs.Replacing.{output_in, replace_run}
use Rattle.tsdb_base.specs.Lists.{if_some}
use Rattle.tsdb_memory.specs.LogState.{memory_of}
use Rattle.tsdb_outside.specs.Files.{NamedFile, Store}
use Rattle.tsdb_outside.specs.declared.disk.Disk as disk
use Rattle.tsdb_outside.specs.declared.faults.Counted as counted
use Rattle.tsdb_outside.specs.declared.faults.Failed.{Failed}
use Rattle.tsdb_plan.specs.declared.entry.FileEntry.{FileEntry}
use Rattle.tsdb_serving.specs.Flushing.{EndsLoan, LendsOne, StaysIdle}
use Rattle.tsdb_serving.specs.Serving.{ServesWithout}
use Rattle.tsdb_serving.specs.declared.fault.FlushFault.{FlushFault}
use Rattle.tsdb_serving.specs.declared.fault.FlushFault.TheVariants.{Device, Full, Memory}
use Rattle.tsdb_serving.specs.declared.loan.Loan.TheVariants as loan
use Rattle.tsdb_state.specs.State.{ToldContents}

-- What the start of a compaction answers: none exactly where no runs are a plan; full exactly where some are, and two
-- numbers more are too many, with the next number; never that a device failed.
abbrev pub IsStartAnswer : {F S R P : Type 0} → (InputRuns → Type 0) → ℕ → Result (Option (Job F S R P)) FlushFault
    → Type 0
IsStartAnswer IsPlan next (Ok None) = (runs : InputRuns) → ¬ IsPlan runs
IsStartAnswer IsPlan next (Ok (Some job)) = HasPlan IsPlan × (next + 2 ≤ end_of_numbers)
IsStartAnswer IsPlan next (Err Memory) = HasPlan IsPlan × (next + 2 ≤ end_of_numbers)
IsStartAnswer IsPlan next (Err (Full counter)) = HasPlan IsPlan × (end_of_numbers < next + 2) × (counter ≡ next)
IsStartAnswer IsPlan next (Err Device) = ⊥

-- A fault that says that the numbers for files are used up is there where too few are left, and has the next one.
abbrev pub IsFullAtEnd : ℕ → FlushFault → Type 0
IsFullAtEnd next fault =
    (counter : ℕ) → fault ≡ Full counter → (end_of_numbers < counter + 2) × (counter ≡ next)

-- The runs of both lists have left, and a file of this number stands in the place of that of its space, or none.
pub record IsReplacedBy (number : ℕ) (space : Space) (runs : InputRuns) (old new : KeptFiles) : Type 0 where
  pub output : Option FileEntry
  pub numbered : IfSome output (λ entry. entry.number.0 ≡ number)
  pub sequence : new.sequence ≡ replace_run runs.sequence (if_some (output_in Sequence space output)) old.sequence
  pub unsequence : new.unsequence
      ≡ replace_run runs.unsequence (if_some (output_in Unsequence space output)) old.unsequence

-- both lists are as they were
pub record KeepsBoth (old new : KeptFiles) : Type 0 where
  pub sequence : new.sequence ≡ old.sequence
  pub unsequence : new.unsequence ≡ old.unsequence

-- the output of a job, where there is one, is in the store
abbrev pub IsOutputOfStore : {F S R P : Type 0} → (S → NamedFile) → Store → Option (Built F S R P) → Type 0
IsOutputOfStore file store output = IfSome output (λ built. (file built.sealed).store ≡ store)

-- what was told at some time of the inputs of a job is so
abbrev pub WasTold : {F S R P : Type 0} → (R → NamedFile) → Job F S R P → Type 0
WasTold name job = (told : ToldContents) × TellsTruth name told job

module _ {J F S R P : Type 0} {means : disk.Ghosts J} {counts : counted.Ghosts J} where
  -- The files of a plan were replaced by one with the next number, or by none; or there is no plan, and the lists are
  -- as they were.
  abbrev pub IsCompacted : (InputRuns → Type 0) → Space → Core J F S R P means counts → Core J F S R P means counts
      → Type 0
  IsCompacted IsPlan space old new =
      ((runs : InputRuns) × IsPlan runs × IsReplacedBy (next_of old) space runs (files_of old) (files_of new))
      ⊎ (((runs : InputRuns) → ¬ IsPlan runs) × KeepsBoth (files_of old) (files_of new))

  -- The files of the job have left their lists, and its output, or none, stands in their place.
  abbrev pub IsFinished : Job F S R P → Core J F S R P means counts → Core J F S R P means counts → Type 0
  IsFinished job old new = (runs : InputRuns) × AreRunsOf job runs (files_of old)
      × IsReplacedBy job.output.0 job.space runs (files_of old) (files_of new)

  -- The job is given up: the lists have their files, its late inputs are free, and memory is as it was.
  pub record IsGivenUp (job : Job F S R P) (old new : Core J F S R P means counts) : Type 0 where
    pub sequence : (files_of new).sequence ≡ (files_of old).sequence
    pub unsequence : AreFreed job.unsequence (files_of old).unsequence (files_of new).unsequence
    pub memory : memory_of (logged_of new) ≡ memory_of (logged_of old)

  -- What the end of a job answers and makes of it: where it is whole its output stands in the place of its inputs, or
  -- the log could not be written; else it is given up.
  abbrev pub IsEndOf : Bool → Job F S R P → Core J F S R P means counts → Core J F S R P means counts
      → Result (Unit {0}) Failed → Type 0
  IsEndOf true job old new (Ok done) = IsFinished job old new
  IsEndOf true job old new (Err failed) = IsGivenUp job old new
  IsEndOf false job old new (Ok done) = IsGivenUp job old new
  IsEndOf false job old new (Err failed) = ⊥

  -- no job has begun, and nothing is lent
  pub record LendsNoJob (old new : Core J F S R P means counts) : Type 0 where
    pub none : IsNotBegun old new
    pub turn : StaysIdle old new

  module _ (name : R → NamedFile) where
    -- The job of these runs has begun, with the next number, and is out beside what was out.
    pub record LendsJob (space : Space) (runs : InputRuns) (old new : Core J F S R P means counts) (job : Job F S R P)
        : Type 0 where
      pub begun : IsBegun name space runs old new job
      pub turn : LendsOne name (loan.Compaction job) 1 old new

    -- a job of the files of a plan is out, or none has begun
    abbrev pub LendsJobOrNot : {E : Type 0} → Space → (InputRuns → Type 0) → Core J F S R P means counts
        → Core J F S R P means counts → Result (Option (Job F S R P)) E → Type 0
    LendsJobOrNot space IsPlan old new (Ok None) = LendsNoJob old new
    LendsJobOrNot space IsPlan old new (Ok (Some job)) =
        (runs : InputRuns) × IsPlan runs × LendsJob space runs old new job
    LendsJobOrNot space IsPlan old new (Err fault) = LendsNoJob old new

    -- What the end of a job leaves: it is out no longer. Where the store tells what its files hold, and the job was
    -- told the truth at its beginning, the core is in the states that it was in. Its output may have been put.
    pub record EndsJob (store : Store) (job : Job F S R P) (old new : Core J F S R P means counts) : Type 0 where
      pub ends : EndsLoan name store (loan.Compaction job) old new
      pub serves : store.tells ≡ true → WasTold name job
          → ServesWithout (λ number. number ≡ job.output.0) (loan.Compaction job) old new
