-- Which compaction a plan begins.
use Rattle.std.specs.Prelude.{◌≡◌, ◌⊎◌, ℕ, ◌+◌, ◌≤◌, Bool, List}
use Rattle.std.specs.List.{AllByRecursion as Each, filter}
use Rattle.tsdb_base.specs.Lists.{Among}
use Rattle.tsdb_marks.specs.Lists.{is_of}
use Rattle.tsdb_plan.specs.CrossPlan.{IsCrossPlan}
use Rattle.tsdb_plan.specs.InnerPlan.{IsInnerPlan}
use Rattle.tsdb_plan.specs.declared.entry.CrossRun.{CrossRun}
use Rattle.tsdb_plan.specs.declared.entry.Run.{Run}
use Rattle.tsdb_state.specs.Jobs.{job_inputs}
use Rattle.tsdb_base.specs.Limits.{end_of_numbers}
use Rattle.tsdb_state.specs.Plans.{IsCrossJob, IsInnerSequenceJob, IsInnerUnsequenceJob, IsSequenceFree, file_entries}
use Rattle.tsdb_state.specs.State.{Compaction, EngineState, KnownFiles, File}

-- the files of the job are those of the inner plan of the sequence list, which no job has claimed
pub record IsInnerSequence (known : KnownFiles) (claimed : File → Bool) (engine : EngineState) (job : Compaction)
    : Type 0 where
  pub run : Run
  pub plan : IsInnerPlan (file_entries known claimed engine.store.sequence) run
  pub is : IsInnerSequenceJob run engine.store.sequence job
  pub free : IsSequenceFree engine.compactions

-- those of the inner plan of the unsequence list
pub record IsInnerUnsequence (known : KnownFiles) (claimed : File → Bool) (engine : EngineState) (job : Compaction)
    : Type 0 where
  pub run : Run
  pub plan : IsInnerPlan (file_entries known claimed engine.store.unsequence) run
  pub is : IsInnerUnsequenceJob run engine.store.unsequence job

-- those of the cross plan, where no job has claimed the sequence list
pub record IsCross (known : KnownFiles) (claimed : File → Bool) (engine : EngineState) (job : Compaction) : Type 0 where
  pub run : CrossRun
  pub plan : IsCrossPlan (file_entries known claimed engine.store.sequence)
      (file_entries known claimed engine.store.unsequence) run
  pub is : IsCrossJob run engine.store.sequence engine.store.unsequence job
  pub free : IsSequenceFree engine.compactions

-- the files of the job are those of a plan, where these files are claimed
abbrev pub IsPlanned : KnownFiles → (File → Bool) → EngineState → Compaction → Type 0
IsPlanned known claimed engine job = IsInnerSequence known claimed engine job
    ⊎ (IsInnerUnsequence known claimed engine job ⊎ IsCross known claimed engine job)

-- the job has the stamp, the marks of the series of its inputs, and the next number; two numbers more are not too many
pub record IsOfMoment (known : KnownFiles) (engine : EngineState) (job : Compaction) : Type 0 where
  pub born : job.born ≡ engine.store.stamp
  pub paths : List (List ℕ)
  pub all : Each (λ file. (path : List ℕ) → Among path (known file.number).series → Among path paths) (job_inputs job)
  pub marks : job.marks ≡ filter (is_of paths) engine.store.marks
  pub output : job.output ≡ engine.next_file
  pub left : engine.next_file + 2 ≤ end_of_numbers
