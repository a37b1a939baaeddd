-- What the calls of a core that end a compaction leave.
use Rattle.std.specs.Prelude.{◌≡◌, ◌⊎◌, ℕ, Bool, false, List, Option, None, Some, Result, IfSome, IsSome, OnErr, ⊤}
use Rattle.std.specs.Option.{option_map}
use Rattle.std.specs.declared.result.Result.TheVariants.{Ok, Err}
use Rattle.tsdb_base.specs.declared.ids.FileNumber.{FileNumber}
use Rattle.tsdb_base.specs.declared.ids.Space.{Space}
use Rattle.tsdb_base.specs.declared.ids.Space.TheVariants.{Sequence, Unsequence}
use Rattle.tsdb_base.specs.declared.ids.Stamp.{Stamp}
use Rattle.tsdb_tasks.specs.Files.{NewFile}
use Rattle.tsdb_tasks.specs.Ending.{GivesUp}
use Rattle.tsdb_tasks.specs.Finishing.{AreRunsOf, Finishes}
use Rattle.tsdb_tasks.specs.States.{sent_files}
use Rattle.tsdb_tasks.specs.declared.finishing.InputRuns.{InputRuns}
use Rattle.tsdb_tasks.specs.Jobs.{IsCompactionOf}
use Rattle.tsdb_tasks.specs.CompactionsOutputs.{TellsInputs}
use Rattle.tsdb_tasks.specs.Job.{Job}
use Rattle.tsdb_core.specs.Compactions.{AreOnInputs}
use Rattle.tsdb_core.specs.Core.{IsSeen, KeepsJobs, files_of, flushed_below, is_sequence_claimed, limit_of, logged_of}
use Rattle.tsdb_core.specs.Core.{next_of, store_of, working_of}
use Rattle.tsdb_core.specs.Loans.{KeepsLoans, LentRight}
use Rattle.tsdb_core.specs.Worlds.{IsWorldOf}
use Rattle.tsdb_core.specs.declared.engine.Core.{Core}
use Rattle.tsdb_frames.specs.Calls.{KeepsToSlot}
use Rattle.tsdb_frames.specs.Frames.{faults_of}
use Rattle.tsdb_fileset.specs.Files.{KeptFiles, listed_borns}
use Rattle.tsdb_fileset.specs.Replacing.{HasReplaced}
use Rattle.tsdb_base.specs.Lists.{IsWithOne}
use Rattle.tsdb_state.specs.Places.{Content}
use Rattle.tsdb_log.specs.declared.record.LogRecord.{LogRecord}
use Rattle.tsdb_log.specs.declared.record.LogRecord.TheVariants.{Create, Delete, Flushed, Freeze, Insert, Replaced}
use Rattle.tsdb_log.specs.declared.record.LogRecord.TheVariants.{Snapshot}
use Rattle.tsdb_memory.specs.Changes.{KeepsSeries}
use Rattle.tsdb_memory.specs.LogState.{LeavesStates, Outside, log_of, memory_of, with_record}
use Rattle.tsdb_memory.specs.Replacing.{IsReplaced}
use Rattle.tsdb_model.specs.World.{World}
use Rattle.tsdb_memory.specs.Least.{IsLeastOf}
use Rattle.tsdb_outside.specs.Causes.{HasCause}
use Rattle.tsdb_outside.specs.Files.{NamedFile}
use Rattle.tsdb_outside.specs.declared.disk.Disk as disk
use Rattle.tsdb_outside.specs.declared.faults.Counted as counted
use Rattle.tsdb_outside.specs.declared.faults.Failed.{Failed}
use Rattle.tsdb_tasks.specs.Outputs.{IsNewOutput, with_output}
use Rattle.tsdb_state.specs.State.{Compaction, EngineState, File, FlushState, ToldContents}
use Rattle.tsdb_state.specs.Steps.{IsOutputPlace, committed, compaction_record, ended, failed, output_number, settled}
use Rattle.tsdb_state.specs.Worlds.{KeepsWorld, StandsFor}

-- the output, where there is one, is that of the compaction, and has this content
abbrev pub IsOutputIn : ToldContents → Compaction → Option NewFile → Content → Type 0
IsOutputIn told compaction None content = ⊤
IsOutputIn told compaction (Some file) content = IsNewOutput told compaction content file

-- the output, where there is one, is kept and known, and told with this content
abbrev pub with_new : Content → Option NewFile → Outside → Outside
with_new content None outside = outside
with_new content (Some file) outside = with_output content file outside

-- the token of the output, where there is one, tells its bytes
abbrev pub TellsNew : Option NewFile → Type 0
TellsNew file = IfSome file (λ one. IsSome one.token.name.bytes)

-- a job with a sequence output has the sequence list claimed until it ends
abbrev pub without_claim : Space → Bool → Bool
without_claim Sequence claimed = false
without_claim Unsequence claimed = claimed

-- where the output of a job stands whose inputs stand in these runs: at the first of those of its space
abbrev pub output_place : Space → InputRuns → ℕ
output_place Sequence runs = runs.sequence.first
output_place Unsequence runs = runs.unsequence.first

-- the numbers of the inputs of each list, in a record that replaces files
abbrev pub record_inputs : LogRecord → Option (List FileNumber × List FileNumber)
record_inputs (Replaced born space place output sequence unsequence) = Some (sequence, unsequence)
record_inputs (Create path data_type encoding) = None
record_inputs (Insert time cells) = None
record_inputs (Delete path range) = None
record_inputs Freeze = None
record_inputs (Flushed sequence unsequence) = None
record_inputs (Snapshot snapshot) = None

module _ {F S R P : Type 0} where
  -- the record of a job whose inputs stand in these runs: they are replaced by the output, or by none
  abbrev pub end_record : Job F S R P → InputRuns → Option NewFile → LogRecord
  end_record job runs file = Replaced job.born job.space (output_place job.space runs)
      (record { 0 = output_number (sent_files file) }) job.sequence job.unsequence

  -- The files after a commit of a job whose inputs stand in these runs: with the record the output stands in their
  -- place, and they are on their way out; without it the job is given up.
  abbrev pub EndsFiles : Job F S R P → InputRuns → Option NewFile → KeptFiles → KeptFiles
      → Result (Unit {0}) Failed → Type 0
  EndsFiles job runs file old new (Ok done) = Finishes old new job runs file
  EndsFiles job runs file old new (Err fault) = GivesUp old new job file

module _ {J F S R P : Type 0} {means : disk.Ghosts J} {counts : counted.Ghosts J} where
  -- What each end of a compaction leaves: the sequence list is free where the job had claimed it, and what is kept for
  -- the other jobs stays.
  pub record HasEndedJob (old new : Core J F S R P means counts) (job : Job F S R P)
      (file : Option NewFile) : Type 0 where
    pub flushed : flushed_below new ≡ flushed_below old
    pub claimed : is_sequence_claimed new ≡ without_claim job.space (is_sequence_claimed old)
    pub next : next_of new ≡ next_of old
    pub limit : limit_of new ≡ limit_of old
    pub store : store_of new ≡ store_of old
    pub jobs : (compaction : Compaction) (others compactions : List Compaction) (flushes : List FlushState)
        → IsCompactionOf job compaction → IsWithOne compaction others compactions
        → KeepsJobs old flushes compactions → KeepsJobs new flushes others
    pub loans : (compaction : Compaction) (others compactions : List Compaction) (flushes : List FlushState)
        (rights : List LentRight) (others_lent lent : List (List LentRight)) → IsCompactionOf job compaction
        → IsWithOne compaction others compactions → AreOnInputs job rights → IsWithOne rights others_lent lent
        → KeepsLoans old flushes compactions lent → KeepsLoans new flushes others others_lent

  -- the record of the job was appended, or could not be
  pub record AppendsEnd (old new : Core J F S R P means counts) (job : Job F S R P) (runs : InputRuns)
      (file : Option NewFile) (outcome : Result (Unit {0}) Failed)
      : Type 0 where
    pub listed : Option Stamp
    pub least : (files : KeptFiles)
        → HasReplaced job.space runs.sequence runs.unsequence (option_map (λ one. one.entry) file) (files_of old) files
        → IsLeastOf listed (listed_borns files)
    pub replaced : IsReplaced (logged_of old) (logged_of new) (end_record job runs file) listed outcome

  -- The state after a commit: done, the output stands at its place; the device failed, it is on its way out, and none
  -- is in doubt, or what was, or this record.
  abbrev pub IsSeenAfterEnd : Core J F S R P means counts → Outside → EngineState → Compaction → List Compaction
      → List File → ℕ → Result (Unit {0}) Failed → Type 0
  IsSeenAfterEnd new outside engine job others output place (Ok done) =
      IsSeen new (with_record (compaction_record job output place) outside) (committed job others output place engine)
  IsSeenAfterEnd new outside engine job others output place (Err fault) =
      IsSeen new outside (settled (ended job others output engine))
      ⊎ (IsSeen new outside (ended job others output engine)
      ⊎ IsSeen new outside (failed (compaction_record job output place) (ended job others output engine)))

  -- What a commit leaves of a state that the core shows. At each moment a stop leaves the world of the state, with the
  -- output kept, and the record keeps the world.
  pub record CommitsIn (old new : Core J F S R P means counts) (outside : Outside) (engine : EngineState)
      (job : Compaction) (others : List Compaction) (file : Option NewFile) (outcome : Result (Unit {0}) Failed)
      : Type 0 where
    pub content : Content
    pub output : IsOutputIn outside.told job file content
    pub place : ℕ
    pub stands : IsOutputPlace job.space job engine.store place
    pub step : IsSeenAfterEnd new (with_new content file outside) engine job others (sent_files file) place outcome
    pub moments : LeavesStates (logged_of old) (logged_of new) (with_new content file outside) engine
        (compaction_record job (sent_files file) place)
    pub world : (world : World) → StandsFor outside.told engine.store world → IsWorldOf new world
    pub keeps : KeepsWorld (with_new content file outside).told engine.store
        (committed job others (sent_files file) place engine).store

  -- What a commit leaves, and what of every state in which the rights of the job and the token of its output tell
  -- bytes. The device fails only where its count of faults rose.
  pub record IsJobCommit (name : R → NamedFile) (old new : Core J F S R P means counts) (job : Job F S R P)
      (file : Option NewFile) (outcome : Result (Unit {0}) Failed)
      : Type 0 where
    pub ends : HasEndedJob old new job file
    pub runs : InputRuns
    pub stand : AreRunsOf job runs (files_of old)
    pub files : EndsFiles job runs file (files_of old) (files_of new) outcome
    pub states : (outside : Outside) (engine : EngineState) (compaction : Compaction) (others : List Compaction)
        → IsSeen old outside engine → IsCompactionOf job compaction → IsWithOne compaction others engine.compactions
        → TellsInputs name outside.told job → TellsNew file
        → CommitsIn old new outside engine compaction others file outcome
    pub frozen : (memory_of (logged_of new)).frozen ≡ (memory_of (logged_of old)).frozen
    pub working : working_of new ≡ working_of old
    pub kept : KeepsSeries (memory_of (logged_of old)) (memory_of (logged_of new))
    pub memory : OnErr outcome (memory_of (logged_of new) ≡ memory_of (logged_of old))
    pub slot : KeepsToSlot (log_of (logged_of old)) (log_of (logged_of new))
    pub cause : HasCause (faults_of (log_of (logged_of old))) (faults_of (log_of (logged_of new))) outcome

  -- What giving a job up leaves: its output is on its way out, if there is one, and log and memory stay.
  pub record IsJobAbandoned (old new : Core J F S R P means counts) (job : Job F S R P) (file : Option NewFile)
      : Type 0 where
    pub logged : logged_of new ≡ logged_of old
    pub ends : HasEndedJob old new job file
    pub files : GivesUp (files_of old) (files_of new) job file
    pub step : (outside : Outside) (engine : EngineState) (compaction : Compaction) (others : List Compaction)
        (content : Content) → IsSeen old outside engine → IsCompactionOf job compaction
        → IsWithOne compaction others engine.compactions → IsOutputIn outside.told compaction file content
        → IsSeen new (with_new content file outside) (ended compaction others (sent_files file) engine)
    pub world : (outside : Outside) (engine : EngineState) (compaction : Compaction) (others : List Compaction)
        (content : Content) (world : World) → IsSeen old outside engine → IsCompactionOf job compaction
        → IsWithOne compaction others engine.compactions → IsOutputIn outside.told compaction file content
        → StandsFor outside.told engine.store world → IsWorldOf new world
