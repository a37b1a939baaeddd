-- The end of a job, as the engine state has it.
use Rattle.std.specs.Prelude.{◌≡◌, ◌≢◌, ℕ, List, map, Option, IfSome, None, Some, slice_range, ⊤}
use Rattle.tsdb_base.specs.declared.ids.Space.{Space}
use Rattle.tsdb_base.specs.declared.ids.Space.TheVariants.{Sequence, Unsequence}
use Rattle.tsdb_tasks.specs.Files.{NewFile, file_number}
use Rattle.tsdb_tasks.specs.declared.finishing.InputRuns.{InputRuns}
use Rattle.tsdb_fileset.specs.StateOfFiles.{listed}
use Rattle.tsdb_state.specs.StoredEngine.{kept_bytes}
use Rattle.tsdb_fileset.specs.Files.{KeptFiles}
use Rattle.tsdb_fileset.specs.Replacing.{run_length}
use Rattle.tsdb_base.specs.Lists.{if_some}
use Rattle.tsdb_outside.specs.Files.{StoredFile}
use Rattle.tsdb_state.specs.State.{Compaction, EngineState, File}

-- the output, where there is one, as the state has it
abbrev pub sent_files : Option NewFile → List File
sent_files file = map (λ one. listed one.entry) (if_some file)

-- no right to read a file of this number is out, and the output, where there is one, has the number
pub record IsFresh (number : ℕ) (file : Option NewFile) (engine : EngineState) : Type 0 where
  pub unread : engine.rights number ≡ 0
  pub is : IfSome file (λ one. (file_number one ≡ number) × (one.token.rights ≡ 0))

-- the file has the number, and the stamp at the beginning of the job
pub record HasNumberAndBorn (drawn stamp : ℕ) (one : NewFile) : Type 0 where
  pub number : file_number one ≡ drawn
  pub born : one.entry.born.0 ≡ stamp

-- the output, where there is one, has them
abbrev pub IsNewOf : ℕ → ℕ → Option NewFile → Type 0
IsNewOf number born None = ⊤
IsNewOf number born (Some one) = HasNumberAndBorn number born one

-- The place of the output of a job whose inputs stand in these runs. Late inputs of a sequence output are the first of
-- their list, and a job of late files has no sequence inputs.
abbrev pub IsPlaceOf : Space → InputRuns → ℕ → Type 0
IsPlaceOf Sequence runs place = (place ≡ runs.sequence.first) × (runs.unsequence.first ≡ 0)
IsPlaceOf Unsequence runs place = (place ≡ runs.unsequence.first) × (run_length runs.sequence ≡ 0)

-- the files of the runs are the inputs of the compaction
pub record AreInputsIn (runs : InputRuns) (files : KeptFiles) (compaction : Compaction) : Type 0 where
  pub sequence : map listed (slice_range files.sequence runs.sequence.first runs.sequence.end) ≡ compaction.sequence
  pub unsequence : map listed (slice_range files.unsequence runs.unsequence.first runs.unsequence.end)
      ≡ compaction.unsequence

-- All numbers but that of the output have the bytes that they had, and the token of the output, where there is one,
-- tells those of its number.
pub record TellsOutput (number : ℕ) (file : Option NewFile) (kept told : List StoredFile) : Type 0 where
  pub others : (n : ℕ) → number ≢ n → kept_bytes told n ≡ kept_bytes kept n
  pub here : IfSome file (λ one. (one.token.name.number ≡ number) × (one.token.name.bytes ≡ kept_bytes told number))
