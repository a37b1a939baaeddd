-- The files that a flush has built, as a core keeps them, and what is told of them.
use Rattle.std.specs.Prelude.{◌≡◌, ◌⊎◌, ℕ, List, ◌++◌, cond, is_some, map, nat_eq, Option, None, Some, IsSome, ⊤}
use Rattle.std.specs.List.{AllByRecursion as Each, flat_map}
use Rattle.std.specs.Option.{option_map}
use Rattle.tsdb_base.specs.declared.ids.FileNumber.{FileNumber}
use Rattle.tsdb_base.specs.declared.ids.Space.TheVariants.{Sequence, Unsequence}
use Rattle.tsdb_compactions.specs.Flushes.{IsFlushOf}
use Rattle.tsdb_fileset.specs.StateOfFiles.{entry_of, listed}
use Rattle.tsdb_state.specs.StoredEngine.{without_numbers}
use Rattle.tsdb_compactions.specs.FlushBuilt.{IsBuiltOf, IsPartDone}
use Rattle.tsdb_compactions.specs.FlushJobs.{IsJob, job_part}
use Rattle.tsdb_compactions.specs.Parts.{Filled}
use Rattle.tsdb_compactions.specs.Built.{Built}
use Rattle.tsdb_compactions.specs.FlushJob.{FlushJob}
use Rattle.tsdb_compactions.specs.Flushed.{Flushed}
use Rattle.tsdb_fileset.specs.Places.{KeptFile}
use Rattle.tsdb_base.specs.Lists.{IsWithOne, if_some}
use Rattle.tsdb_memory.specs.LogState.{Outside}
use Rattle.tsdb_outside.specs.Files.{NamedFile, Store, StoredFile}
use Rattle.tsdb_plan.specs.declared.entry.FileEntry.{FileEntry}
use Rattle.tsdb_state.specs.State as state
use Rattle.tsdb_state.specs.State.{EngineState, KnownFiles, KnownFile, File, ToldContents}

-- a new file: its entry, and what is kept beside it
pub record NewFile : Type 0 where
  pub entry : FileEntry
  pub token : KeptFile

-- the files of a flush, of each part where there is one
pub record NewFiles : Type 0 where
  pub sequence : Option NewFile
  pub unsequence : Option NewFile

module _ {F S R P : Type 0} (file : S → NamedFile) where
  -- a built file as a core keeps it: no right to read it is out
  abbrev pub file_built : Built F S R P → NewFile
  file_built built = record {
    entry = built.entry;
    token = record { name = file built.sealed; series = built.series; rights = 0 };
  }

  abbrev pub new_files : Flushed F S R P → NewFiles
  new_files files = record {
    sequence = option_map file_built files.sequence;
    unsequence = option_map file_built files.unsequence;
  }

module _ {F S R P : Type 0} (file : S → NamedFile) (rights : S → ℕ) (store : Store) where
  -- the job has its files in the store, one for each number that was drawn
  pub record AreDone (job : FlushJob) (files : Flushed F S R P) : Type 0 where
    pub sequence : IsPartDone file rights store job.born.0 (job_part Sequence job) job.sequence files.sequence
    pub unsequence : IsPartDone file rights store job.born.0 (job_part Unsequence job) job.unsequence files.unsequence

  -- those of its files that are there are done
  pub record AreDoneSoFar (job : FlushJob) (files : Flushed F S R P) : Type 0 where
    pub sequence : (files.sequence ≡ None)
        ⊎ IsPartDone file rights store job.born.0 (job_part Sequence job) job.sequence files.sequence
    pub unsequence : (files.unsequence ≡ None)
        ⊎ IsPartDone file rights store job.born.0 (job_part Unsequence job) job.unsequence files.unsequence

-- the files, sequence before unsequence
abbrev pub all_of : NewFiles → List NewFile
all_of files = if_some files.sequence ++ if_some files.unsequence

abbrev pub file_number : NewFile → ℕ
file_number file = file.entry.number.0

abbrev pub built_numbers : NewFiles → List ℕ
built_numbers files = map file_number (all_of files)

-- the files as an engine state has them
abbrev pub state_files : NewFiles → List File
state_files files = map (λ file. listed file.entry) (all_of files)

-- the file, where there is one, is that of the part, under the number that was drawn for it
abbrev pub IsOfPart : Store → ℕ → List Filled → Option FileNumber → Option NewFile → Type 0
IsOfPart store born part number None = ⊤
IsOfPart store born part None (Some file) = ⊥
IsOfPart store born part (Some number) (Some file) =
    IsBuiltOf store number.0 born part file.token.name file.token.rights file.entry file.token.series

-- the files that are there are those of the job's parts
pub record AreFilesOfJob (store : Store) (job : FlushJob) (files : NewFiles) : Type 0 where
  pub sequence : IsOfPart store job.born.0 (job_part Sequence job) job.sequence files.sequence
  pub unsequence : IsOfPart store job.born.0 (job_part Unsequence job) job.unsequence files.unsequence

-- there is a file for each number that was drawn
pub record AreAllThere (job : FlushJob) (files : NewFiles) : Type 0 where
  pub sequence : is_some job.sequence ≡ is_some files.sequence
  pub unsequence : is_some job.unsequence ≡ is_some files.unsequence

-- the tokens tell the bytes of their files
abbrev pub TellBytes : NewFiles → Type 0
TellBytes files = Each (λ file. IsSome file.token.name.bytes) (all_of files)

-- the job is one that a core hands out, and it is this flush of the state, beside the others
pub record IsOutAs (job : FlushJob) (flush : state.FlushState) (others : List state.FlushState) (engine : EngineState)
    : Type 0 where
  pub is_job : IsJob job
  pub of : IsFlushOf job flush
  pub out : IsWithOne flush others engine.flushes

-- the bytes of a new file, where its token tells them
abbrev pub stored_of : NewFile → List StoredFile
stored_of file = map (λ bytes. record { number = file_number file; bytes = bytes }) (if_some file.token.name.bytes)

-- with this at the number of the file, where there is one, and at all others as before
abbrev pub at_file : {X : Type 0} → Option NewFile → (NewFile → X) → (ℕ → X) → ℕ → X
at_file None value others = others
at_file (Some file) value others = λ number. cond (nat_eq number (file_number file)) (value file) (others number)

-- a new file has a part of the flush, and what is kept of it is known
abbrev pub told_after_flush : state.FlushState → NewFiles → ToldContents → ToldContents
told_after_flush flush files told = at_file files.unsequence (λ file. flush.pair.unsequence)
    (at_file files.sequence (λ file. flush.pair.sequence) told)

abbrev pub known_entry : NewFile → KnownFile
known_entry file = entry_of file.entry file.token.series

abbrev pub known_with : NewFiles → KnownFiles → KnownFiles
known_with files known = at_file files.unsequence known_entry (at_file files.sequence known_entry known)

-- the new files are kept, in the place of others of their numbers
abbrev pub kept_with : NewFiles → List StoredFile → List StoredFile
kept_with files kept = without_numbers (built_numbers files) kept ++ flat_map stored_of (all_of files)

-- the files of the flush are kept and known, and told as its parts
abbrev pub with_files : state.FlushState → NewFiles → Outside → Outside
with_files flush files outside = record outside {
  kept = kept_with files outside.kept;
  told = told_after_flush flush files outside.told;
  known = known_with files outside.known;
}
