-- What a core keeps for the jobs and the pins that are out, whatever is told.
use Rattle.std.specs.Prelude.{◌≡◌, ℕ, Bool, true, false, List, [], length, map, IfSome}
use Rattle.std.specs.List.{AllByRecursion as Each, flat_map}
use Rattle.std.specs.Option.{IsSomeAnd}
use Rattle.tsdb_base.specs.declared.ids.Space.{Space}
use Rattle.tsdb_base.specs.declared.ids.Space.TheVariants.{Sequence, Unsequence}
use Rattle.tsdb_core.specs.Core.{KeepsJobs, files_of, is_sequence_claimed}
use Rattle.tsdb_core.specs.declared.engine.Core.{Core}
use Rattle.tsdb_fileset.specs.Files.{KeptFiles, entry_numbers, kept_file}
use Rattle.tsdb_base.specs.Lists.{Among, EachPair, IsRun, count}
use Rattle.tsdb_outside.specs.Files.{NamedFile}
use Rattle.tsdb_outside.specs.declared.disk.Disk as disk
use Rattle.tsdb_outside.specs.declared.faults.Counted as counted
use Rattle.tsdb_plan.specs.declared.entry.FileEntry.{FileEntry}
use Rattle.tsdb_state.specs.Plans.{IsSequenceFree}
use Rattle.tsdb_state.specs.Records.{numbers_of}
use Rattle.tsdb_state.specs.State.{Compaction, FlushState}

-- a right that is out: the number under which its file is kept, and the file that it is one to read
pub record LentRight : Type 0 where
  pub number : ℕ
  pub name : NamedFile

abbrev pub lent_numbers : List LentRight → List ℕ
lent_numbers rights = map (λ (right : LentRight). right.number) rights

-- the rights of all jobs and pins, of which each has a list
abbrev pub all_lent : List (List LentRight) → List LentRight
all_lent lent = flat_map (λ (rights : List LentRight). rights) lent

-- The file that each right is one to read is kept, and each kept file counts the rights that are out on it.
pub record AreRightsKept (files : KeptFiles) (rights : List LentRight) : Type 0 where
  pub named : Each (λ (right : LentRight). IsSomeAnd (kept_file right.number files)
      (λ file. right.name ≡ file.name)) rights
  pub counted : (number : ℕ)
      → IfSome (kept_file number files) (λ file. file.rights ≡ count number (lent_numbers rights))

-- the late inputs of a job stand side by side in their list, and are claimed
pub record StandClaimed (numbers : List ℕ) (entries : List FileEntry) : Type 0 where
  pub taken : List FileEntry
  pub run : IsRun taken entries
  pub are : entry_numbers taken ≡ numbers
  pub claimed : Each (λ (entry : FileEntry). entry.claimed ≡ true) taken

-- the sequence inputs of a job stand from its place on; a job of late files has none
abbrev pub StandFrom : Space → ℕ → List ℕ → List ℕ → Type 0
StandFrom Sequence place numbers all = (run : IsRun numbers all) × (length run.before ≡ place)
StandFrom Unsequence place numbers all = numbers ≡ []

-- the inputs of the compaction stand in the lists
pub record StandsIn (files : KeptFiles) (job : Compaction) : Type 0 where
  pub late : StandClaimed (numbers_of job.unsequence) files.unsequence
  pub sequence : StandFrom job.space job.place (numbers_of job.sequence) (entry_numbers files.sequence)

-- two compactions have no number of a late file in common, and one of them at most has the sequence list
pub record AreJobNumbersApart (job other : Compaction) : Type 0 where
  pub one : job.space ≡ Sequence → other.space ≡ Sequence → ⊥
  pub late : (number : ℕ) → Among number (numbers_of job.unsequence) → Among number (numbers_of other.unsequence) → ⊥

-- one of the compactions has the late file of this number as an input
pub record HasLate (compactions : List Compaction) (number : ℕ) : Type 0 where
  pub job : Compaction
  pub among : Among job compactions
  pub input : Among number (numbers_of job.unsequence)

-- a late file that is claimed is an input of one of the compactions
abbrev pub IsOwned : List Compaction → FileEntry → Type 0
IsOwned compactions entry = entry.claimed ≡ true → HasLate compactions entry.number.0

-- no job has claimed the files
abbrev pub AreUnclaimed : List FileEntry → Type 0
AreUnclaimed entries = Each (λ (entry : FileEntry). entry.claimed ≡ false) entries

-- The inputs of the compactions stand in the lists, and no two of them share one. The sequence list is claimed exactly
-- where one of them has it, and a late file where one of them reads it.
pub record KeepsInputs (files : KeptFiles) (claimed : Bool) (compactions : List Compaction) : Type 0 where
  pub stand : Each (StandsIn files) compactions
  pub apart : EachPair AreJobNumbersApart compactions
  pub free : claimed ≡ false → IsSequenceFree compactions
  pub taken : claimed ≡ true → ¬ IsSequenceFree compactions
  pub owned : Each (IsOwned compactions) files.unsequence

module _ {J F S R P : Type 0} {means : disk.Ghosts J} {counts : counted.Ghosts J} where
  -- no job has claimed anything
  pub record IsNothingClaimed (core : Core J F S R P means counts) : Type 0 where
    pub sequence : is_sequence_claimed core ≡ false
    pub late : AreUnclaimed (files_of core).unsequence

  -- What a core keeps for these flushes and compactions, and for the rights of these jobs and pins. A flush, a
  -- compaction or a pin that is among them can be ended, whichever calls come before its end.
  pub record KeepsLoans (core : Core J F S R P means counts) (flushes : List FlushState) (compactions : List Compaction)
      (lent : List (List LentRight)) : Type 0 where
    pub jobs : KeepsJobs core flushes compactions
    pub inputs : KeepsInputs (files_of core) (is_sequence_claimed core) compactions
    pub rights : AreRightsKept (files_of core) (all_lent lent)

  -- all that was kept for jobs and pins is kept
  abbrev pub KeepsAllLoans : Core J F S R P means counts → Core J F S R P means counts → Type 0
  KeepsAllLoans old new = (flushes : List FlushState) (compactions : List Compaction) (lent : List (List LentRight))
      → KeepsLoans old flushes compactions lent → KeepsLoans new flushes compactions lent
