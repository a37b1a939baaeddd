-- Which state of the engine a core shows, and what it keeps for the jobs that are out.
use Rattle.std.specs.Prelude.{◌≡◌, ◌≤◌, ◌<◌, ◌-◌, ◌==◌, ◌&&◌, ℕ, Bool, false, List, ◌++◌, Option, IfSome, length}
use Rattle.std.specs.Prelude.{slice_get}
use Rattle.std.specs.Option.{option_map}
use Rattle.std.specs.List.{AllByRecursion as Each, list_any}
use Rattle.tsdb_core.specs.declared.engine.Core.{Core}
use Rattle.tsdb_fileset.specs.StateOfFiles.{AreFilesOf, TellTheirBytes}
use Rattle.tsdb_fileset.specs.Files.{IsOpen, KeptFiles, kept_file}
use Rattle.tsdb_base.specs.Lists.{count}
use Rattle.tsdb_memory.specs.Fits.{HasCounts}
use Rattle.tsdb_memory.specs.LogState.{IsSoundLogged, Outside, memory_of, framed_room}
use Rattle.tsdb_memory.specs.declared.logged_memory.LoggedMemory.{LoggedMemory}
use Rattle.tsdb_memory.specs.StateOfMemory.{IsMemoryOf}
use Rattle.tsdb_memory.specs.Store.{FrozenPair}
use Rattle.tsdb_memtable.specs.Pairs.{Pair}
use Rattle.tsdb_outside.specs.Files.{Store}
use Rattle.tsdb_outside.specs.declared.disk.Disk as disk
use Rattle.tsdb_outside.specs.declared.faults.Counted as counted
use Rattle.tsdb_state.specs.Jobs.{KeepsRoom, drawn_numbers}
use Rattle.tsdb_state.specs.Plans.{ClaimLate, IsSequenceFree}
use Rattle.tsdb_state.specs.State.{Compaction, EngineState, File, FlushState, Room, StoreState}

-- the number is one, and above those of all kept files
pub record IsAboveNumbers (next : ℕ) (files : KeptFiles) : Type 0 where
  pub from_one : 1 ≤ next
  pub below : (number : ℕ) → IfSome (kept_file number files) (λ file. number < next)

-- the born of the last of the frozen pairs
abbrev pub newest_born : List FrozenPair → Option ℕ
newest_born frozen = option_map (λ pair. pair.born) (slice_get frozen (length frozen - 1))

-- a listed file of this number is claimed by a job
abbrev pub is_claimed : KeptFiles → File → Bool
is_claimed files file =
    list_any (λ entry. (entry.number.0 == file.number) && entry.claimed) (files.sequence ++ files.unsequence)

module _ {J F S R P : Type 0} {means : disk.Ghosts J} {counts : counted.Ghosts J} where
  -- what is in memory behind its log
  abbrev pub logged_of : Core J F S R P means counts → LoggedMemory J means counts
  logged_of core = core.logged

  -- the pair that rows are put into
  abbrev pub working_of : Core J F S R P means counts → Pair
  working_of core = (memory_of (logged_of core)).working

  -- the working pair of each state has the counts of the one in memory
  abbrev pub HasStateCounts : Core J F S R P means counts → Type 0
  HasStateCounts core = (state : StoreState) → IsMemoryOf (memory_of (logged_of core)) state
      → HasCounts (working_of core) state.working

  -- the files that are kept
  abbrev pub files_of : Core J F S R P means counts → KeptFiles
  files_of core = core.files

  -- the store that it is of
  abbrev pub store_of : Core J F S R P means counts → Store
  store_of core = (files_of core).store

  -- the most points of a working pair of several rows
  abbrev pub limit_of : Core J F S R P means counts → ℕ
  limit_of core = core.limit.points

  -- the number that the next file gets
  abbrev pub next_of : Core J F S R P means counts → ℕ
  next_of core = core.next_file

  -- The number that the next file had when a flush was last committed, or 0. A flush with a number below it is of a
  -- pair that is frozen no longer.
  abbrev pub flushed_below : Core J F S R P means counts → ℕ
  flushed_below core = core.flushed_below

  -- a job with a sequence output is out
  abbrev pub is_sequence_claimed : Core J F S R P means counts → Bool
  is_sequence_claimed core = core.sequence_claimed

  -- What the compactions that are out have claimed is claimed: their late inputs, and the sequence list where one of
  -- them has a sequence output.
  pub record AreClaimed (core : Core J F S R P means counts) (compactions : List Compaction) : Type 0 where
    pub late : ClaimLate (is_claimed (files_of core)) compactions
    pub sequence : is_sequence_claimed core ≡ false → IsSequenceFree compactions

  -- the room kept for the ends of jobs: places for files, and bytes of a record
  abbrev pub kept_room : Core J F S R P means counts → Room
  kept_room core = record {
    sequence = (files_of core).spare.sequence;
    unsequence = (files_of core).spare.unsequence;
    outgoing = (files_of core).spare.outgoing;
    record_bytes = framed_room (logged_of core);
  }

  -- What a core keeps for the jobs that are out, whatever is told: their numbers differ, lie from 1 to below the next one,
  -- and each has a place where its file is not there yet; and there is the room that their ends need. The numbers of kept
  -- files lie below the next one too, and the one at the last flush is at most it.
  pub record KeepsJobs (core : Core J F S R P means counts) (flushes : List FlushState) (compactions : List Compaction)
      : Type 0 where
    pub from_one : 1 ≤ next_of core
    pub below : (number : ℕ) → IfSome (kept_file number (files_of core)) (λ file. number < next_of core)
    pub flushed : flushed_below core ≤ next_of core
    pub differ : (number : ℕ) → count number (drawn_numbers flushes compactions) ≤ 1
    pub range : Each (λ number. (1 ≤ number) × (number < next_of core)) (drawn_numbers flushes compactions)
    pub places : Each (λ number. IsOpen number (files_of core)) (drawn_numbers flushes compactions)
    pub room : KeepsRoom (kept_room core) flushes compactions

  -- The log and memory are sound for the state, the files are those of the state, and they tell what is kept; the next
  -- number is that of the state, its jobs are kept, and its compactions have their claims.
  pub record IsSeen (core : Core J F S R P means counts) (outside : Outside) (state : EngineState) : Type 0 where
    pub sound : IsSoundLogged (logged_of core) outside state
    pub files : AreFilesOf (files_of core) outside.known state
    pub told : TellTheirBytes (files_of core) outside.kept
    pub next : next_of core ≡ state.next_file
    pub jobs : KeepsJobs core state.flushes state.compactions
    pub claims : AreClaimed core state.compactions
