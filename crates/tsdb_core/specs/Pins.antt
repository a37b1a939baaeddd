-- What pinning and unpinning leave of a core.
use Rattle.std.specs.Prelude.{◌≡◌, List, [], ◌∷◌}
use Rattle.std.specs.List.{flat_map}
use Rattle.tsdb_core.specs.Core.{IsSeen, KeepsJobs, files_of, flushed_below, is_sequence_claimed, limit_of, logged_of}
use Rattle.tsdb_core.specs.Core.{next_of, store_of}
use Rattle.tsdb_core.specs.Loans.{KeepsAllLoans, KeepsLoans, LentRight, lent_numbers}
use Rattle.tsdb_core.specs.declared.engine.Core.{Core}
use Rattle.tsdb_base.specs.Lists.{IsWithOne}
use Rattle.tsdb_memory.specs.LogState.{Outside}
use Rattle.tsdb_model.specs.World.{World}
use Rattle.tsdb_outside.specs.Files.{NamedFile}
use Rattle.tsdb_outside.specs.declared.disk.Disk as disk
use Rattle.tsdb_outside.specs.declared.faults.Counted as counted
use Rattle.tsdb_tasks.specs.Changes.{GivesRights, ChangesNoFile, TakesRights, column_numbers}
use Rattle.tsdb_tasks.specs.Pins.{AreColumnsHeld}
use Rattle.tsdb_tasks.specs.StateOfPin.{IsPinOf}
use Rattle.tsdb_tasks.specs.Pin.{Pin}
use Rattle.tsdb_tasks.specs.PinnedSource.{PinnedSource}
use Rattle.tsdb_tasks.specs.TheVariants.{File, Part}
use Rattle.tsdb_state.specs.State as state
use Rattle.tsdb_state.specs.State.{Compaction, EngineState, FlushState}
use Rattle.tsdb_state.specs.Steps.{PinStandsFor, TakesPin, pinned, unpinned}
use Rattle.tsdb_state.specs.Worlds.{StandsFor}

module _ {F S R P : Type 0} where
  -- rights on the files of the pin, one for each right that it has
  abbrev pub AreOnColumns : Pin F S R P → List LentRight → Type 0
  AreOnColumns pin rights = lent_numbers rights ≡ column_numbers pin.columns

module _ {F S R P : Type 0} (name : R → NamedFile) where
  -- the right that a source has, where it is a file
  abbrev pub source_rights : PinnedSource F S R P → List LentRight
  source_rights (File number born right) = record { number = number.0; name = name right } ∷ []
  source_rights (Part born points) = []

  -- the rights of the pin, in the order of its columns and their sources
  abbrev pub pin_rights : Pin F S R P → List LentRight
  pin_rights pin = flat_map (λ column. flat_map source_rights column.sources) pin.columns

module _ {J F S R P : Type 0} {means : disk.Ghosts J} {counts : counted.Ghosts J} where
  -- Nothing has changed but how many rights are out: log and memory, the number of the next file, that at the last
  -- flush, the limit of a pair, whether the sequence list is claimed, what is kept for jobs, and the store.
  pub record ChangesRights (old new : Core J F S R P means counts) : Type 0 where
    pub logged : logged_of new ≡ logged_of old
    pub next : next_of new ≡ next_of old
    pub limit : limit_of new ≡ limit_of old
    pub flushed : flushed_below new ≡ flushed_below old
    pub claimed : is_sequence_claimed new ≡ is_sequence_claimed old
    pub jobs : (flushes : List FlushState) (compactions : List Compaction) → KeepsJobs old flushes compactions
        → KeepsJobs new flushes compactions
    pub store : store_of new ≡ store_of old

  -- The pin is one that the state gives; the core shows the state with it; and it stands for the state's world.
  pub record IsPinStep (new : Core J F S R P means counts) (outside : Outside) (engine : EngineState) (pin : Pin F S R P)
      : Type 0 where
    pub shown : state.PinState
    pub is : IsPinOf pin shown
    pub takes : TakesPin outside.known shown engine
    pub seen : IsSeen new outside (pinned shown engine)
    pub world : (world : World) → StandsFor outside.told engine.store world → PinStandsFor outside.told shown world

  -- A pin was taken, and it has its rights.
  pub record IsPinned (name : R → NamedFile) (old new : Core J F S R P means counts) (pin : Pin F S R P) : Type 0 where
    pub rest : ChangesRights old new
    pub rights : TakesRights (column_numbers pin.columns) (files_of old) (files_of new)
    pub held : AreColumnsHeld name (files_of new) pin.columns
    pub loans : (flushes : List FlushState) (compactions : List Compaction) (lent : List (List LentRight))
        → KeepsLoans old flushes compactions lent
        → KeepsLoans new flushes compactions (pin_rights name pin ∷ lent)
    pub step : (outside : Outside) (engine : EngineState) → IsSeen old outside engine
        → IsPinStep new outside engine pin

  -- No pin was taken, and nothing has changed: the core shows the same states.
  pub record IsNotPinned (old new : Core J F S R P means counts) : Type 0 where
    pub rest : ChangesRights old new
    pub files : ChangesNoFile (files_of old) (files_of new)
    pub loans : KeepsAllLoans old new
    pub step : (outside : Outside) (engine : EngineState) → IsSeen old outside engine → IsSeen new outside engine

  -- The rights of the pin are given back: the core shows each state without the pin.
  pub record IsUnpinned (old new : Core J F S R P means counts) (pin : Pin F S R P) : Type 0 where
    pub rest : ChangesRights old new
    pub rights : GivesRights (column_numbers pin.columns) (files_of old) (files_of new)
    pub loans : (flushes : List FlushState) (compactions : List Compaction) (rights : List LentRight)
        (others lent : List (List LentRight)) → AreOnColumns pin rights → IsWithOne rights others lent
        → KeepsLoans old flushes compactions lent → KeepsLoans new flushes compactions others
    pub step : (outside : Outside) (engine : EngineState) (shown : state.PinState) (others : List state.PinState)
        → IsSeen old outside engine → IsPinOf pin shown → IsWithOne shown others engine.pins
        → IsSeen new outside (unpinned shown others engine)
