-- When an engine state is in order.
use Rattle.std.specs.Prelude.{ℕ, List, ◌++◌, IfSome, ⊤}
use Rattle.std.specs.List.{AllByRecursion as Each}
use Rattle.tsdb_log.specs.declared.record.LogRecord.{LogRecord}
use Rattle.tsdb_log.specs.declared.record.LogRecord.TheVariants.{Create, Delete, Flushed, Freeze, Insert, Replaced, Snapshot}
use Rattle.tsdb_state.specs.Jobs.{CompactionsInOrder, EntriesMatch, IsFlushOut, KeepsRoom, NumbersInOrder, RightsMatch}
use Rattle.tsdb_state.specs.Jobs.{drawn_numbers, held_numbers}
use Rattle.tsdb_base.specs.Lists.{Among}
use Rattle.tsdb_state.specs.Records.{CanFollow, after, names, numbers_of}
use Rattle.tsdb_state.specs.State.{EngineState, KnownFiles, File, StoreState, ToldContents}
use Rattle.tsdb_state.specs.StoreOrder.{StoreInOrder}
use Rattle.tsdb_state.specs.Worlds.{KeepsWorld}

-- all files that are there: those of the two lists, and those on their way out
abbrev pub all_files : EngineState → List File
all_files state = (state.store.sequence ++ state.store.unsequence) ++ state.outgoing

-- a record that is no command keeps the world
abbrev pub FollowsWorld : ToldContents → LogRecord → StoreState → Type 0
FollowsWorld told (Create path data_type encoding) state = ⊤
FollowsWorld told (Insert time cells) state = ⊤
FollowsWorld told (Delete path range) state = ⊤
FollowsWorld told Freeze state = KeepsWorld told state (after Freeze state)
FollowsWorld told (Flushed sequence unsequence) state =
    KeepsWorld told state (after (Flushed sequence unsequence) state)
FollowsWorld told (Replaced born space place output sequence unsequence) state =
    KeepsWorld told state (after (Replaced born space place output sequence unsequence) state)
FollowsWorld told (Snapshot snapshot) state = KeepsWorld told state (after (Snapshot snapshot) state)

-- a record in doubt can follow, and leads to a store in order, whose new files are on their way out until it is settled
pub record DoubtInOrder (told : ToldContents) (named : List ℕ) (state : StoreState) (outgoing : List File)
    (item : LogRecord)
    : Type 0 where
  pub can : CanFollow named item state
  pub order : StoreInOrder told (after item state)
  pub world : FollowsWorld told item state
  pub kept : Each (λ number. Among number (numbers_of outgoing)) (names item)

-- a state is in order, where files have what is told, what is kept of them is known, and records have named these
-- numbers
pub record IsInOrder (told : ToldContents) (known : KnownFiles) (named : List ℕ) (state : EngineState) : Type 0 where
  pub store : StoreInOrder told state.store
  pub flushes : Each (IsFlushOut state.store.stamp state.store.frozen state.store.working) state.flushes
  pub compactions : CompactionsInOrder told state.store.stamp state.store.marks state.store.sequence
      state.store.unsequence state.compactions
  pub numbers : NumbersInOrder named state.next_file (all_files state) (drawn_numbers state.flushes state.compactions)
  pub entries : EntriesMatch told known (state.store.sequence ++ state.store.unsequence)
  pub rights : RightsMatch state.rights (all_files state) (held_numbers state.compactions state.pins)
  pub room : KeepsRoom state.room state.flushes state.compactions
  pub doubt : IfSome state.doubt (DoubtInOrder told named state.store state.outgoing)
