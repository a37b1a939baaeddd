-- A command of a core is a step of the plain map.
use Rattle.std.proofs.Common.{◌≡◌, ℕ, inl, inr, List, map, Result, Ok, Err, refl, subst, sym}
use Rattle.tsdb_memory.proofs.Following.{froze_stands}
use Rattle.tsdb_memory.specs.MapAnswers.{FollowsMap as StateFollows, IsTried}
use Rattle.tsdb_base.specs.declared.answers.Answer.{Answer}
use Rattle.tsdb_base.specs.declared.answers.Answer.TheVariants as answer
use Rattle.tsdb_core.specs.Commands.{IsCoreCommand, IsSeenAfter}
use Rattle.tsdb_core.specs.Core.{IsSeen, files_of, logged_of}
use Rattle.tsdb_core.specs.Sweeps.{IsSwept, without_files}
use Rattle.tsdb_core.specs.Worlds.{CoreFollowsMap, IsWorldOf, CoreKeepsWorld}
use Rattle.tsdb_core.specs.declared.engine.Core.{Core}
use Rattle.tsdb_fileset.specs.StateOfFiles.{may_go}
use Rattle.tsdb_fileset.specs.Sweeps.{tried_numbers}
use Rattle.tsdb_log.specs.declared.record.CellRecord.{CellRecord}
use Rattle.tsdb_log.specs.declared.record.LogRecord.{LogRecord}
use Rattle.tsdb_log.specs.declared.record.LogRecord.TheVariants.{Freeze, Insert}
use Rattle.tsdb_memory.specs.Commands.{CanPut, NeedsNothing}
use Rattle.tsdb_memory.specs.LogState.{Outside, memory_of, with_record}
use Rattle.tsdb_model.specs.Apply.{accepted, after_reply}
use Rattle.tsdb_model.specs.World.{World}
use Rattle.tsdb_model.specs.declared.command.Command.{Command}
use Rattle.tsdb_model.specs.declared.command.Command.TheVariants as command
use Rattle.tsdb_model.specs.declared.command.Row.{Row}
use Rattle.tsdb_model.specs.declared.reply.Reply.TheVariants.{Plain}
use Rattle.tsdb_memory.specs.StateOfMemory.{IsMemoryOf, series_entry}
use Rattle.tsdb_outside.specs.declared.disk.Disk as disk
use Rattle.tsdb_outside.specs.declared.faults.Counted as counted
use Rattle.tsdb_outside.specs.declared.faults.Failed.{Failed}
use Rattle.tsdb_state.proofs.Inserting.{inserted_stands}
use Rattle.tsdb_state.specs.Commands.{AreCells}
use Rattle.tsdb_state.specs.Records.{CanFreeze, after}
use Rattle.tsdb_state.specs.State.{EngineState}
use Rattle.tsdb_state.specs.Steps.{failed, settled, swept as swept_state, wrote}
use Rattle.tsdb_state.specs.StoreOrder.{StoreInOrder}
use Rattle.tsdb_state.specs.Worlds.{StandsFor}

-- The world of a core whose record has this answer: the one after it where it is done, and else the one before it.
abbrev world_by : Answer → World → World → World
world_by answer.Done world next = next
world_by answer.NoPath world next = world
world_by answer.WrongType world next = world
world_by answer.Exists world next = world
world_by answer.Device world next = world
world_by answer.Memory world next = world
world_by (answer.Full counter) world next = world

same_world : (result : Answer) (world : World) → world_by result world world ≡ world
same_world answer.Done world = refl
same_world answer.NoPath world = refl
same_world answer.WrongType world = refl
same_world answer.Exists world = refl
same_world answer.Device world = refl
same_world answer.Memory world = refl
same_world (answer.Full counter) world = refl

map_world : (command : Command) (result : Answer) (world : World)
    → world_by result world (accepted world command) ≡ after_reply world command (Plain result)
map_world command answer.Done world = refl
map_world command answer.NoPath world = refl
map_world command answer.WrongType world = refl
map_world command answer.Exists world = refl
map_world command answer.Device world = refl
map_world command answer.Memory world = refl
map_world command (answer.Full counter) world = refl

module _ {J F S R P : Type 0} {means : disk.Ghosts J} {counts : counted.Ghosts J} where
  pub memory_seen : (core : Core J F S R P means counts) (outside : Outside) (state : EngineState)
      → IsSeen core outside state → IsMemoryOf (memory_of (logged_of core)) state.store
  memory_seen core outside state seen = seen.sound.memory

  pub order_seen : (core : Core J F S R P means counts) (outside : Outside) (state : EngineState)
      → IsSeen core outside state → StoreInOrder outside.told state.store
  order_seen core outside state seen = seen.sound.stored.order.store

  module _ (new : Core J F S R P means counts) (item : LogRecord) (outside : Outside) (state : EngineState)
      (world next : World) (stands : StandsFor outside.told state.store world) where
    world_left : (result : Answer) → IsSeenAfter new outside state item result
        → (IsTried result → StandsFor outside.told (after item state.store) next)
        → IsWorldOf new (world_by result world next)
    world_left answer.Done seen leads = record {
      outside = with_record item outside;
      state = wrote item state;
      seen = seen;
      stands = leads tt;
    }
    world_left answer.NoPath seen leads = record { outside = outside; state = state; seen = seen; stands = stands }
    world_left answer.WrongType seen leads = record { outside = outside; state = state; seen = seen; stands = stands }
    world_left answer.Exists seen leads = record { outside = outside; state = state; seen = seen; stands = stands }
    world_left answer.Device (inl seen) leads =
        record { outside = outside; state = settled state; seen = seen; stands = stands }
    world_left answer.Device (inr (inl seen)) leads =
        record { outside = outside; state = state; seen = seen; stands = stands }
    world_left answer.Device (inr (inr seen)) leads =
        record { outside = outside; state = failed item state; seen = seen; stands = stands }
    world_left answer.Memory seen leads = record { outside = outside; state = state; seen = seen; stands = stands }
    world_left (answer.Full counter) seen leads =
        record { outside = outside; state = state; seen = seen; stands = stands }

  -- a command whose answer and record follow the map in each state that the core shows
  pub map_step : (old new : Core J F S R P means counts) (item : LogRecord) (command : Command) (result : Answer)
      → IsCoreCommand old new item NeedsNothing result
      → ((outside : Outside) (state : EngineState) → IsSeen old outside state
      → StateFollows outside.told state.store command item result)
      → CoreFollowsMap old new command result
  map_step old new item command result step follows = record {
    answers = λ world is. (follows is.outside is.state is.seen).answers world is.stands;
    world = λ world is. subst (IsWorldOf new) (map_world command result world)
        (world_left new item is.outside is.state world (accepted world command) is.stands result
        (step.step is.outside is.state is.seen tt)
        (λ tried. (follows is.outside is.state is.seen).leads tried world is.stands));
  }

  -- a freeze
  pub freeze_keeps : (old new : Core J F S R P means counts) (result : Answer)
      → IsCoreCommand old new Freeze NeedsNothing result
      → ((outside : Outside) (state : EngineState) → IsSeen old outside state → CanFreeze state.store)
      → CoreKeepsWorld old new
  freeze_keeps old new result step can world is = subst (IsWorldOf new) (same_world result world)
      (world_left new Freeze is.outside is.state world world is.stands result
      (step.step is.outside is.state is.seen tt)
      (λ tried. froze_stands is.outside.told is.state.store world (order_seen old is.outside is.state is.seen)
      (can is.outside is.state is.seen) is.stands))

  -- a row whose cells can be put into the state
  pub row_step : (old new : Core J F S R P means counts) (device : List ℕ) (row : Row) (cells : List CellRecord)
      (result : Answer) → IsCoreCommand old new (Insert row.time cells) NeedsNothing result
      → AreCells (map series_entry (memory_of (logged_of old)).series) device row.cells cells
      → ((outside : Outside) (state : EngineState) → IsSeen old outside state → CanPut row.time cells state)
      → (world : World) → IsWorldOf old world
      → IsWorldOf new (after_reply world (command.Insert device row) (Plain result))
  row_step old new device row cells result step are can world is =
      subst (IsWorldOf new) (map_world (command.Insert device row) result world)
      (world_left new (Insert row.time cells) is.outside is.state world (accepted world (command.Insert device row))
      is.stands result (step.step is.outside is.state is.seen tt)
      (λ tried. inserted_stands is.outside.told device row cells is.state.store
      (order_seen old is.outside is.state is.seen) (can is.outside is.state is.seen).0 world is.stands
      (subst (λ schemas. AreCells schemas device row.cells cells) (sym is.seen.sound.memory.schemas) are)))

  -- a sweep
  pub swept_keeps : (old new : Core J F S R P means counts) (outcome : Result ℕ Failed) → IsSwept old new outcome
      → CoreKeepsWorld old new
  swept_keeps old new (Ok count) swept world is = record {
    outside = without_files (may_go swept.doubted (files_of old) (files_of old).outgoing) is.outside;
    state = swept_state (may_go swept.doubted (files_of old) (files_of old).outgoing) is.state;
    seen = swept.all.step is.outside is.state is.seen;
    stands = is.stands;
  }
  swept_keeps old new (Err fault) swept world is = record {
    outside = without_files (tried_numbers swept.doubted (files_of old).places swept.stopped.0) is.outside;
    state = swept_state (tried_numbers swept.doubted (files_of old).places swept.stopped.0) is.state;
    seen = swept.stopped.1.step is.outside is.state is.seen;
    stands = is.stands;
  }
