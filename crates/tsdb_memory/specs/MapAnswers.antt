-- What the plain map answers to a change of a user, and the world that its record leads to.
use Rattle.std.specs.Prelude.{◌≡◌, ℕ, List, map}
use Rattle.tsdb_base.specs.declared.answers.Answer.{Answer}
use Rattle.tsdb_base.specs.declared.answers.Answer.TheVariants.{Done, NoPath, WrongType, Exists, Device, Memory, Full}
use Rattle.tsdb_log.specs.declared.record.CellRecord.{CellRecord}
use Rattle.tsdb_log.specs.declared.record.LogRecord.{LogRecord}
use Rattle.tsdb_memory.specs.Answers.{IsAccepted}
use Rattle.tsdb_model.specs.Apply.{accepted, reply_of}
use Rattle.tsdb_model.specs.World.{World}
use Rattle.tsdb_model.specs.declared.command.Cell.{Cell}
use Rattle.tsdb_model.specs.declared.command.Command.{Command}
use Rattle.tsdb_model.specs.declared.reply.Reply.TheVariants.{Plain}
use Rattle.tsdb_memory.specs.StateOfMemory.{series_entry}
use Rattle.tsdb_memory.specs.Store.{MemoryState}
use Rattle.tsdb_memory.specs.RowReading.{IsRowRefused}
use Rattle.tsdb_state.specs.Commands.{AreCells}
use Rattle.tsdb_state.specs.Records.{after}
use Rattle.tsdb_state.specs.State.{StoreState, ToldContents}
use Rattle.tsdb_state.specs.Worlds.{StandsFor}

-- the answers after which the record is in the log, or may be
abbrev pub IsTried : Answer → Type 0
IsTried Done = Unit {0}
IsTried NoPath = ⊥
IsTried WrongType = ⊥
IsTried Exists = ⊥
IsTried Device = Unit {0}
IsTried Memory = ⊥
IsTried (Full counter) = ⊥

-- the answer is the map's, or that of a change which the map accepts; memory may end before any of them
abbrev pub IsMapAnswer : World → Command → Answer → Type 0
IsMapAnswer world command Done = reply_of world command ≡ Plain Done
IsMapAnswer world command NoPath = reply_of world command ≡ Plain NoPath
IsMapAnswer world command WrongType = reply_of world command ≡ Plain WrongType
IsMapAnswer world command Exists = reply_of world command ≡ Plain Exists
IsMapAnswer world command Device = reply_of world command ≡ Plain Done
IsMapAnswer world command Memory = Unit {0}
IsMapAnswer world command (Full counter) = reply_of world command ≡ Plain Done

-- Of each world that the state stands for: the answer is the map's, and where the record was tried, the state after it
-- stands for the map's world after the command.
pub record FollowsMap (told : ToldContents) (state : StoreState) (command : Command) (item : LogRecord)
    (answer : Answer)
    : Type 0 where
  pub answers : (world : World) → StandsFor told state world → IsMapAnswer world command answer
  pub leads : IsTried answer → (world : World) → StandsFor told state world
      → StandsFor told (after item state) (accepted world command)

-- the cells of the row can be read: their series are there, and their literals fit
abbrev pub IsReadable : MemoryState → List ℕ → List Cell → Type 0
IsReadable store device cells = (items : List CellRecord) × AreCells (map series_entry store.series) device cells items

-- what an insert answers: it is refused, or accepted
abbrev pub IsInsertAnswer : MemoryState → List ℕ → List Cell → Answer → Type 0
IsInsertAnswer store device cells Done = IsReadable store device cells × IsAccepted store.stamp Done
IsInsertAnswer store device cells NoPath = IsRowRefused (map series_entry store.series) device cells NoPath
IsInsertAnswer store device cells WrongType = IsRowRefused (map series_entry store.series) device cells WrongType
IsInsertAnswer store device cells Exists = ⊥
IsInsertAnswer store device cells Device = IsReadable store device cells × IsAccepted store.stamp Device
IsInsertAnswer store device cells Memory = Unit {0}
IsInsertAnswer store device cells (Full counter) =
    IsReadable store device cells × IsAccepted store.stamp (Full counter)
