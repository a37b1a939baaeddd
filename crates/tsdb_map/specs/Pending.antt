-- Commands in two phases: what is prepared, and what the map keeps until a change is finished or cancelled.
use Rattle.std.specs.Prelude.{◌≡◌, ◌≢◌, ℕ, ℤ, true, List, [], ◌∷◌, ◌++◌, Option, None}
use Rattle.std.specs.FinMap.{get}
use Rattle.tsdb_base.specs.declared.answers.Answer.TheVariants.{Done}
use Rattle.tsdb_base.specs.declared.value.Value.{Value}
use Rattle.tsdb_model.specs.declared.command.Cell.{Cell}
use Rattle.tsdb_model.specs.declared.command.Command.{Command}
use Rattle.tsdb_model.specs.declared.command.Command.TheVariants.{Create, Insert, Delete}
use Rattle.tsdb_map.specs.declared.pending.Pending.{Pending}
use Rattle.tsdb_map.specs.declared.pending.Pending.TheVariants as pending
use Rattle.tsdb_map.specs.declared.pending.Prepared.{Prepared}
use Rattle.tsdb_map.specs.declared.pending.Prepared.TheVariants.{Reply, Change}
use Rattle.tsdb_model.specs.declared.reply.Reply as reply
use Rattle.tsdb_model.specs.declared.reply.Reply.TheVariants.{Plain}
use Rattle.tsdb_model.specs.Apply.{accepted, all_fit, put_literal, reply_of}
use Rattle.tsdb_model.specs.History.{IsChange}
use Rattle.tsdb_model.specs.World.{World, change, value_at}
use Rattle.tsdb_path.specs.Nodes.{child_of}

-- what stood at the row's time as each cell was written in turn, the last cell first
abbrev pub old_values : World → List ℕ → ℤ → List Cell → List (Option Value)
old_values world device time [] = []
old_values world device time (cell ∷ cells) =
    old_values (change world (child_of device cell.measurement) (put_literal time cell.value)) device time cells
    ++ value_at world (child_of device cell.measurement) time ∷ []

-- a map that was `before` now waits for the change of a command to be finished or cancelled: a create and an insert
-- are in it, with what takes them back, and a delete is not
abbrev pub IsPending : World → World → Command → Pending → Type 0
IsPending before now (Create schema) (pending.Create device name) =
    (now ≡ accepted before (Create schema)) × (get before schema.path ≡ None) × (child_of device name ≡ schema.path)
IsPending before now (Insert device row) (pending.Insert values) =
    (now ≡ accepted before (Insert device row)) × (all_fit before device row.cells ≡ true)
    × (values.items ≡ old_values before device row.time row.cells)
IsPending before now (Delete series range) (pending.Delete device name) =
    (now ≡ before) × (child_of device name ≡ series)
IsPending before now command change = ⊥

-- the map stays as it was, and a create, an insert or a delete was refused
pub record ChangesNothing (before now : World) (command : Command) (reply : reply.Reply) : Type 0 where
  pub same : now ≡ before
  pub replies : reply ≡ reply_of before command
  pub refused : IsChange command → reply ≢ Plain Done

-- the command is accepted, and its change is pending
pub record AwaitsChange (before now : World) (command : Command) (change : Pending) : Type 0 where
  pub accepted : reply_of before command ≡ Plain Done
  pub changes : IsChange command
  pub pending : IsPending before now command change

-- what a map that was `before` is once a command was prepared
abbrev pub HasPrepared : World → World → Command → Prepared → Type 0
HasPrepared before now command (Reply reply) = ChangesNothing before now command reply
HasPrepared before now command (Change change) = AwaitsChange before now command change
