-- Legal histories: commands in the order in which they took place, each with its reply. No script, no session and no
-- first world is built in.
use Rattle.std.specs.Prelude.{◌≡◌, ◌≢◌, ◌⊎◌, ℕ, ◌+◌, ◌<◌, List, [], ◌∷◌}
use Rattle.tsdb_base.specs.declared.answers.Answer.TheVariants.{Done, Device, Memory, Full}
use Rattle.tsdb_model.specs.declared.command.Command.{Command}
use Rattle.tsdb_model.specs.declared.command.Command.TheVariants.{Create, Insert, Delete, Flush, CompactInner}
use Rattle.tsdb_model.specs.declared.command.Command.TheVariants.{CompactCross, ShowFiles}
use Rattle.tsdb_model.specs.declared.reply.Reply.{Reply}
use Rattle.tsdb_model.specs.declared.reply.Reply.TheVariants.{Plain, Files}
use Rattle.tsdb_model.specs.Apply.{accepted, reply_of}
use Rattle.tsdb_base.specs.Limits.{end_of_numbers}
use Rattle.tsdb_model.specs.State.{State, IsPossible}

-- a command and its reply
pub record Entry : Type 0 where
  pub command : Command
  pub reply : Reply

-- by how much a command raises the stamp where it is accepted
abbrev pub raise : Command → ℕ
raise (Create schema) = 1
raise (Insert device row) = 1
raise (Delete series range) = 1
raise command = 0

-- a create, an insert or a delete
abbrev pub IsChange : Command → Type 0
IsChange command = raise command ≡ 1

-- a command that may draw numbers for files
abbrev pub DrawsNumbers : Command → Type 0
DrawsNumbers (Insert device row) = Unit {0}
DrawsNumbers Flush = Unit {0}
DrawsNumbers (CompactInner space) = Unit {0}
DrawsNumbers CompactCross = Unit {0}
DrawsNumbers command = ⊥

-- the map accepts the command, and its stamp can rise no further
pub record IsStampFull (state : State) (command : Command) (counter : ℕ) : Type 0 where
  pub change : IsChange command
  pub accepted : reply_of state.world command ≡ Plain Done
  pub stands : state.stamp ≡ end_of_numbers
  pub number : counter ≡ state.stamp

-- the command may need two numbers for files, and they are not left
pub record AreNumbersFull (command : Command) (counter : ℕ) : Type 0 where
  pub draws : DrawsNumbers command
  pub end : end_of_numbers < counter + 2

-- the reply is the map's, and the stamp can rise where it must
pub record IsMapReply (state : State) (command : Command) (reply : Reply) : Type 0 where
  pub not_listing : command ≢ ShowFiles
  pub same : reply ≡ reply_of state.world command
  pub rises : IsChange command → reply ≡ Plain Done → state.stamp ≢ end_of_numbers

-- the replies that a command may have in a state
abbrev pub IsAllowed : State → Command → Reply → Type 0
IsAllowed state command (Plain Memory) = Unit {0}
IsAllowed state command (Plain Device) = command ≢ ShowFiles
IsAllowed state command (Plain (Full counter)) = IsStampFull state command counter ⊎ AreNumbersFull command counter
IsAllowed state command (Files listing) = (command ≡ ShowFiles) × IsPossible state listing
IsAllowed state command reply = IsMapReply state command reply

-- the state after a command that is answered so: Done is the only answer that changes it
abbrev pub state_after : State → Command → Reply → State
state_after state command (Plain Done) = record {
  world = accepted state.world command;
  stamp = state.stamp + raise command;
}
state_after state command reply = state

-- each entry in turn has a reply that is allowed in the state at its place, and the last leaves the state after
abbrev pub IsLegal : State → List Entry → State → Type 0
IsLegal state [] after = after ≡ state
IsLegal state (entry ∷ history) after =
    IsAllowed state entry.command entry.reply × IsLegal (state_after state entry.command entry.reply) history after
