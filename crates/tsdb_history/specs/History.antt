-- Which commands of a script the replies of a history belong to.
use Rattle.std.specs.Prelude.{◌≡◌, ℕ, ◌==◌, ◌<◌, ◌≤◌, Bool, true, false, All, List, Option, Some, map, filter, length}
use Rattle.std.specs.Prelude.{slice_get}
use Rattle.std.specs.Option.{option_map}
use Rattle.tsdb_base.specs.declared.answers.Answer.TheVariants as answer
use Rattle.tsdb_history.specs.declared.told.Told.{Told}
use Rattle.tsdb_model.specs.Commands.{IsWellFormed}
use Rattle.tsdb_model.specs.History.{Entry}
use Rattle.tsdb_model.specs.declared.command.Command.{Command}
use Rattle.tsdb_model.specs.declared.reply.Reply.{Reply}
use Rattle.tsdb_model.specs.declared.reply.Reply.TheVariants.{Plain}
use Rattle.tsdb_base.specs.Limits.{max_commands}
use Rattle.tsdb_script.specs.declared.numbered.Numbered.{Numbered}

-- every number of a session is below this
abbrev pub session_numbers : ℕ
session_numbers = 1000

-- These commands can be executed: they are as many as a script may have, their sessions have such numbers, and each is
-- well-formed.
pub record CanExecute (script : List Numbered) : Type 0 where
  pub few : length script ≤ max_commands
  pub sessions : All (λ numbered. numbered.session < session_numbers) script
  pub well_formed : All (λ numbered. IsWellFormed numbered.command) script

-- the commands of a session, in its order
abbrev pub commands_of : List Numbered → ℕ → List Command
commands_of script session =
    map (λ numbered. numbered.command) (filter (λ numbered. numbered.session == session) script)

-- the replies to a session, in their order
abbrev pub replies_to : List Told → ℕ → List Told
replies_to history session = filter (λ told. told.session == session) history

-- each session has a reply to each of its commands, with the indexes 0, 1, 2 and on in this order
abbrev pub IsComplete : List Numbered → List Told → Type 0
IsComplete script history = (session : ℕ) →
    (length (replies_to history session) ≡ length (commands_of script session))
    × ((k : ℕ) (told : Told) → slice_get (replies_to history session) k ≡ Some told → told.index ≡ k)

-- the command that a reply answers
abbrev pub replied_command : List Numbered → Told → Option Command
replied_command script told = slice_get (commands_of script told.session) told.index

-- a reply with its command
abbrev pub history_entry : List Numbered → Told → Option Entry
history_entry script told =
    option_map (λ command. record { command = command; reply = told.reply }) (replied_command script told)

-- the replies to the commands of a script, each an entry with its command
pub record IsHistory (script : List Numbered) (history : List Told) (entries : List Entry) : Type 0 where
  pub complete : IsComplete script history
  pub answers : map (history_entry script) history ≡ map Some entries

-- the commands took place in the order of the script's lines
abbrev pub IsInLineOrder : List Numbered → List Told → Type 0
IsInLineOrder script history = map (λ told. told.session) history ≡ map (λ numbered. numbered.session) script

-- whether something outside failed under a command that was answered so
abbrev pub is_device_reply : Reply → Bool
is_device_reply (Plain answer.Device) = true
is_device_reply reply = false

abbrev pub told_device : Told → Bool
told_device told = is_device_reply told.reply
