-- What a store stands for after the entries of a history, or after a prefix of them: the state that they lead to, or that
-- with the one change in doubt. `Stands` says for which states it stands.
use Rattle.std.specs.Prelude.{◌≡◌, ◌⊎◌, List, [], ◌∷◌, ◌++◌, All}
use Rattle.tsdb_base.specs.declared.answers.Answer.TheVariants as answer
use Rattle.tsdb_model.specs.Apply.{reply_of}
use Rattle.tsdb_model.specs.History.{DrawsNumbers, Entry, IsChange, IsLegal, state_after}
use Rattle.tsdb_model.specs.State as plain
use Rattle.tsdb_model.specs.declared.command.Command.{Command}
use Rattle.tsdb_model.specs.declared.command.Command.TheVariants.{Flush, ShowFiles}
use Rattle.tsdb_model.specs.declared.reply.Listing.{Listing}
use Rattle.tsdb_model.specs.declared.reply.Reply.TheVariants.{Plain, Files}

-- a change that was done
abbrev pub IsDoneChange : Entry → Type 0
IsDoneChange entry = IsChange entry.command × (entry.reply ≡ Plain answer.Done)

-- The change is in doubt after these entries, which lead to the state: it was answered `device`, the map accepts it, and
-- no change was done since.
pub record IsInDoubt (entries : List Entry) (after : plain.State) (command : Command) : Type 0 where
  pub before : List Entry
  pub later : List Entry
  pub split : entries ≡ before ++ (record { command = command; reply = Plain answer.Device } ∷ later)
  pub since : All (λ entry. ¬ IsDoneChange entry) later
  pub change : IsChange command
  pub accepted : reply_of after.world command ≡ Plain answer.Done

-- it stands for the state after these entries, or for that with the change in doubt
abbrev pub StandsAfter : (plain.State → Type 0) → plain.State → List Entry → Type 0
StandsAfter Stands after entries = Stands after ⊎ ((command : Command) × IsInDoubt entries after command
    × Stands (state_after after command (Plain answer.Done)))

-- it stands for the state after a prefix of these entries, from this start
pub record StandsAfterPrefix (Stands : plain.State → Type 0) (start : plain.State) (entries : List Entry) : Type 0 where
  pub prefix : List Entry
  pub rest : List Entry
  pub split : entries ≡ prefix ++ rest
  pub after : plain.State
  pub legal : IsLegal start prefix after
  pub stands : StandsAfter Stands after prefix

-- a command that neither changes the map nor writes a file
abbrev pub IsQuery : Command → Type 0
IsQuery command = (¬ IsChange command) × (¬ DrawsNumbers command)

-- the last of these entries that does not pass is such a one
pub record LastIs (Is Passes : Entry → Type 0) (entries : List Entry) : Type 0 where
  pub before : List Entry
  pub last : Entry
  pub later : List Entry
  pub split : entries ≡ before ++ (last ∷ later)
  pub such : Is last
  pub since : All Passes later

-- the last of these entries that is no query is a change that was done
abbrev pub EndsDone : List Entry → Type 0
EndsDone = LastIs IsDoneChange (λ entry. IsQuery entry.command)

-- a flush that was done
abbrev pub IsFlushDone : Entry → Type 0
IsFlushDone entry = (entry.command ≡ Flush) × (entry.reply ≡ Plain answer.Done)

-- the last of these entries that is not `show files` is a flush that was done
abbrev pub EndsFlushed : List Entry → Type 0
EndsFlushed = LastIs IsFlushDone (λ entry. entry.command ≡ ShowFiles)

-- the last of these entries is `show files`, answered with this listing
abbrev pub EndsListed : List Entry → Listing → Type 0
EndsListed entries listing =
    (before : List Entry) × (entries ≡ before ++ (record { command = ShowFiles; reply = Files listing } ∷ []))
