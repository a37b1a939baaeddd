-- Replies that are told in the place of others: a query's, once its pin was read, and that of a flush or a compaction that
-- failed behind its first turn. The commands, and the states that they lead to, stay.
use Rattle.std.specs.Prelude.{◌≡◌, ◌⊎◌, ℕ, List, [], ◌∷◌, ⊤}
use Rattle.tsdb_history.specs.Reach.{IsFullWithin}
use Rattle.tsdb_model.specs.History.{Entry, IsAllowed, IsChange, state_after}
use Rattle.tsdb_model.specs.State as plain
use Rattle.tsdb_model.specs.declared.command.Command.{Command}
use Rattle.tsdb_model.specs.declared.reply.Reply.{Reply}

-- a reply that the command may have at this place, where it is no change
pub record IsOtherReply (reach : ℕ) (at : plain.State) (command : Command) (reply : Reply) : Type 0 where
  pub no_change : ¬ IsChange command
  pub allowed : IsAllowed at command reply
  pub full : IsFullWithin reach at reply

-- the second entry has the command of the first, and its reply or another one
pub record IsEntryReplaced (reach : ℕ) (at : plain.State) (old new : Entry) : Type 0 where
  pub command : new.command ≡ old.command
  pub reply : (new.reply ≡ old.reply) ⊎ IsOtherReply reach at old.command new.reply

-- so has each of the second entries, at its place behind the state
abbrev pub AreReplaced : ℕ → plain.State → List Entry → List Entry → Type 0
AreReplaced reach at [] [] = ⊤
AreReplaced reach at (old ∷ olds) (new ∷ news) = IsEntryReplaced reach at old new
    × AreReplaced reach (state_after at old.command old.reply) olds news
AreReplaced reach at olds news = ⊥
