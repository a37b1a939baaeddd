-- Runs one behind another, of which the second begins on what a stop left of the first.
use Rattle.std.specs.Prelude.{◌≡◌, List, ◌++◌, Option, None, Some, IfSome}
use Rattle.tsdb_base.specs.declared.answers.Answer.TheVariants as answer
use Rattle.tsdb_history.specs.Prefixes.{IsInDoubt}
use Rattle.tsdb_model.specs.History.{Entry, IsLegal, state_after}
use Rattle.tsdb_model.specs.State as plain
use Rattle.tsdb_model.specs.declared.command.Command.{Command}
use Rattle.tsdb_model.specs.declared.reply.Reply.TheVariants.{Plain}

-- the state, or the one after the change in doubt that took effect
abbrev pub with_doubt : plain.State → Option Command → plain.State
with_doubt at None = at
with_doubt at (Some command) = state_after at command (Plain answer.Done)

-- The second entries follow a prefix of the first ones, with the change in doubt after it or without, and lead from the
-- first start to the last state.
pub record IsJoined (start : plain.State) (first second : List Entry) (last : plain.State) : Type 0 where
  pub prefix : List Entry
  pub rest : List Entry
  pub split : first ≡ prefix ++ rest
  pub between : plain.State
  pub legal : IsLegal start prefix between
  pub doubt : Option Command
  pub in_doubt : IfSome doubt (IsInDoubt prefix between)
  pub behind : IsLegal (with_doubt between doubt) second last

-- The second entries follow all of the first ones, with the change in doubt after them or without, and lead from the
-- first start to the last state.
pub record IsFollowed (start : plain.State) (first second : List Entry) (last : plain.State) : Type 0 where
  pub between : plain.State
  pub legal : IsLegal start first between
  pub doubt : Option Command
  pub in_doubt : IfSome doubt (IsInDoubt first between)
  pub behind : IsLegal (with_doubt between doubt) second last
