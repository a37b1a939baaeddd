use Rattle.tsdb_turn.proofs.Kept.{reached_keeps}
use Rattle.tsdb_turn.proofs.laws.kept_by_turns.Goals as goal

pub returns : goal.returns
returns g c seats keeps start value first reached = reached_keeps g.V.Logged seats g.R.Relation.relates keeps start value first reached
