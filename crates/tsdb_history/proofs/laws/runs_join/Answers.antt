use Rattle.tsdb_history.proofs.Joined.{joined}
use Rattle.tsdb_history.proofs.laws.runs_join.Goals as goal

pub returns : goal.returns
returns c = λ files bytes start middle last first second left stands legal. joined files bytes start middle last first
    second left stands legal
