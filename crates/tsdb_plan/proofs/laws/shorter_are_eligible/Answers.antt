use Rattle.tsdb_plan.proofs.Shorter.{shorter_fit}
use Rattle.tsdb_plan.proofs.laws.shorter_are_eligible.Goals as goal

pub returns : goal.returns
returns c = shorter_fit
