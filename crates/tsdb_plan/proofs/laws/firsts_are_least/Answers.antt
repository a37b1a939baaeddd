use Rattle.tsdb_plan.proofs.CrossSteps.{firsts}
use Rattle.tsdb_plan.proofs.laws.firsts_are_least.Goals as goal

pub returns : goal.returns
returns c = λ sequence prefix own h. firsts sequence prefix own h
