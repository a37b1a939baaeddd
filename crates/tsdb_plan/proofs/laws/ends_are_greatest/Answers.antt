use Rattle.tsdb_plan.proofs.CrossSteps.{pasts}
use Rattle.tsdb_plan.proofs.laws.ends_are_greatest.Goals as goal

pub returns : goal.returns
returns c = λ sequence prefix own h. pasts sequence prefix own h
