use Rattle.std.proofs.Common.{arith}
use Rattle.std.proofs.lemmas.Grind.{common_steps}
use Rattle.tsdb_path.proofs.path.join.Goals as goal

pub returns : goal.returns
returns c = grind (arith, common_steps)
