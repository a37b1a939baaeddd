use Rattle.std.proofs.Common.{arith}
use Rattle.std.proofs.lemmas.Grind.{common_steps}
use Rattle.tsdb_aggregate.proofs.lanes.LanesSupply.fill.Goals as goal

pub fill_one-requires-clause-source : goal.fill_one-requires-clause-source
fill_one-requires-clause-source g c = grind (arith, common_steps)
