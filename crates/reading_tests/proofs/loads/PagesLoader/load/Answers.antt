use Rattle.std.proofs.Common.{arith}
use Rattle.reading_tests.proofs.Untold.{cost_one, spends_page, untold}
use Rattle.reading_tests.proofs.loads.PagesLoader.load.Goals as goal

pub returns-clause-cost : goal.returns-clause-cost
returns-clause-cost g c =
    let one = cost_one c.args.self.now.count c.args.piece c.requires in
    omega (arith, one, c.tick.ensures)

pub returns-clause-spends : goal.returns-clause-spends
returns-clause-spends g c = spends_page c.args.self.now.count c.args.piece _ _ _ _ _ _ _ _ c.read.result c.requires c.tick.ensures c.tick-2.ensures c.read.ensures

pub returns-clause-points : goal.returns-clause-points
returns-clause-points g c = untold c.args.self.now.count c.args.piece c.read.result c.requires
