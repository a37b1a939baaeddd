use Rattle.tsdb_serving.proofs.Shown.{shown}
use Rattle.tsdb_serving.proofs.showing.show.Goals as goal

pub returns-clause-answers : goal.returns-clause-answers
returns-clause-answers g c = shown g.J.Disk.lawful c.args.core.now c.show.result c.show.ensures.tells
