use Rattle.tsdb_pages.proofs.Bodies.{body_is_short}
use Rattle.tsdb_pages.proofs.laws.body_is_short.Goals as goal

pub returns : goal.returns
returns c = body_is_short
