use Rattle.tsdb_pages.proofs.Bodies.{one_body}
use Rattle.tsdb_pages.proofs.laws.one_page.Goals as goal

pub returns : goal.returns
returns c = one_body
