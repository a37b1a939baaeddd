use Rattle.tsdb_pages.proofs.Places.{entries_stand}
use Rattle.tsdb_pages.proofs.laws.entries_stand.Goals as goal

pub returns : goal.returns
returns c = entries_stand
