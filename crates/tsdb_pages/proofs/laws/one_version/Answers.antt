use Rattle.tsdb_pages.proofs.OneFile.{version_is}
use Rattle.tsdb_pages.proofs.laws.one_version.Goals as goal

pub returns : goal.returns
returns c = version_is
