use Rattle.tsdb_streams.proofs.Sources.{merge_all}
use Rattle.tsdb_streams.proofs.laws.merged_survivors_are_all.Goals as goal

pub returns : goal.returns
returns c = merge_all
