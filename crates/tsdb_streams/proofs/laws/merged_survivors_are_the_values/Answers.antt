use Rattle.tsdb_streams.proofs.Sources.{merge_values}
use Rattle.tsdb_streams.proofs.laws.merged_survivors_are_the_values.Goals as goal

pub returns : goal.returns
returns c = merge_values
