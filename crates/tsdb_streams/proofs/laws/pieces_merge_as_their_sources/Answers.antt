use Rattle.std.proofs.Common.{[]}
use Rattle.tsdb_streams.proofs.PieceMerges.{merge_sources}
use Rattle.tsdb_streams.proofs.laws.pieces_merge_as_their_sources.Goals as goal

pub returns : goal.returns
returns c = λ sources points apart. merge_sources [] sources points apart
