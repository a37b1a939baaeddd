use Rattle.tsdb_merge.proofs.Joined.{joined_merge}
use Rattle.tsdb_merge.proofs.merge.pieces_merge_as_joined.Goals as goal

pub returns : goal.returns
returns c = λ before later xs ys points apart. joined_merge xs ys later apart before points
