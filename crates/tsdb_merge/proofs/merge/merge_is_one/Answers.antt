use Rattle.tsdb_merge.proofs.MergeLemmas.{merge_is_one as only_one}
use Rattle.tsdb_merge.proofs.merge.merge_is_one.Goals as goal

pub returns : goal.returns
returns c = λ lists xs ys mx my. only_one lists xs ys mx my
