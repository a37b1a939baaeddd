use Rattle.std.proofs.Common.{map, sym, subst}
use Rattle.std.specs.Prelude.{Some}
use Rattle.tsdb_merge.specs.Steps.{root_left}
use Rattle.tsdb_merge.specs.Winners.{IsToldMergeOf}
use Rattle.tsdb_merge.proofs.TreeLemmas.{new_merges, none_merges}
use Rattle.tsdb_merge.proofs.lazy.LazyMerge.new.Goals.{then-sources-eq0, else-sources-eq0+in_ok-tree}
use Rattle.tsdb_merge.proofs.lazy.LazyMerge.new.Goals as goal

pub returns-clause-merged : goal.returns-clause-merged
returns-clause-merged c = λ lists long rising. elim c.if-sources-eq0.branch [
  | then-sources-eq0 w ↦ subst (λ r. IsToldMergeOf lists (root_left r (map Some lists))) (sym w.root-is) (none_merges lists c.args.sources w.if-sources-eq0.true long)
  | else-sources-eq0+in_ok-tree w ↦ subst (λ r. IsToldMergeOf lists (root_left r (map Some lists))) (sym w.root-is)
      (new_merges w.in_ok-tree.field-0 lists c.args.sources w.in_ok-tree.ensures.tree w.in_ok-tree.ensures.fresh w.in_ok-tree.ensures.first w.in_ok-tree.ensures.count long rising)
]
