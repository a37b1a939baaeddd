-- That a tree is whole holds in one way at most, so a struct can have it as a ghost field.
use Rattle.std.specs.Prelude.{ℕ, Option, Some, None}
use Rattle.std.proofs.Props.{props}
use Rattle.tsdb_merge.specs.Steps.{IsRootNode, IsMergeTree}
use Rattle.tsdb_merge.specs.declared.tree.Node.{Node, Leaf, Pair'}

pub tree_prop : (node : Node) → IsProp (IsMergeTree node)
tree_prop (Leaf source buffer) = hlevel props
tree_prop (Pair' p low q high low_head high_head) = hlevel (props, tree_prop low, tree_prop high)

pub root_prop : (sources : ℕ) (root : Option Node) → IsProp (IsRootNode sources root)
root_prop sources None = hlevel props
root_prop sources (Some node) = hlevel (props, tree_prop node)
