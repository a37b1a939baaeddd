-- A pull of the merge of all sources.
use Rattle.std.proofs.Common.{◌≡◌, ℕ, List, refl, sym, subst}
use Rattle.std.specs.Prelude.{Option, None, Some}
use Rattle.tsdb_base.specs.declared.point.Point.{Point}
use Rattle.tsdb_merge.proofs.TreeLemmas.{root_kept}
use Rattle.tsdb_merge.specs.Steps.{IsPulled, IsRootNode, left_behind, node_left, root_left}
use Rattle.tsdb_merge.specs.Supplies.{left_at}
use Rattle.tsdb_merge.specs.Winners.{TakesTold}
use Rattle.tsdb_merge.specs.declared.tree.Node.{Node}

abbrev Lists : Type 0
Lists = List (Option (List Point))

-- the tree's point is the merge's
pub took : (root : Option Node) (node node_now : Node) (lists lists_now : Lists) (most most_now : ℕ) (answer point : Option Point) → root ≡ Some node → answer ≡ point → IsPulled node lists most answer node_now lists_now most_now
    → TakesTold (root_left root lists) point (left_behind point (node_left node_now (left_at lists_now)))
took root node node_now lists lists_now most most_now answer point is same p =
    rw is (subst (λ (o : Option Point). TakesTold (node_left node (left_at lists)) o (left_behind o (node_left node_now (left_at lists_now)))) same p.takes)

-- the tree stays whole
pub stays : (n m : ℕ) (root : Option Node) (node node_now : Node) (lists lists_now : Lists) (most most_now : ℕ) (answer : Option Point) → m ≡ n → root ≡ Some node → IsRootNode n root → IsPulled node lists most answer node_now lists_now most_now
    → IsRootNode m (Some node_now)
stays n m root node node_now lists lists_now most most_now answer same is whole p =
    subst (λ k. IsRootNode k (Some node_now)) (sym same) (root_kept n node node_now lists lists_now most most_now answer (subst (IsRootNode n) is whole) p)

-- a merge that has ended has nothing left
pub ended : (root : Option Node) (lists lists_now : Lists) → ((node : Node) → root ≡ Some node → ⊥) → TakesTold (root_left root lists) None (root_left root lists_now)
ended None lists lists_now none = (refl, refl)
ended (Some node) lists lists_now none = absurd (none node refl)
