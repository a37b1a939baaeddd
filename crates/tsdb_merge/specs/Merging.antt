-- The state of a merge, as contracts see it.
use Rattle.std.specs.Prelude.{ℕ, List, Option}
use Rattle.tsdb_base.specs.declared.point.Point.{Point}
use Rattle.tsdb_merge.specs.Steps.{root_held, root_left}
use Rattle.tsdb_merge.specs.declared.points.PullFault.{PullFault}
use Rattle.tsdb_merge.specs.declared.tree.Node.{Node}

-- the points that are left, where they are told, the most that they can be, each source's two counts of faults, and the
-- fault that it met, if any
pub record Merging : Type 0 where
  pub left : Option (List Point)
  pub most : ℕ
  pub failures : List ℕ
  pub damages : List ℕ
  pub fault : Option PullFault

-- how many sources there are, the tree of their merges with what is buffered of each, and the fault that was met
pub record LazyMerging : Type 0 where
  pub sources : ℕ
  pub root : Option Node
  pub fault : Option PullFault

-- the points that are left, from what the supply has left of each source, where that is told
abbrev pub lazy_left : LazyMerging → List (Option (List Point)) → Option (List Point)
lazy_left merge lists = root_left merge.root lists

-- how many points are buffered
abbrev pub lazy_held : LazyMerging → ℕ
lazy_held merge = root_held merge.root
