use Rattle.std.proofs.Common.{rules, List, ℕ}
use Rattle.std.proofs.lemmas.Fn.{always_returns_same}
use Rattle.std.specs.Ordering.{is_lt}
use Rattle.tsdb_path.specs.Order.{tree_cmp}
use Rattle.tsdb_fileset.proofs.Searched.{order_tested}
use Rattle.tsdb_fileset.proofs.series.are_in_order.Goals as goal

pub returns : goal.returns
returns c = order_tested c.args.paths.now _
    (c.is_sorted_by.ensures.cases (λ (x y : List ℕ). is_lt (tree_cmp x y)) (always_returns_same _ _ _ (λ a r q k. search rules)))
