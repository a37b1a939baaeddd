use Rattle.std.proofs.Common.{rules, sym, subst}
use Rattle.std.proofs.lemmas.Fn.{always_returns_same, dedup_same}
use Rattle.tsdb_flush.proofs.Sorting.{kept}
use Rattle.tsdb_flush.specs.TakingSteps.{pair_names}
use Rattle.tsdb_flush.specs.declared.series.PairSeries.{PairSeries}
use Rattle.tsdb_path.proofs.Order.{same_names, sorted_once}
use Rattle.tsdb_path.specs.Order.{AreInNameOrder}
use Rattle.tsdb_flush.proofs.series.series_in_order.Goals as goal

pub returns-clause-all : goal.returns-clause-all
returns-clause-all c =
    kept c.args.memory.now.series c.args.pair.now c.requires.formed c.requires.once _ _ _ c.in_ok-all.ensures c.sort_unstable_by_key.ensures.permutation
    (dedup_same _ (same_names pair_names) _ (λ x y b f' x' y' k. search rules) _ _ c.dedup_by_key.ensures.filtered)

pub returns-clause-order : goal.returns-clause-order
returns-clause-order c =
    subst (AreInNameOrder pair_names) (sym (dedup_same _ (same_names pair_names) _ (λ x y b f' x' y' k. search rules) _ _ c.dedup_by_key.ensures.filtered))
    (sorted_once pair_names _ (c.sort_unstable_by_key.ensures.sorted (λ (s : PairSeries). s.names) (always_returns_same _ _ _ (λ a r q k. search rules))))
