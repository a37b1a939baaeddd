use Rattle.std.proofs.Common.{rules, sym, subst}
use Rattle.std.proofs.lemmas.Fn.{always_returns_same, dedup_same}
use Rattle.tsdb_tasks.proofs.Gathering.{both_lists}
use Rattle.tsdb_tasks.proofs.Ordered.{kept}
use Rattle.tsdb_tasks.specs.Series.{input_names, run_paths}
use Rattle.tsdb_tasks.specs.declared.series.InputSeries.{InputSeries}
use Rattle.tsdb_path.proofs.Order.{same_names, sorted_once}
use Rattle.tsdb_path.specs.Order.{AreInNameOrder}
use Rattle.tsdb_tasks.proofs.series.series_in_order.Goals as goal

pub returns-clause-all : goal.returns-clause-all
returns-clause-all g c =
    kept (run_paths c.args.runs c.args.files.now) _ _ _
    (both_lists c.args.files.now c.args.runs _ _ _ _ _ c.entries-sequence.ensures.entries
    c.entries-unsequence.ensures.entries c.new-all.ensures.items c.in_ok-add_files.ensures c.in_ok-add_files-2.ensures)
    c.sort_unstable_by_key.ensures.permutation
    (dedup_same _ (same_names input_names) _ (λ x y b f' x' y' k. search rules) _ _ c.dedup_by_key.ensures.filtered)

pub returns-clause-order : goal.returns-clause-order
returns-clause-order g c =
    subst (AreInNameOrder input_names)
    (sym (dedup_same _ (same_names input_names) _ (λ x y b f' x' y' k. search rules) _ _ c.dedup_by_key.ensures.filtered))
    (sorted_once input_names _ (c.sort_unstable_by_key.ensures.sorted (λ (s : InputSeries). s.names)
    (always_returns_same _ _ _ (λ a r q k. search rules))))
