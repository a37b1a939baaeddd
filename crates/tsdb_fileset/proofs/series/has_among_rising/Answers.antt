use Rattle.std.proofs.Common.{List, ap, rules, ℕ, ◌∙◌}
use Rattle.std.proofs.lemmas.Fn.{always_returns_same}
use Rattle.std.specs.Ordering.{is_eq}
use Rattle.tsdb_path.specs.Order.{tree_cmp}
use Rattle.tsdb_fileset.proofs.Searched.{path_absent, path_met}
use Rattle.tsdb_fileset.proofs.series.has_among_rising.Goals as goal

pub returns-in-Ok : goal.returns-in-Ok
returns-in-Ok c = path_met c.args.path.now c.index-paths-at.result c.args.paths.now c.in-Ok.at _ c.in-Ok.ensures.bound
    c.index-paths-at.is c.requires (c.in-Ok.ensures.position (λ (other : List ℕ). tree_cmp other c.args.path.now)
    (always_returns_same _ _ _ (λ a r q k. search rules))) (c.is_eq.ensures ∙ ap is_eq c.cmp.ensures)

pub returns-in-Err : goal.returns-in-Err
returns-in-Err c = path_absent c.args.path.now c.args.paths.now c.in-Err.field-0 c.requires
    (c.in-Err.ensures.position (λ (other : List ℕ). tree_cmp other c.args.path.now)
    (always_returns_same _ _ _ (λ a r q k. search rules)))
