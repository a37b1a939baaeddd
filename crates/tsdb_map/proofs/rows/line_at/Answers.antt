use Rattle.std.proofs.lemmas.Grind.{common_steps}
use Rattle.std.proofs.Common.{◌≡◌, w64, to_z, of_z, ap, ◌∙◌, map, take, arith}
use Rattle.std.proofs.lemmas.Int.{to_z-of_z}
use Rattle.std.specs.FinMap.{get}
use Rattle.tsdb_model.specs.Folds.{within}
use Rattle.tsdb_map.proofs.RowLemmas.{line-is}
use Rattle.tsdb_map.proofs.rows.line_at.Goals as goal

pub returns : goal.returns
returns c =
    let time : to_z w64 (of_z w64 c.args.time) ≡ c.args.time = to_z-of_z w64 c.args.time c.ranges.time in
    let read : c.loop-column.values.items
    ≡ map (λ column. get (within c.args.range.now column.now.points) (to_z w64 (of_z w64 c.args.time))) (take c.loop-column.column-index c.args.columns.now) = c.loop-column.invariant in
    line-is c.args.range.now c.args.columns.now c.loop-column.column-index c.args.time _ _ c.loop-column-test.false time
    (c.of.ensures ∙ read ∙ ap (λ t. map (λ column. get (within c.args.range.now column.now.points) t) (take c.loop-column.column-index c.args.columns.now)) time)

pub loop-column-preserved : goal.loop-column-preserved
loop-column-preserved c = grind (arith, common_steps)
