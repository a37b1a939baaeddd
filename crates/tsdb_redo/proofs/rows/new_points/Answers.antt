use Rattle.std.proofs.Common.{◌≡◌, ◌∙◌, arith, rules, subst, sym}
use Rattle.std.proofs.lemmas.Bool.{false≢true}
use Rattle.std.proofs.lemmas.Int.{to_z-of_z}
use Rattle.std.specs.Int.{w64}
use Rattle.tsdb_redo.proofs.NewPoints.{all_counted, counted, not_counted}
use Rattle.tsdb_redo.specs.Rows.{new_points}
use Rattle.tsdb_redo.proofs.rows.new_points.Goals.{then-is_new, else-is_new}
use Rattle.tsdb_redo.proofs.rows.new_points.Goals as goal

pub loop-cell-init : goal.loop-cell-init
loop-cell-init c = record { rest = omega arith; few = omega arith }

pub loop-cell-preserved : goal.loop-cell-preserved
loop-cell-preserved c =
    elim c.if-is_new.branch [
      | then-is_new w ↦ record {
        rest = counted c.args.space _ c.args.pair.now c.args.cells.now c.loop-cell.cell-index c.cell-item.result
            c.loop-cell-test.true c.cell-item.is c.loop-cell.count c.if-is_new.count _ w.count-is
            (c.is_new.ensures.0 w.if-is_new.true) c.loop-cell.invariant.rest;
        few = omega (arith, w.count-is, c.loop-cell.invariant.few);
      }
      | else-is_new w ↦ record {
        rest = not_counted c.args.space _ c.args.pair.now c.args.cells.now c.loop-cell.cell-index c.cell-item.result
            c.loop-cell-test.true c.cell-item.is c.loop-cell.count c.if-is_new.count _ w.count-is
            (λ none. false≢true (sym w.if-is_new.false ∙ c.is_new.ensures.1 none)) c.loop-cell.invariant.rest;
        few = omega (arith, w.count-is, c.loop-cell.invariant.few);
      }
    ]

pub returns : goal.returns
returns c = subst (λ t. c.loop-cell.count ≡ new_points c.args.space t c.args.pair.now c.args.cells.now)
    (to_z-of_z w64 c.args.time (search rules))
    (all_counted c.args.space _ c.args.pair.now c.args.cells.now c.loop-cell.cell-index c.loop-cell.count _
    c.loop-cell-test.false c.loop-cell.invariant.rest)
