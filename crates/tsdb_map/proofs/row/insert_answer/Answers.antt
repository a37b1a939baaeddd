use Rattle.std.proofs.Common.{ap, sym, ◌∙◌, cond}
use Rattle.std.specs.Option.{option_copied}
use Rattle.tsdb_base.specs.declared.answers.Answer.TheVariants.{Done, WrongType}
use Rattle.tsdb_map.proofs.PlainLemmas.{answered, no_path}
use Rattle.tsdb_map.proofs.row.insert_answer.Goals as goal

pub returns-in_default : goal.returns-in_default
returns-in_default c =
    no_path c.args.catalog.now c.args.device.now c.args.cells.now c.loop-cell.cell-index c.cell-item.result c.loop-cell-test.true c.cell-item.is
    (sym c.get.ensures ∙ ap option_copied c.in_default.is)

pub returns-then-fit : goal.returns-then-fit
returns-then-fit c =
    sym (answered c.args.catalog.now c.args.device.now c.args.cells.now c.loop-cell.cell-index c.loop-cell.fit c.loop-cell-test.false c.loop-cell.invariant.0 c.loop-cell.invariant.1
    ∙ ap (λ b. cond b Done WrongType) c.if-fit.true)

pub returns-else-fit : goal.returns-else-fit
returns-else-fit c =
    sym (answered c.args.catalog.now c.args.device.now c.args.cells.now c.loop-cell.cell-index c.loop-cell.fit c.loop-cell-test.false c.loop-cell.invariant.0 c.loop-cell.invariant.1
    ∙ ap (λ b. cond b Done WrongType) c.if-fit.false)
