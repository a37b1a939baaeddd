use Rattle.std.proofs.Common.{subst, sym}
use Rattle.tsdb_redo.proofs.LastRun.{last_up_to, none_up_to}
use Rattle.tsdb_redo.specs.Runs.{IsLastUpTo}
use Rattle.tsdb_redo.proofs.numbers.last_up_to.Goals as goal

pub returns-in_err-first : goal.returns-in_err-first
returns-in_err-first c = subst (IsLastUpTo c.args.runs.now.entries c.args.number) (sym c.from_residual.ensures)
    (none_up_to c.args.runs.now c.args.number c.range.result (c.range.ensures.in_range tt) c.in_err-first.ensures.steps.0)

pub returns : goal.returns
returns c = last_up_to c.args.runs.now c.args.number c.range.result (c.range.ensures.in_range tt)
    c.in_ok-first.first.now c.in_ok-first.last.now c.next_back.new.self c.in_ok-first.ensures.steps
