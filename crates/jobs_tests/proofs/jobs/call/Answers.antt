use Rattle.jobs_tests.proofs.Out.{begins_or_not}
use Rattle.jobs_tests.proofs.jobs.call.Goals as goal

pub returns-in-Inner : goal.returns-in-Inner
returns-in-Inner g c = begins_or_not g.F.Right.ReadRight.file _ _ c.args.core.now c.begin_inner.new.self c.begin_inner.result
    c.begin_inner.ensures.begun

pub returns-in-Cross : goal.returns-in-Cross
returns-in-Cross g c = begins_or_not g.F.Right.ReadRight.file _ _ c.args.core.now c.begin_cross.new.self c.begin_cross.result
    c.begin_cross.ensures.begun
