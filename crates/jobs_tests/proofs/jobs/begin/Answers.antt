use Rattle.std.proofs.Common.{subst}
use Rattle.jobs_tests.specs.Begins.{BeginsOrNot}
use Rattle.jobs_tests.proofs.Out.{fault_begun, job_begun}
use Rattle.jobs_tests.proofs.jobs.begin.Goals as goal

pub returns-in-Ok : goal.returns-in-Ok
returns-in-Ok g c = job_begun g.F.Right.ReadRight.file c.args.core.now c.call.new.core c.in-Ok.job
    (subst (BeginsOrNot g.F.Right.ReadRight.file c.args.core.now c.call.new.core) c.in-Ok.is c.call.ensures)

pub returns-in-Err : goal.returns-in-Err
returns-in-Err g c = fault_begun g.F.Right.ReadRight.file c.args.core.now c.call.new.core c.in-Err.fault
    (subst (BeginsOrNot g.F.Right.ReadRight.file c.args.core.now c.call.new.core) c.in-Err.is c.call.ensures)
