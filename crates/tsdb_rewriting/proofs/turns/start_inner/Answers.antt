use Rattle.std.proofs.Common.{subst}
use Rattle.tsdb_rewriting.proofs.Begun.{lent_begun, start_begun, start_fault}
use Rattle.tsdb_rewriting.specs.Rewriting.{LendsJobOrNot}
use Rattle.tsdb_serving.specs.Beginnings.{IsBeginAnswer, IsInnerRuns}
use Rattle.tsdb_serving.specs.Core.{next_of}
use Rattle.tsdb_rewriting.proofs.turns.start_inner.Goals as goal

pub returns-in-Ok-clause-answer : goal.returns-in-Ok-clause-answer
returns-in-Ok-clause-answer g c = start_begun (IsInnerRuns c.args.space c.args.core.now) (next_of c.args.core.now)
    c.in-Ok.begun (subst (IsBeginAnswer (IsInnerRuns c.args.space c.args.core.now) (next_of c.args.core.now)) c.in-Ok.is
    c.work_inner.ensures.answer)

pub returns-in-Ok-clause-lent : goal.returns-in-Ok-clause-lent
returns-in-Ok-clause-lent g c = lent_begun g.F.Right.ReadRight.file c.args.space
    (IsInnerRuns c.args.space c.args.core.now) c.args.core.now c.work_inner.new.core c.in-Ok.begun
    (subst (LendsJobOrNot g.F.Right.ReadRight.file c.args.space (IsInnerRuns c.args.space c.args.core.now)
    c.args.core.now c.work_inner.new.core) c.in-Ok.is c.work_inner.ensures.lent)

pub returns-in-Err-clause-answer : goal.returns-in-Err-clause-answer
returns-in-Err-clause-answer g c = start_fault (IsInnerRuns c.args.space c.args.core.now) (next_of c.args.core.now)
    c.work_inner.result c.in-Err.fault c.of_core.result c.in-Err.is c.of_core.ensures c.work_inner.ensures.answer

pub returns-in-Err-clause-lent : goal.returns-in-Err-clause-lent
returns-in-Err-clause-lent g c = subst (LendsJobOrNot g.F.Right.ReadRight.file c.args.space
    (IsInnerRuns c.args.space c.args.core.now) c.args.core.now c.work_inner.new.core) c.in-Err.is
    c.work_inner.ensures.lent
