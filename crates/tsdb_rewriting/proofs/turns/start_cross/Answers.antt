use Rattle.std.proofs.Common.{Err, ap, subst, ◌∙◌}
use Rattle.tsdb_base.specs.declared.ids.Space.TheVariants.{Sequence}
use Rattle.tsdb_rewriting.proofs.Begun.{lent_begun, memory_began, memory_fault, start_begun, start_fault}
use Rattle.tsdb_rewriting.specs.Rewriting.{LendsJobOrNot}
use Rattle.tsdb_serving.specs.Beginnings.{IsBeginAnswer, IsCrossRuns}
use Rattle.tsdb_serving.specs.Core.{next_of}
use Rattle.tsdb_rewriting.proofs.turns.start_cross.Goals as goal

pub returns-in-Ok-clause-answer : goal.returns-in-Ok-clause-answer
returns-in-Ok-clause-answer g c = λ order. start_begun (IsCrossRuns c.args.core.now) (next_of c.args.core.now)
    c.in-Ok.begun (subst (IsBeginAnswer (IsCrossRuns c.args.core.now) (next_of c.args.core.now)) c.in-Ok.is
    (c.work_cross.ensures.answer order))

pub returns-in-Ok-clause-lent : goal.returns-in-Ok-clause-lent
returns-in-Ok-clause-lent g c = lent_begun g.F.Right.ReadRight.file Sequence (IsCrossRuns c.args.core.now)
    c.args.core.now c.work_cross.new.core c.in-Ok.begun
    (subst (LendsJobOrNot g.F.Right.ReadRight.file Sequence (IsCrossRuns c.args.core.now) c.args.core.now
    c.work_cross.new.core) c.in-Ok.is c.work_cross.ensures.lent)

pub returns-in-Ok-clause-disorder : goal.returns-in-Ok-clause-disorder
returns-in-Ok-clause-disorder g c = λ not. absurd (memory_began c.work_cross.result
    (c.work_cross.ensures.disorder not) c.in-Ok.begun c.in-Ok.is)

pub returns-in-Err-clause-answer : goal.returns-in-Err-clause-answer
returns-in-Err-clause-answer g c = λ order. start_fault (IsCrossRuns c.args.core.now) (next_of c.args.core.now)
    c.work_cross.result c.in-Err.fault c.of_core.result c.in-Err.is c.of_core.ensures
    (c.work_cross.ensures.answer order)

pub returns-in-Err-clause-lent : goal.returns-in-Err-clause-lent
returns-in-Err-clause-lent g c = subst (LendsJobOrNot g.F.Right.ReadRight.file Sequence (IsCrossRuns c.args.core.now)
    c.args.core.now c.work_cross.new.core) c.in-Err.is c.work_cross.ensures.lent

pub returns-in-Err-clause-disorder : goal.returns-in-Err-clause-disorder
returns-in-Err-clause-disorder g c = λ not. ap Err (c.of_core.ensures
    ∙ memory_fault c.work_cross.result (c.work_cross.ensures.disorder not) c.in-Err.fault c.in-Err.is)

pub returns-in-Ok-clause-order : goal.returns-in-Ok-clause-order
returns-in-Ok-clause-order g c = c.work_cross.ensures.order

pub returns-in-Err-clause-order : goal.returns-in-Err-clause-order
returns-in-Err-clause-order g c = c.work_cross.ensures.order
