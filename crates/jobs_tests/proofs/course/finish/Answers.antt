use Rattle.std.proofs.Common.{◌≡◌, refl, subst}
use Rattle.std.specs.Prelude.{IfSome}
use Rattle.tsdb_outside.specs.Files.{Store}
use Rattle.jobs_tests.proofs.Out.{job_is_out, job_still, kept_beside, then_ends}
use Rattle.jobs_tests.proofs.course.finish.Goals as goal

pub take_steps-done-requires-after_bounds : goal.take_steps-done-requires-after_bounds
take_steps-done-requires-after_bounds g c κs within = kept_beside g.F.Right.ReadRight.file (g.F.Port.Port.store c.args.port.now) c.args.core.now
    c.args.job c.requires.job

pub end-ended-requires-clause-out : goal.end-ended-requires-clause-out
end-ended-requires-clause-out g c = λ lifetimes lives. job_is_out g.F.Right.ReadRight.file (g.F.Port.Port.store c.take_steps-done.new.port)
    c.take_steps-done.new.core c.args.job
    (job_still g.F.Right.ReadRight.file (g.F.Port.Port.store c.args.port.now) (g.F.Port.Port.store c.take_steps-done.new.port) c.args.core.now
    c.take_steps-done.new.core c.args.job
    c.take_steps-done.ensures.same_store c.requires.job c.take_steps-done.ensures.hands)

pub end-ended-requires-clause-output : goal.end-ended-requires-clause-output
end-ended-requires-clause-output g c = λ lifetimes lives. c.requires.output

pub end-ended-requires-clause-store : goal.end-ended-requires-clause-store
end-ended-requires-clause-store g c = λ lifetimes lives. subst
    (λ (s : Store). IfSome c.args.output (λ built. (g.F.Sealed.SealedFile.file built.sealed).store ≡ s))
    (c.take_steps-done.ensures.hands c.requires.job.2 c.requires.job.4).of_store c.requires.of_store

pub returns-clause-ends : goal.returns-clause-ends
returns-clause-ends g c = then_ends g.F.Right.ReadRight.file (g.F.Port.Port.store c.args.port.now) (g.F.Port.Port.store c.args.port.now)
    c.args.core.now c.take_steps-done.new.core c.end-ended.new.core
    c.args.job refl c.take_steps-done.ensures.hands (c.end-ended.ensures (g.F.Port.Port.store c.args.port.now))
