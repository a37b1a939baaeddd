use Rattle.std.proofs.Common.{◌≡◌, subst, sym, ◌∙◌}
use Rattle.std.specs.Prelude.{IfSome}
use Rattle.tsdb_outside.specs.Files.{Store}
use Rattle.jobs_tests.proofs.Out.{inputs_in_store, job_is_out, job_still, same_core, then_ends}
use Rattle.jobs_tests.proofs.course.write.Goals as goal

pub run_job-requires-clause-formed : goal.run_job-requires-clause-formed
run_job-requires-clause-formed g c = λ lifetimes lives. c.requires.0.formed

pub run_job-requires-clause-of_store : goal.run_job-requires-clause-of_store
run_job-requires-clause-of_store g c = λ lifetimes lives. inputs_in_store g.F.Right.ReadRight.file (g.F.Port.Port.store c.args.port.now)
    c.args.core.now c.args.job c.requires c.sound.ensures.of_store

pub finish-ended-requires-clause-job : goal.finish-ended-requires-clause-job
finish-ended-requires-clause-job g c = λ lifetimes lives. job_still g.F.Right.ReadRight.file (g.F.Port.Port.store c.args.port.now)
    (g.F.Port.Port.store c.run_job.new.port) c.args.core.now c.args.core.now
    c.args.job c.run_job.ensures.same_store c.requires (same_core (g.F.Port.Port.store c.args.port.now) c.args.core.now)

pub finish-ended-requires-clause-output : goal.finish-ended-requires-clause-output
finish-ended-requires-clause-output g c = λ lifetimes lives. c.in-Ok.ensures.output

pub finish-ended-requires-clause-of_store : goal.finish-ended-requires-clause-of_store
finish-ended-requires-clause-of_store g c = λ lifetimes lives. subst
    (λ (s : Store). IfSome c.in-Ok.output (λ built. (g.F.Sealed.SealedFile.file built.sealed).store ≡ s))
    (sym c.run_job.ensures.same_store) c.in-Ok.ensures.of_store

pub give_up-requires-clause-out : goal.give_up-requires-clause-out
give_up-requires-clause-out g c = λ lifetimes lives. job_is_out g.F.Right.ReadRight.file (g.F.Port.Port.store c.args.port.now) c.args.core.now
    c.args.job c.requires

pub give_up-requires-clause-output : goal.give_up-requires-clause-output
give_up-requires-clause-output g c = λ lifetimes lives. tt

pub returns-in-Ok-clause-ends : goal.returns-in-Ok-clause-ends
returns-in-Ok-clause-ends g c = then_ends g.F.Right.ReadRight.file (g.F.Port.Port.store c.args.port.now) (g.F.Port.Port.store c.run_job.new.port)
    c.args.core.now c.args.core.now
    c.finish-ended.new.core c.args.job c.run_job.ensures.same_store (same_core (g.F.Port.Port.store c.args.port.now) c.args.core.now)
    c.finish-ended.ensures.ends

pub returns-in-Ok-clause-same_store : goal.returns-in-Ok-clause-same_store
returns-in-Ok-clause-same_store g c = c.finish-ended.ensures.same_store ∙ c.run_job.ensures.same_store

pub returns-in-Err-clause-ends : goal.returns-in-Err-clause-ends
returns-in-Err-clause-ends g c = c.give_up.ensures (g.F.Port.Port.store c.args.port.now)
