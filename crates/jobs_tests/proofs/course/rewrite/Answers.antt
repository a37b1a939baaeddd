use Rattle.std.proofs.Common.{◌≡◌, subst}
use Rattle.std.specs.Prelude.{IfSome}
use Rattle.tsdb_outside.specs.Files.{Store}
use Rattle.jobs_tests.proofs.Out.{inputs_in_store, job_is_out}
use Rattle.jobs_tests.proofs.course.rewrite.Goals as goal

pub run_job-requires-clause-formed : goal.run_job-requires-clause-formed
run_job-requires-clause-formed g c = λ lifetimes lives. c.requires.0.formed

pub run_job-requires-clause-of_store : goal.run_job-requires-clause-of_store
run_job-requires-clause-of_store g c = λ lifetimes lives. inputs_in_store g.F.Right.ReadRight.file (g.F.Port.Port.store c.args.port.now)
    c.args.core.now c.args.job c.requires c.sound.ensures.of_store

pub commit-requires-clause-out : goal.commit-requires-clause-out
commit-requires-clause-out g c = λ lifetimes lives. job_is_out g.F.Right.ReadRight.file (g.F.Port.Port.store c.args.port.now) c.args.core.now
    c.args.job c.requires

pub commit-requires-clause-output : goal.commit-requires-clause-output
commit-requires-clause-output g c = λ lifetimes lives. c.in-Ok.ensures.output

pub commit-requires-clause-store : goal.commit-requires-clause-store
commit-requires-clause-store g c = λ lifetimes lives. subst
    (λ (s : Store). IfSome c.in-Ok.output (λ built. (g.F.Sealed.SealedFile.file built.sealed).store ≡ s))
    c.requires.4.of_store c.in-Ok.ensures.of_store

pub give_up-requires-clause-out : goal.give_up-requires-clause-out
give_up-requires-clause-out g c = λ lifetimes lives. job_is_out g.F.Right.ReadRight.file (g.F.Port.Port.store c.args.port.now) c.args.core.now
    c.args.job c.requires

pub give_up-requires-clause-output : goal.give_up-requires-clause-output
give_up-requires-clause-output g c = λ lifetimes lives. tt

pub returns-in-Ok-clause-ends : goal.returns-in-Ok-clause-ends
returns-in-Ok-clause-ends g c = c.commit.ensures (g.F.Port.Port.store c.args.port.now)

pub returns-in-Err-clause-ends : goal.returns-in-Err-clause-ends
returns-in-Err-clause-ends g c = c.give_up.ensures (g.F.Port.Port.store c.args.port.now)
