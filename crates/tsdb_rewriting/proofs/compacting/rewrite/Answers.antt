use Rattle.std.proofs.Common.{inr, subst, sym, ◌∙◌}
use Rattle.tsdb_rewriting.proofs.Begun.{of_the_store}
use Rattle.tsdb_rewriting.proofs.Outputs.{device_alone, device_cause, device_failed, finished_of, made_of, not_full, store_cause}
use Rattle.tsdb_rewriting.specs.Rewriting.{EndsJob, IsOutputOfStore}
use Rattle.tsdb_serving.proofs.Causes.{rose_on}
use Rattle.tsdb_serving.proofs.Swept.{read_since}
use Rattle.tsdb_rewriting.proofs.compacting.rewrite.Goals as goal

pub run-requires-clause-formed : goal.run-requires-clause-formed
run-requires-clause-formed g c = λ lifetimes lives. c.requires.out.kept.formed

pub run-requires-clause-of_store : goal.run-requires-clause-of_store
run-requires-clause-of_store g c = λ lifetimes lives. of_the_store g.F.Right.ReadRight.file
    (g.F.Port.Port.store c.args.port.now) c.args.core.now c.args.job c.requires.out c.sound.ensures.of_store
    c.requires.store

pub end_job-requires-clause-store : goal.end_job-requires-clause-store
end_job-requires-clause-store g c = λ lifetimes lives. c.run.ensures.same_store ∙ c.requires.store

pub end_job-requires-clause-in_store : goal.end_job-requires-clause-in_store
end_job-requires-clause-in_store g c = λ lifetimes lives.
    subst (λ store. IsOutputOfStore g.F.Sealed.SealedFile.file store c.in-Ok.output) (sym c.run.ensures.same_store)
    c.in-Ok.ensures.of_store

pub end_job-requires-clause-made : goal.end_job-requires-clause-made
end_job-requires-clause-made g c = λ lifetimes lives. made_of g.F.Right.ReadRight.file g.F.Sealed.SealedFile.file
    g.F.Sealed.SealedFile.rights c.args.job c.in-Ok.output c.in-Ok.ensures.output

pub end_job-requires-clause-whole : goal.end_job-requires-clause-whole
end_job-requires-clause-whole g c = λ lifetimes lives whole. c.in-Ok.ensures.output

pub end_job-requires-in-Err-clause-store : goal.end_job-requires-in-Err-clause-store
end_job-requires-in-Err-clause-store g c = λ lifetimes lives. c.run.ensures.same_store ∙ c.requires.store

pub end_job-requires-in-Err-clause-whole : goal.end_job-requires-in-Err-clause-whole
end_job-requires-in-Err-clause-whole g c = λ lifetimes lives whole. absurd cc

pub returns-in-Ok-clause-finished : goal.returns-in-Ok-clause-finished
returns-in-Ok-clause-finished g c = finished_of c.args.core.now c.end_job.new.core c.args.job c.end_job.result
    c.result_of.result c.end_job.ensures.answer c.result_of.ensures.done

pub returns-in-Ok-clause-ends : goal.returns-in-Ok-clause-ends
returns-in-Ok-clause-ends g c = subst (λ store. EndsJob g.F.Right.ReadRight.file store c.args.job c.args.core.now
    c.end_job.new.core) c.run.ensures.same_store c.end_job.ensures.ends

pub returns-in-Ok-clause-swept : goal.returns-in-Ok-clause-swept
returns-in-Ok-clause-swept g c = read_since (g.F.Port.Counted.faults c.args.port.now)
    (g.F.Port.Counted.faults c.run.new.port) (g.F.Port.Counted.faults c.end_job.new.port) c.end_job.new.core
    c.run.ensures.later c.end_job.ensures.swept

pub returns-in-Ok-clause-cause : goal.returns-in-Ok-clause-cause
returns-in-Ok-clause-cause g c = λ was. device_cause c.end_job.result c.result_of.result _ _ _ _
    c.result_of.ensures.device c.end_job.ensures.cause

pub returns-in-Ok-clause-full : goal.returns-in-Ok-clause-full
returns-in-Ok-clause-full g c = device_alone c.end_job.result c.result_of.result c.result_of.ensures.device

pub returns-in-Err-clause-ends : goal.returns-in-Err-clause-ends
returns-in-Err-clause-ends g c = subst (λ store. EndsJob g.F.Right.ReadRight.file store c.args.job c.args.core.now
    c.end_job-in-Err.new.core) c.run.ensures.same_store c.end_job-in-Err.ensures.ends

pub returns-in-Err-clause-swept : goal.returns-in-Err-clause-swept
returns-in-Err-clause-swept g c = read_since (g.F.Port.Counted.faults c.args.port.now)
    (g.F.Port.Counted.faults c.run.new.port) (g.F.Port.Counted.faults c.end_job-in-Err.new.port)
    c.end_job-in-Err.new.core c.run.ensures.later c.end_job-in-Err.ensures.swept

pub returns-in-Err-clause-cause : goal.returns-in-Err-clause-cause
returns-in-Err-clause-cause g c = λ was is. inr (rose_on (g.F.Port.Counted.faults c.args.port.now)
    (g.F.Port.Counted.faults c.run.new.port) (g.F.Port.Counted.faults c.end_job-in-Err.new.port)
    (store_cause c.run.result c.in-Err.fault _ _ c.in-Err.is (c.run.ensures.cause was.0 was.1)
    (device_failed c.in-Err.fault (sym c.of_file.ensures ∙ is))) c.end_job-in-Err.ensures.later)

pub returns-in-Err-clause-full : goal.returns-in-Err-clause-full
returns-in-Err-clause-full g c = λ counter is. not_full c.in-Err.fault counter (sym c.of_file.ensures ∙ is)
