use Rattle.std.proofs.Common.{inl, inr, subst, sym, ◌∙◌}
use Rattle.tsdb_core.specs.Core.{next_of}
use Rattle.tsdb_core.specs.Files.{AreDone, AreDoneSoFar}
use Rattle.tsdb_serving.proofs.Causes.{commit_cause, file_cause, result_cause, rose_on}
use Rattle.tsdb_serving.proofs.Flushes.{result_flushed}
use Rattle.tsdb_serving.proofs.Swept.{read_since}
use Rattle.tsdb_serving.specs.Faults.{HasFlushCause}
use Rattle.tsdb_serving.specs.Flushing.{TakesFlushBack, faults_under, frozen_under}
use Rattle.tsdb_serving.proofs.flushing.run_job.Goals as goal

pub end_flush-requires-clause-store : goal.end_flush-requires-clause-store
end_flush-requires-clause-store g c = λ lifetimes lives. c.run_flush.ensures.same_store ∙ c.requires.store

pub end_flush-requires-clause-so_far : goal.end_flush-requires-clause-so_far
end_flush-requires-clause-so_far g c = λ lifetimes lives.
    subst (λ store. AreDoneSoFar g.F.Sealed.SealedFile.file g.F.Sealed.SealedFile.rights store c.args.job c.in-Ok.files)
    (sym c.run_flush.ensures.same_store)
    (record { sequence = inr c.in-Ok.ensures.sequence; unsequence = inr c.in-Ok.ensures.unsequence })

pub end_flush-requires-clause-done : goal.end_flush-requires-clause-done
end_flush-requires-clause-done g c = λ lifetimes lives whole.
    subst (λ store. AreDone g.F.Sealed.SealedFile.file g.F.Sealed.SealedFile.rights store c.args.job c.in-Ok.files)
    (sym c.run_flush.ensures.same_store)
    (record { sequence = c.in-Ok.ensures.sequence; unsequence = c.in-Ok.ensures.unsequence })

pub end_flush-requires-in-Err-clause-store : goal.end_flush-requires-in-Err-clause-store
end_flush-requires-in-Err-clause-store g c = λ lifetimes lives. c.run_flush.ensures.same_store
    ∙ c.requires.store

pub end_flush-requires-in-Err-clause-so_far : goal.end_flush-requires-in-Err-clause-so_far
end_flush-requires-in-Err-clause-so_far g c = λ lifetimes lives.
    subst (λ store. AreDoneSoFar g.F.Sealed.SealedFile.file g.F.Sealed.SealedFile.rights store c.args.job
    c.in-Err.field-0.files) (sym c.run_flush.ensures.same_store)
    (record { sequence = c.in-Err.ensures.put; unsequence = inl c.in-Err.ensures.not_put })

pub end_flush-requires-in-Err-clause-done : goal.end_flush-requires-in-Err-clause-done
end_flush-requires-in-Err-clause-done g c = λ lifetimes lives whole. absurd cc

pub returns-in-Ok-clause-flushed : goal.returns-in-Ok-clause-flushed
returns-in-Ok-clause-flushed g c = result_flushed c.args.core.now c.args.job
    (frozen_under c.args.core.now) (frozen_under c.end_flush.new.core) c.end_flush.result c.result_of.result
    c.end_flush.ensures.answer c.requires.oldest c.result_of.ensures.ok c.end_flush.ensures.left

pub returns-in-Ok-clause-ends : goal.returns-in-Ok-clause-ends
returns-in-Ok-clause-ends g c = subst (λ store. TakesFlushBack g.F.Right.ReadRight.file store c.args.job c.args.core.now
    c.end_flush.new.core) c.run_flush.ensures.same_store c.end_flush.ensures.ends

pub returns-in-Ok-clause-swept : goal.returns-in-Ok-clause-swept
returns-in-Ok-clause-swept g c = read_since (g.F.Port.Counted.faults c.args.port.now)
    (g.F.Port.Counted.faults c.run_flush.new.port) (g.F.Port.Counted.faults c.end_flush.new.port) c.end_flush.new.core
    c.run_flush.ensures.later c.end_flush.ensures.swept

pub returns-in-Ok-clause-cause : goal.returns-in-Ok-clause-cause
returns-in-Ok-clause-cause g c = commit_cause c.result_of.result (faults_under c.args.core.now)
    (faults_under c.end_flush.new.core) (g.F.Port.Counted.faults c.args.port.now)
    (g.F.Port.Counted.faults c.end_flush.new.port) (next_of c.end_flush.new.core)
    (result_cause c.result_of.result c.end_flush.result (faults_under c.args.core.now)
    (faults_under c.end_flush.new.core) c.result_of.ensures.device c.end_flush.ensures.cause)

pub returns-in-Err-clause-ends : goal.returns-in-Err-clause-ends
returns-in-Err-clause-ends g c = subst (λ store. TakesFlushBack g.F.Right.ReadRight.file store c.args.job c.args.core.now
    c.end_flush-in-Err.new.core) c.run_flush.ensures.same_store c.end_flush-in-Err.ensures.ends

pub returns-in-Err-clause-swept : goal.returns-in-Err-clause-swept
returns-in-Err-clause-swept g c = read_since (g.F.Port.Counted.faults c.args.port.now)
    (g.F.Port.Counted.faults c.run_flush.new.port) (g.F.Port.Counted.faults c.end_flush-in-Err.new.port)
    c.end_flush-in-Err.new.core c.run_flush.ensures.later c.end_flush-in-Err.ensures.swept

pub returns-in-Err-clause-cause : goal.returns-in-Err-clause-cause
returns-in-Err-clause-cause g c = subst (HasFlushCause (faults_under c.args.core.now) (faults_under c.end_flush-in-Err.new.core)
    (g.F.Port.Counted.faults c.args.port.now) (g.F.Port.Counted.faults c.end_flush-in-Err.new.port)
    (next_of c.end_flush-in-Err.new.core)) (sym c.of_file.ensures)
    (file_cause (faults_under c.args.core.now) (faults_under c.end_flush-in-Err.new.core)
    (g.F.Port.Counted.faults c.args.port.now) (g.F.Port.Counted.faults c.end_flush-in-Err.new.port)
    (next_of c.end_flush-in-Err.new.core) c.in-Err.field-0.fault
    (λ is. rose_on (g.F.Port.Counted.faults c.args.port.now) (g.F.Port.Counted.faults c.run_flush.new.port)
    (g.F.Port.Counted.faults c.end_flush-in-Err.new.port) (c.in-Err.ensures.failed is)
    c.end_flush-in-Err.ensures.later))
