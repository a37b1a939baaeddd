use Rattle.std.proofs.Common.{◌<◌, Ok, ap, arith, subst, sym, ◌∙◌}
use Rattle.std.specs.List.{AllByRecursion as Each}
use Rattle.tsdb_core.specs.Core.{logged_of, next_of}
use Rattle.tsdb_core.specs.Flushes.{IsTakeAnswer}
use Rattle.tsdb_memory.specs.LogState.{memory_of}
use Rattle.tsdb_memory.specs.Store.{MemoryState}
use Rattle.tsdb_serving.proofs.Causes.{cause_before, core_cause, full_is}
use Rattle.tsdb_serving.proofs.Flushes.{dropped, due_at_fault, flushed, same_faults, stayed_idle}
use Rattle.tsdb_serving.proofs.Jobs.{out_of_taken}
use Rattle.tsdb_serving.specs.Faults.{HasFlushCause}
use Rattle.tsdb_serving.specs.Flushing.{LendsFlushOrNot, faults_under, frozen_under}
use Rattle.tsdb_serving.proofs.flushing.flush_next.Goals as goal

pub run_job-requires-clause-is_job : goal.run_job-requires-clause-is_job
run_job-requires-clause-is_job g c = λ lifetimes lives.
    (subst (LendsFlushOrNot g.F.Right.ReadRight.file c.args.core.now c.take_flush.new.core)
    (c.in-Ok-Some.is ∙ ap Ok c.in-Ok-Some.field-0-is) c.take_flush.ensures.taken).is_job

pub run_job-requires-clause-out : goal.run_job-requires-clause-out
run_job-requires-clause-out g c = λ lifetimes lives.
    let lent = subst (LendsFlushOrNot g.F.Right.ReadRight.file c.args.core.now c.take_flush.new.core)
    (c.in-Ok-Some.is ∙ ap Ok c.in-Ok-Some.field-0-is) c.take_flush.ensures.taken in
    out_of_taken (g.F.Port.Port.store c.args.port.now) c.args.core.now c.take_flush.new.core c.in-Ok-Some.job
    (lent.turn.lends (g.F.Port.Port.store c.args.port.now)) c.requires.ready

pub run_job-requires-clause-store : goal.run_job-requires-clause-store
run_job-requires-clause-store g c = λ lifetimes lives.
    let lent = subst (LendsFlushOrNot g.F.Right.ReadRight.file c.args.core.now c.take_flush.new.core)
    (c.in-Ok-Some.is ∙ ap Ok c.in-Ok-Some.field-0-is) c.take_flush.ensures.taken in
    (lent.turn.lends (g.F.Port.Port.store c.args.port.now) c.requires.ready.0 c.requires.ready.1).of_store

pub run_job-requires-clause-oldest : goal.run_job-requires-clause-oldest
run_job-requires-clause-oldest g c = λ lifetimes lives.
    (subst (LendsFlushOrNot g.F.Right.ReadRight.file c.args.core.now c.take_flush.new.core)
    (c.in-Ok-Some.is ∙ ap Ok c.in-Ok-Some.field-0-is) c.take_flush.ensures.taken).oldest
    (g.F.Port.Port.store c.args.port.now) c.requires.ready

pub returns-in-Ok-Some-clause-flushed : goal.returns-in-Ok-Some-clause-flushed
returns-in-Ok-Some-clause-flushed g c = λ due. dropped (frozen_under c.args.core.now) (frozen_under c.take_flush.new.core)
    (frozen_under c.run_job.new.core) c.run_job.result
    (ap (λ (store : MemoryState). store.frozen) c.take_flush.ensures.memory) c.run_job.ensures.flushed

pub returns-in-Ok-Some-clause-none : goal.returns-in-Ok-Some-clause-none
returns-in-Ok-Some-clause-none g c = λ not. absurd (not (subst (IsTakeAnswer c.args.upto.0 (next_of c.args.core.now)
    (memory_of (logged_of c.args.core.now))) (c.in-Ok-Some.is ∙ ap Ok c.in-Ok-Some.field-0-is)
    c.take_flush.ensures.answer).0)

pub returns-in-Ok-Some-clause-working : goal.returns-in-Ok-Some-clause-working
returns-in-Ok-Some-clause-working g c = c.run_job.ensures.ends.ends.kept.working
    ∙ ap (λ (store : MemoryState). store.working) c.take_flush.ensures.memory

pub returns-in-Ok-Some-clause-swept : goal.returns-in-Ok-Some-clause-swept
returns-in-Ok-Some-clause-swept g c = λ read. c.run_job.ensures.swept

pub returns-in-Ok-Some-clause-goes_on : goal.returns-in-Ok-Some-clause-goes_on
returns-in-Ok-Some-clause-goes_on g c =
    let lent = subst (LendsFlushOrNot g.F.Right.ReadRight.file c.args.core.now c.take_flush.new.core)
    (c.in-Ok-Some.is ∙ ap Ok c.in-Ok-Some.field-0-is) c.take_flush.ensures.taken in
    flushed g.F.Port.Port.store g.F.Port.Counted.faults g.J.Disk.lawful g.F.Right.ReadRight.file c.args.port.now
    c.run_job.new.port c.args.core.now c.take_flush.new.core c.run_job.new.core c.in-Ok-Some.job lent
    c.run_job.ensures.ends 2 lent.few c.run_job.ensures.same_store c.run_job.ensures.later

pub returns-in-Ok-Some-clause-cause : goal.returns-in-Ok-Some-clause-cause
returns-in-Ok-Some-clause-cause g c =
    let lent = subst (LendsFlushOrNot g.F.Right.ReadRight.file c.args.core.now c.take_flush.new.core)
    (c.in-Ok-Some.is ∙ ap Ok c.in-Ok-Some.field-0-is) c.take_flush.ensures.taken in
    cause_before c.run_job.result (faults_under c.args.core.now) (faults_under c.take_flush.new.core)
    (faults_under c.run_job.new.core) (g.F.Port.Counted.faults c.args.port.now) (g.F.Port.Counted.faults c.args.port.now)
    (g.F.Port.Counted.faults c.run_job.new.port) (next_of c.run_job.new.core)
    (same_faults c.args.core.now c.take_flush.new.core lent.turn.log) (omega arith) c.run_job.ensures.cause

pub returns-in-Ok-None-clause-flushed : goal.returns-in-Ok-None-clause-flushed
returns-in-Ok-None-clause-flushed g c = λ due. absurd (subst (IsTakeAnswer c.args.upto.0 (next_of c.args.core.now)
    (memory_of (logged_of c.args.core.now))) (c.in-Ok-None.is ∙ ap Ok c.in-Ok-None.field-0-is)
    c.take_flush.ensures.answer due)

pub returns-in-Ok-None-clause-none : goal.returns-in-Ok-None-clause-none
returns-in-Ok-None-clause-none g c = λ not. (
  ap (λ (store : MemoryState). store.frozen) c.take_flush.ensures.memory,
  subst (λ (store : MemoryState). Each (λ pair. c.args.upto.0 < pair.born) store.frozen) c.take_flush.ensures.memory
      (c.take_flush.ensures.none (c.in-Ok-None.is ∙ ap Ok c.in-Ok-None.field-0-is)),
)

pub returns-in-Ok-None-clause-working : goal.returns-in-Ok-None-clause-working
returns-in-Ok-None-clause-working g c = ap (λ (store : MemoryState). store.working) c.take_flush.ensures.memory

pub returns-in-Ok-None-clause-swept : goal.returns-in-Ok-None-clause-swept
returns-in-Ok-None-clause-swept g c = λ read calm sure. c.take_flush.ensures.files read

pub returns-in-Ok-None-clause-goes_on : goal.returns-in-Ok-None-clause-goes_on
returns-in-Ok-None-clause-goes_on g c = stayed_idle g.F.Port.Port.store g.F.Port.Counted.faults g.J.Disk.lawful
    c.args.port.now c.args.core.now c.take_flush.new.core 2
    (subst (LendsFlushOrNot g.F.Right.ReadRight.file c.args.core.now c.take_flush.new.core)
    (c.in-Ok-None.is ∙ ap Ok c.in-Ok-None.field-0-is) c.take_flush.ensures.taken)

pub returns-in-Err-clause-flushed : goal.returns-in-Err-clause-flushed
returns-in-Err-clause-flushed g c = λ due. tt

pub returns-in-Err-clause-none : goal.returns-in-Err-clause-none
returns-in-Err-clause-none g c = λ not. absurd (not (due_at_fault c.args.upto.0 (next_of c.args.core.now)
    (memory_of (logged_of c.args.core.now)) c.in-Err.fault
    (subst (IsTakeAnswer c.args.upto.0 (next_of c.args.core.now) (memory_of (logged_of c.args.core.now))) c.in-Err.is
    c.take_flush.ensures.answer)))

pub returns-in-Err-clause-working : goal.returns-in-Err-clause-working
returns-in-Err-clause-working g c = ap (λ (store : MemoryState). store.working) c.take_flush.ensures.memory

pub returns-in-Err-clause-swept : goal.returns-in-Err-clause-swept
returns-in-Err-clause-swept g c = λ read calm sure. c.take_flush.ensures.files read

pub returns-in-Err-clause-goes_on : goal.returns-in-Err-clause-goes_on
returns-in-Err-clause-goes_on g c = stayed_idle g.F.Port.Port.store g.F.Port.Counted.faults g.J.Disk.lawful
    c.args.port.now c.args.core.now c.take_flush.new.core 2
    (subst (LendsFlushOrNot g.F.Right.ReadRight.file c.args.core.now c.take_flush.new.core) c.in-Err.is
    c.take_flush.ensures.taken)

pub returns-in-Err-clause-cause : goal.returns-in-Err-clause-cause
returns-in-Err-clause-cause g c = subst (HasFlushCause (faults_under c.args.core.now) (faults_under c.take_flush.new.core)
    (g.F.Port.Counted.faults c.args.port.now) (g.F.Port.Counted.faults c.args.port.now)
    (next_of c.take_flush.new.core)) (sym c.of_core.ensures)
    (core_cause (faults_under c.args.core.now) (faults_under c.take_flush.new.core)
    (g.F.Port.Counted.faults c.args.port.now) (g.F.Port.Counted.faults c.args.port.now) (next_of c.args.core.now)
    (next_of c.take_flush.new.core) c.in-Err.fault
    (full_is c.args.upto.0 (next_of c.args.core.now) (memory_of (logged_of c.args.core.now)) c.in-Err.fault
    (subst (IsTakeAnswer c.args.upto.0 (next_of c.args.core.now) (memory_of (logged_of c.args.core.now))) c.in-Err.is
    c.take_flush.ensures.answer))
    (subst (LendsFlushOrNot g.F.Right.ReadRight.file c.args.core.now c.take_flush.new.core) c.in-Err.is
    c.take_flush.ensures.taken).next)
