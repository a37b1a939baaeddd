use Rattle.std.proofs.Common.{subst}
use Rattle.jobs_tests.proofs.Out.{flush_refused, flush_taken}
use Rattle.tsdb_core.specs.Flushes.{IsFlushTakenOrNot}
use Rattle.jobs_tests.proofs.calls.take.Goals as goal

pub returns-in-Ok : goal.returns-in-Ok
returns-in-Ok g c = flush_taken c.args.core.now c.take_flush.new.self c.in-Ok.job c.take_flush.ensures.memory
    (subst (IsFlushTakenOrNot c.args.core.now c.take_flush.new.self) c.in-Ok.is c.take_flush.ensures.taken)

pub returns-in-Err : goal.returns-in-Err
returns-in-Err g c = flush_refused c.args.core.now c.take_flush.new.self c.in-Err.field-0 c.take_flush.ensures.memory
    (subst (IsFlushTakenOrNot c.args.core.now c.take_flush.new.self) c.in-Err.is c.take_flush.ensures.taken)
