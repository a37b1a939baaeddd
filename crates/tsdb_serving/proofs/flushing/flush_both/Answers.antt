use Rattle.std.proofs.Common.{arith, subst, sym, ◌∙◌}
use Rattle.tsdb_core.specs.Core.{next_of}
use Rattle.tsdb_memory.specs.Model.{IsSoundMemory}
use Rattle.tsdb_serving.proofs.Causes.{cause_before}
use Rattle.tsdb_serving.proofs.Flushes.{and_then, both_flushed, goes_on_within}
use Rattle.tsdb_serving.proofs.Jobs.{can_still}
use Rattle.tsdb_serving.specs.Flushing.{faults_under, frozen_under}
use Rattle.tsdb_serving.specs.Loans.{CanServe}
use Rattle.tsdb_serving.proofs.flushing.flush_both.Goals as goal

pub flush_next-requires-in-Ok-clause-ready : goal.flush_next-requires-in-Ok-clause-ready
flush_next-requires-in-Ok-clause-ready g c = λ lifetimes lives. subst (λ store. CanServe store c.flush_next.new.core)
    (sym c.flush_next.ensures.goes_on.serves.same_store)
    (can_still (g.F.Port.Port.store c.args.port.now) c.args.core.now c.flush_next.new.core
    c.flush_next.ensures.goes_on.serves.keeps_all c.requires.ready)

pub returns-in-Ok-clause-goes_on : goal.returns-in-Ok-clause-goes_on
returns-in-Ok-clause-goes_on g c = and_then g.F.Port.Port.store g.F.Port.Counted.faults g.J.Disk.lawful
    c.args.port.now c.flush_next.new.port c.flush_next-in-Ok.new.port c.args.core.now c.flush_next.new.core
    c.flush_next-in-Ok.new.core 2 2 4 (omega arith) c.flush_next.ensures.goes_on c.flush_next-in-Ok.ensures.goes_on

pub returns-in-Ok-clause-cause : goal.returns-in-Ok-clause-cause
returns-in-Ok-clause-cause g c = cause_before c.flush_next-in-Ok.result (faults_under c.args.core.now)
    (faults_under c.flush_next.new.core) (faults_under c.flush_next-in-Ok.new.core)
    (g.F.Port.Counted.faults c.args.port.now) (g.F.Port.Counted.faults c.flush_next.new.port)
    (g.F.Port.Counted.faults c.flush_next-in-Ok.new.port) (next_of c.flush_next-in-Ok.new.core)
    c.flush_next.ensures.goes_on.serves.later.0 c.flush_next.ensures.goes_on.serves.later.1
    c.flush_next-in-Ok.ensures.cause

pub returns-in-Ok-clause-flushed : goal.returns-in-Ok-clause-flushed
returns-in-Ok-clause-flushed g c = both_flushed c.args.upto.0 (frozen_under c.args.core.now)
    (frozen_under c.flush_next.new.core) (frozen_under c.flush_next-in-Ok.new.core) c.flush_next-in-Ok.result
    (subst IsSoundMemory c.memory.ensures c.sound.ensures).two c.requires.newest
    (record { flushed = c.in-Ok.ensures.flushed; none = c.flush_next.ensures.none })
    (record { flushed = c.flush_next-in-Ok.ensures.flushed; none = c.flush_next-in-Ok.ensures.none })

pub returns-in-Ok-clause-working : goal.returns-in-Ok-clause-working
returns-in-Ok-clause-working g c = c.flush_next-in-Ok.ensures.working ∙ c.flush_next.ensures.working

pub returns-in-Err-clause-goes_on : goal.returns-in-Err-clause-goes_on
returns-in-Err-clause-goes_on g c = goes_on_within g.F.Port.Port.store g.F.Port.Counted.faults
    c.args.port.now c.flush_next.new.port c.args.core.now c.flush_next.new.core 2 4 (omega arith)
    c.flush_next.ensures.goes_on
