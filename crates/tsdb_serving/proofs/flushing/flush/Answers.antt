use Rattle.std.proofs.Common.{◌∙◌}
use Rattle.tsdb_core.specs.Core.{next_of}
use Rattle.tsdb_serving.proofs.Causes.{cause_since}
use Rattle.tsdb_serving.proofs.Jobs.{can_still, of_the_store}
use Rattle.tsdb_serving.proofs.Swept.{flushed_swept, goes_on_swept, no_less_swept, read_since}
use Rattle.tsdb_serving.specs.Flushing.{faults_under}
use Rattle.tsdb_serving.proofs.flushing.flush.Goals as goal

pub sweep-requires-clause-store : goal.sweep-requires-clause-store
sweep-requires-clause-store g c = λ lifetimes lives.
    c.flush_pairs-flushed.ensures.goes_on.serves.same_store
    ∙ (of_the_store (g.F.Port.Port.store c.args.port.now) c.flush_pairs-flushed.new.core
    (can_still (g.F.Port.Port.store c.args.port.now) c.args.core.now c.flush_pairs-flushed.new.core
    c.flush_pairs-flushed.ensures.goes_on.serves.keeps_all c.requires.ready))

pub returns-clause-flushed : goal.returns-clause-flushed
returns-clause-flushed g c = flushed_swept c.flush_pairs-flushed.new.core c.sweep.new.core c.sweep.ensures.listed
    c.flush_pairs-flushed.result c.flush_pairs-flushed.ensures.flushed

pub returns-clause-swept : goal.returns-clause-swept
returns-clause-swept g c = read_since (g.F.Port.Counted.faults c.args.port.now)
    (g.F.Port.Counted.faults c.flush_pairs-flushed.new.port) (g.F.Port.Counted.faults c.sweep.new.port) c.sweep.new.core
    c.flush_pairs-flushed.ensures.goes_on.serves.later.1 c.sweep.ensures.swept

pub returns-clause-goes_on : goal.returns-clause-goes_on
returns-clause-goes_on g c = goes_on_swept c.args.core.now c.flush_pairs-flushed.new.core c.sweep.new.core
    c.sweep.ensures.listed g.F.Port.Port.store g.F.Port.Counted.faults c.args.port.now c.flush_pairs-flushed.new.port
    c.sweep.new.port 6 c.flush_pairs-flushed.ensures.goes_on c.sweep.ensures.keeps_all c.sweep.ensures.same_store
    c.sweep.ensures.later

pub returns-clause-cause : goal.returns-clause-cause
returns-clause-cause g c = cause_since c.flush_pairs-flushed.result (faults_under c.args.core.now)
    (faults_under c.flush_pairs-flushed.new.core) (faults_under c.sweep.new.core)
    (g.F.Port.Counted.faults c.args.port.now) (g.F.Port.Counted.faults c.flush_pairs-flushed.new.port)
    (g.F.Port.Counted.faults c.sweep.new.port) (next_of c.flush_pairs-flushed.new.core) (next_of c.sweep.new.core)
    (no_less_swept c.flush_pairs-flushed.new.core c.sweep.new.core c.sweep.ensures.listed) c.sweep.ensures.later
    c.sweep.ensures.listed.next c.flush_pairs-flushed.ensures.cause
