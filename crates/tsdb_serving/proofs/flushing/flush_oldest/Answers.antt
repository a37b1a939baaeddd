use Rattle.tsdb_serving.proofs.Flushes.{is_due, none_frozen, nothing}
use Rattle.tsdb_serving.specs.Flushing.{frozen_under}
use Rattle.tsdb_serving.proofs.flushing.flush_oldest.Goals as goal

pub returns-in-Some-clause-flushed : goal.returns-in-Some-clause-flushed
returns-in-Some-clause-flushed g c = c.flush_next.ensures.flushed (is_due (frozen_under c.args.core.now) c.oldest.result
    c.in-Some.upto c.in-Some.is c.oldest.ensures.born)

pub returns-in-None-clause-flushed : goal.returns-in-None-clause-flushed
returns-in-None-clause-flushed g c = none_frozen (frozen_under c.args.core.now) c.oldest.result c.in-None.is c.oldest.ensures.born

pub returns-in-None-clause-swept : goal.returns-in-None-clause-swept
returns-in-None-clause-swept g c = λ read calm sure. read

pub returns-in-None-clause-goes_on : goal.returns-in-None-clause-goes_on
returns-in-None-clause-goes_on g c = nothing g.F.Port.Port.store g.F.Port.Counted.faults g.J.Disk.lawful
    c.args.port.now c.args.core.now 2
