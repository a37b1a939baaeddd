use Rattle.tsdb_serving.proofs.Flushes.{nothing, place_left}
use Rattle.tsdb_serving.proofs.flushing.make_place.Goals as goal

pub returns-clause-place : goal.returns-clause-place
returns-clause-place g c = place_left c.args.core.now c.flush_oldest.new.core c.flush_oldest.result c.flush_oldest.ensures.few
    c.flush_oldest.ensures.flushed

pub returns-then-is_idle-clause-swept : goal.returns-then-is_idle-clause-swept
returns-then-is_idle-clause-swept g c = λ read calm sure. read

pub returns-then-is_idle-clause-goes_on : goal.returns-then-is_idle-clause-goes_on
returns-then-is_idle-clause-goes_on g c = nothing g.F.Port.Port.store g.F.Port.Counted.faults g.J.Disk.lawful
    c.args.port.now c.args.core.now 2

pub returns-then-frozen-lt-MAX_FROZEN-clause-swept : goal.returns-then-frozen-lt-MAX_FROZEN-clause-swept
returns-then-frozen-lt-MAX_FROZEN-clause-swept g c = λ read calm sure. read

pub returns-then-frozen-lt-MAX_FROZEN-clause-goes_on : goal.returns-then-frozen-lt-MAX_FROZEN-clause-goes_on
returns-then-frozen-lt-MAX_FROZEN-clause-goes_on g c = nothing g.F.Port.Port.store g.F.Port.Counted.faults
    g.J.Disk.lawful c.args.port.now c.args.core.now 2
