use Rattle.tsdb_serving.proofs.Flushes.{no_flush_needed, nothing}
use Rattle.tsdb_serving.proofs.changes.make_room.Goals as goal

pub returns-clause-place : goal.returns-clause-place
returns-clause-place g c = no_flush_needed c.args.core.now c.flush_oldest.new.core c.args.row.now c.flush_oldest.result
    c.flush_oldest.ensures.few c.flush_oldest.ensures.flushed

pub returns-then-not-needs_flush-clause-goes_on : goal.returns-then-not-needs_flush-clause-goes_on
returns-then-not-needs_flush-clause-goes_on g c = nothing g.F.Port.Port.store g.F.Port.Counted.faults
    g.J.Disk.lawful c.args.port.now c.args.core.now 2

pub returns-then-not-needs_flush-clause-swept : goal.returns-then-not-needs_flush-clause-swept
returns-then-not-needs_flush-clause-swept g c = λ read calm sure. read
