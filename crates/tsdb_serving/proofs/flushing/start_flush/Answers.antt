use Rattle.std.proofs.Common.{arith, subst, sym}
use Rattle.tsdb_core.specs.Core.{next_of}
use Rattle.tsdb_core.specs.FilesetFiles.{KeptFiles}
use Rattle.tsdb_serving.proofs.Causes.{cause_before, freeze_causes}
use Rattle.tsdb_serving.proofs.Flushes.{and_then}
use Rattle.tsdb_serving.proofs.Swept.{read_without_faults}
use Rattle.tsdb_serving.specs.Flushing.{faults_under}
use Rattle.tsdb_serving.specs.Sweeping.{AreOutgoingRead}
use Rattle.tsdb_serving.proofs.flushing.start_flush.Goals as goal

pub returns-in-Ok-clause-swept : goal.returns-in-Ok-clause-swept
returns-in-Ok-clause-swept g c = λ read calm counted. subst (λ (files : KeptFiles). AreOutgoingRead files)
    (sym c.freeze.ensures.files)
    (read_without_faults c.make_place.new.core (g.F.Port.Counted.faults c.args.port.now)
    (g.F.Port.Counted.faults c.make_place.new.port) (c.make_place.ensures.swept read) calm
    (omega (arith, (c.freeze.ensures.goes_on c.make_place.new.port).serves.later.0, counted)))

pub returns-in-Ok-clause-goes_on : goal.returns-in-Ok-clause-goes_on
returns-in-Ok-clause-goes_on g c = and_then g.F.Port.Port.store g.F.Port.Counted.faults g.J.Disk.lawful
    c.args.port.now c.make_place.new.port c.make_place.new.port c.args.core.now c.make_place.new.core
    c.freeze.new.core 2 0 2 (omega arith) c.make_place.ensures.goes_on (c.freeze.ensures.goes_on c.make_place.new.port)

pub returns-in-Ok-clause-cause : goal.returns-in-Ok-clause-cause
returns-in-Ok-clause-cause g c = cause_before c.freeze.result (faults_under c.args.core.now)
    (faults_under c.make_place.new.core) (faults_under c.freeze.new.core) (g.F.Port.Counted.faults c.args.port.now)
    (g.F.Port.Counted.faults c.make_place.new.port) (g.F.Port.Counted.faults c.make_place.new.port)
    (next_of c.freeze.new.core) c.make_place.ensures.goes_on.serves.later.0
    c.make_place.ensures.goes_on.serves.later.1
    (freeze_causes c.freeze.result (faults_under c.make_place.new.core) (faults_under c.freeze.new.core)
    (g.F.Port.Counted.faults c.make_place.new.port) (g.F.Port.Counted.faults c.make_place.new.port)
    (next_of c.freeze.new.core) c.freeze.ensures.cause c.freeze.ensures.full)

pub returns-in-Err-clause-swept : goal.returns-in-Err-clause-swept
returns-in-Err-clause-swept g c = λ read. read_without_faults c.make_place.new.core
    (g.F.Port.Counted.faults c.args.port.now) (g.F.Port.Counted.faults c.make_place.new.port)
    (c.make_place.ensures.swept read)
