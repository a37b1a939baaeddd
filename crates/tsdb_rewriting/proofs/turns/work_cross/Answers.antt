use Rattle.tsdb_base.specs.declared.ids.Space.TheVariants.{Sequence}
use Rattle.tsdb_rewriting.proofs.Begun.{begun_read, lent_or_not}
use Rattle.tsdb_serving.specs.Beginnings.{IsCrossRuns}
use Rattle.tsdb_rewriting.proofs.turns.work_cross.Goals as goal

pub returns-clause-lent : goal.returns-clause-lent
returns-clause-lent g c = lent_or_not g.F.Right.ReadRight.file g.J.Disk.lawful Sequence (IsCrossRuns c.args.core.now)
    c.args.core.now c.begin_cross.new.self c.begin_cross.result c.begin_cross.ensures.begun

pub returns-clause-order : goal.returns-clause-order
returns-clause-order g c = λ loans files at next serving.
    c.begin_cross.ensures.order serving.outside serving.state serving.seen

pub returns-clause-files : goal.returns-clause-files
returns-clause-files g c = begun_read g.F.Right.ReadRight.file Sequence (IsCrossRuns c.args.core.now) c.args.core.now
    c.begin_cross.new.self c.begin_cross.result c.begin_cross.ensures.begun
