use Rattle.tsdb_rewriting.proofs.Begun.{begun_read, lent_or_not}
use Rattle.tsdb_serving.specs.Beginnings.{IsInnerRuns}
use Rattle.tsdb_rewriting.proofs.turns.work_inner.Goals as goal

pub returns-clause-lent : goal.returns-clause-lent
returns-clause-lent g c = lent_or_not g.F.Right.ReadRight.file g.J.Disk.lawful c.args.space
    (IsInnerRuns c.args.space c.args.core.now) c.args.core.now c.begin_inner.new.self c.begin_inner.result
    c.begin_inner.ensures.begun

pub returns-clause-files : goal.returns-clause-files
returns-clause-files g c = begun_read g.F.Right.ReadRight.file c.args.space (IsInnerRuns c.args.space c.args.core.now)
    c.args.core.now c.begin_inner.new.self c.begin_inner.result c.begin_inner.ensures.begun
