use Rattle.std.proofs.Common.{Global, Vec, arith}
use Rattle.tsdb_base.specs.declared.point.Point.{Point}
use Rattle.tsdb_streams.proofs.PageFacts.{told_points, undamaged}
use Rattle.tsdb_streams.proofs.Reasons.{reason_ok, reason_of}
use Rattle.tsdb_streams.proofs.file.load_page.Goals as goal

pub returns-in-Ok-clause-points : goal.returns-in-Ok-clause-points
returns-in-Ok-clause-points g c = λ pages truth.
    told_points _ c.args.lane.now.entry (g.P.Right.ReadRight.file c.args.lane.now.right.now) c.args.page c.in-Ok.points.items c.requires.page truth c.in-Ok.ensures.found

pub returns-in-Ok-clause-few : goal.returns-in-Ok-clause-few
returns-in-Ok-clause-few g c = c.in-Ok.ensures.points.0.few

pub returns-in-Ok-clause-reason : goal.returns-in-Ok-clause-reason
returns-in-Ok-clause-reason g c = λ pages truth. reason_ok _ _ _ _ c.in-Ok.ensures.cause.later

pub returns-in-Ok-clause-later : goal.returns-in-Ok-clause-later
returns-in-Ok-clause-later g c = c.in-Ok.ensures.cause.later

pub returns-in-Err-clause-reason : goal.returns-in-Err-clause-reason
returns-in-Err-clause-reason g c = λ pages truth.
    reason_of _ _ _ _ _ c.in-Err.fault c.fault_of.result c.in-Err.ensures.cause c.fault_of.ensures.later c.fault_of.ensures.counted
    (undamaged (Vec Point Global) pages c.args.lane.now.entry (g.P.Right.ReadRight.file c.args.lane.now.right.now) c.args.page c.in-Err.fault c.requires.page truth c.in-Err.ensures.bad)

pub returns-in-Err-clause-later : goal.returns-in-Err-clause-later
returns-in-Err-clause-later g c = omega (arith, c.in-Err.ensures.cause.later, c.fault_of.ensures.later)
