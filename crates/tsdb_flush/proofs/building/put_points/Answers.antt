use Rattle.std.proofs.Common.{◌≡◌, get_or, rules}
use Rattle.tsdb_flush.proofs.Filling.{filled, filling_begins, filling_more, next_may_be_put}
use Rattle.tsdb_flush.proofs.building.put_points.Goals as goal

pub put_point-requires : goal.put_point-requires
put_point-requires c =
    let at : get_or c.args.points.now c.loop-point.point-index c.in_ok-point.point ≡ c.in_ok-point.point = search rules in
    next_may_be_put c.args.builder.now c.loop-point.builder c.args.points.now c.loop-point.point-index c.in_ok-point.point (search rules) at c.requires.rising c.requires.begun c.loop-point.invariant

pub loop-point-init : goal.loop-point-init
loop-point-init c = filling_begins c.args.builder.now c.args.points.now

pub loop-point-preserved : goal.loop-point-preserved
loop-point-preserved c =
    let at : get_or c.args.points.now c.loop-point.point-index c.in_ok-point.point ≡ c.in_ok-point.point = search rules in
    filling_more c.args.builder.now c.loop-point.builder c.put_point.new.builder c.args.points.now c.loop-point.point-index c.in_ok-point.point (search rules) at (search rules) c.in_ok-put_point.ensures c.loop-point.invariant

pub returns-clause-ok : goal.returns-clause-ok
returns-clause-ok c = (filled c.args.builder.now c.loop-point.builder c.args.points.now c.loop-point.point-index (search rules) c.loop-point.invariant).0

pub returns-clause-in_range : goal.returns-clause-in_range
returns-clause-in_range c = (filled c.args.builder.now c.loop-point.builder c.args.points.now c.loop-point.point-index (search rules) c.loop-point.invariant).1
