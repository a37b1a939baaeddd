use Rattle.std.proofs.Common.{◌-◌, ◌<◌, length, arith}
use Rattle.std.specs.Prelude.{◌≤ℤ◌}
use Rattle.std.proofs.lemmas.Int.{ints}
use Rattle.tsfile_reader.proofs.PageTimes.{all_lie}
use Rattle.tsfile_reader.proofs.reader.lie_in.Goals as goal

pub returns-then-stats-points : goal.returns-then-stats-points
returns-then-stats-points c =
    let stats = c.args.stats.now in
    let points = c.args.points.now in
    let low : c.args.stats.now.start ≤ℤ c.index-points-0.result.time = grind (arith, ints, c.if-stats-points.true) in
    let some = c.requires.some in
    let inside : length c.args.points.now - 1 < length c.args.points.now = omega (arith, some) in (
      λ less. all_lie stats points c.index-points-0.result c.index-points-points.result c.requires.rising c.index-points-0.is c.index-points-points.is low (grind (arith, ints, less)),
      λ lie. (let high = (lie (length c.args.points.now - 1) c.index-points-points.result inside).1 in grind (arith, ints, high)),
    )
