use Rattle.std.proofs.Common.{rules}
use Rattle.std.specs.Int.{w64}
use Rattle.std.proofs.lemmas.Int.{to_z-of_z}
use Rattle.tsdb_flush.proofs.Widening.{widened}
use Rattle.tsdb_flush.proofs.hulls.widen.Goals as goal

pub returns : goal.returns
returns c =
    let hull = c.args.hull.now in
    let from = c.args.from in
    let to = c.args.to in
    rw (to_z-of_z w64 c.min-hull.result (search rules), to_z-of_z w64 c.max-hull.result (search rules))
    (widened hull from to c.min-hull.result c.max-hull.result
    (rw (to_z-of_z w64 hull.from (search rules), to_z-of_z w64 from (search rules)) at c.min-hull.ensures.value)
    (rw (to_z-of_z w64 hull.to (search rules), to_z-of_z w64 to (search rules)) at c.max-hull.ensures.value))
