use Rattle.std.proofs.Common.{arith}
use Rattle.std.proofs.lemmas.Int.{clamps, ints}
use Rattle.tsdb_script.proofs.Ranges.{not_before, not_behind, within}
use Rattle.tsdb_script.proofs.conditions.intersection.Goals as goal

pub returns-clause-times : goal.returns-clause-times
returns-clause-times c = λ time fits.
    let h = c.between.ensures.times time fits in
    let a = c.args.a in
    let b = c.args.b in (
      (λ e. let p = h.0 e in (
        within a.from a.to time (omega (arith, ints, clamps, c.max.ensures.value, p.0)) (omega (arith, ints, clamps, c.min.ensures.value, p.1)),
        within b.from b.to time (omega (arith, ints, clamps, c.max.ensures.value, p.0)) (omega (arith, ints, clamps, c.min.ensures.value, p.1)),
      )),
      (λ q. h.1 (
        omega (arith, ints, clamps, c.max.ensures.value, not_before a.from a.to time q.0, not_before b.from b.to time q.1),
        omega (arith, ints, clamps, c.min.ensures.value, not_behind a.from a.to time q.0, not_behind b.from b.to time q.1),
      )),
    )
