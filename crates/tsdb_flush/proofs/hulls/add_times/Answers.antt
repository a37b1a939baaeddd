use Rattle.std.proofs.Common.{◌-◌, length, get_or, rules}
use Rattle.std.specs.Int.{w64}
use Rattle.std.proofs.lemmas.Int.{to_z-of_z}
use Rattle.tsdb_flush.proofs.Widening.{from_places, times_of_span}
use Rattle.tsdb_flush.proofs.hulls.add_times.Goals as goal

pub returns : goal.returns
returns c = record {
  ok =
      let points = c.args.points.now in
      let first = get_or points 0 c.index-points-0.result in
      let last = get_or points (length points - 1) c.index-points-points.result in
      let spans = rw (to_z-of_z w64 first.time (search rules), to_z-of_z w64 last.time (search rules)) at c.add_span.ensures.ok in
      times_of_span c.add_span.result c.args.device points first.time last.time _ _ spans (from_places points c.index-points-0.result c.index-points-points.result c.requires.rising c.requires.some);
}
