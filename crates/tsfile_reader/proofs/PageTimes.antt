-- The times of a page: they lie between the first and the last one of its statistics.
use Rattle.std.proofs.Common.{◌≡◌, ◌-◌, ◌<◌, List, [], ◌∷◌, length, get_or, refl, arith}
use Rattle.std.specs.Prelude.{◌≤ℤ◌, Contains, Some}
use Rattle.std.proofs.lemmas.Int.{ints}
use Rattle.tsdb_base.specs.declared.point.Point.{Point}
use Rattle.tsdb_base.specs.declared.point.Stats.{Stats}
use Rattle.tsdb_base.specs.declared.value.Value.TheVariants.{I64}
use Rattle.tsdb_base.specs.Points.{IsRising}
use Rattle.tsdb_pages.proofs.Order.{at_least_first, at_most_last}
use Rattle.tsdb_stats.specs.Statistics.{AreStatsOf}
use Rattle.tsfile_reader.specs.Page.{LieIn}
use Rattle.tsfile_reader.proofs.Later.{any_default, end_time}

-- where the first and the last point lie there, all do
pub all_lie : (stats : Stats) (points : List Point) (first last : Point) → IsRising points → first ≡ get_or points 0 first → last ≡ get_or points (length points - 1) last → stats.start ≤ℤ first.time → last.time ≤ℤ stats.end → LieIn stats points
all_lie stats points first last rising first_is last_is low high = λ k d inside.
    let among : Contains points (get_or points k d) = (k, inside, any_default points k (get_or points k d) d inside) in
    let a = at_least_first points first (get_or points k d) first_is rising among in
    let b = at_most_last points last (get_or points k d) last_is rising among in
    (omega (arith, ints, low, a), omega (arith, ints, high, b))

-- points lie where their statistics say
pub stats_lie : (points : List Point) (stats : Stats) → 0 < length points → IsRising points → AreStatsOf points stats → LieIn stats points
stats_lie [] stats some rising are = absurd (omega (arith, some))
stats_lie (p ∷ ps) stats some rising are =
    let starts : Some (I64 p.time) ≡ Some (I64 stats.start) = are.start in
    let start : p.time ≡ stats.start = cc in
    let end = end_time (p ∷ ps) stats p some are in
    let low : length (p ∷ ps) - 1 < length (p ∷ ps) = omega arith in
    all_lie stats (p ∷ ps) p (get_or (p ∷ ps) (length (p ∷ ps) - 1) p) rising refl (any_default (p ∷ ps) (length (p ∷ ps) - 1) p (get_or (p ∷ ps) (length (p ∷ ps) - 1) p) low) (omega (arith, ints, start)) (omega (arith, ints, end))
