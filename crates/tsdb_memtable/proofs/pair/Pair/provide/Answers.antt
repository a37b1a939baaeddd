use Rattle.std.proofs.Common.{rules, ◌≡◌, ◌∙◌, ◌+◌, ◌≤◌, Option, refl, ap, sym, subst, arith}
use Rattle.std.specs.Map.{lookup}
use Rattle.std.specs.Option.{unwrap_or}
use Rattle.std.specs.Prelude.{IsSome}
use Rattle.tsdb_memtable.proofs.PairLemmas.{can-swap, kept-points, provided, provided-one, reserved, swapped, swapped-most}
use Rattle.tsdb_memtable.specs.Limits.{max_bytes}
use Rattle.tsdb_memtable.specs.Model.{most_bytes}
use Rattle.tsdb_memtable.specs.PairModel.{HasRoomFor, most_of}
use Rattle.tsdb_memtable.specs.Pairs.{IsProvided, Pair, SeriesPoints, blank, is_series, points_in, points_of, spare_of}
use Rattle.tsdb_memtable.proofs.pair.Pair.provide.Goals as goal

pub swap-self-inside-requires : goal.swap-self-inside-requires
swap-self-inside-requires c =
    let room : HasRoomFor c.self.inside.totals 1 = c.has_room.ensures (search rules) in
    can-swap c.self.inside.series.entries c.args.series.0 c.in-Some.points.now c.provide-outcome.new.self c.self.inside.totals c.totals-before.result c.totals.result (sym c.in-Some.ensures.value)
    c.self.invariant.totals c.totals-before.ensures c.totals.ensures (omega (arith, c.provide-outcome.ensures.most, room))

pub invariant_of-self : goal.invariant_of-self
invariant_of-self c =
    let room : HasRoomFor c.self.inside.totals 1 = c.has_room.ensures (search rules) in
    let most : most_of c.self.inside.totals + most_bytes c.provide-outcome.new.self ≤ max_bytes + most_bytes c.in-Some.points.now = omega (arith, c.provide-outcome.ensures.most, room) in
    record {
      totals = swapped c.self.inside.series.entries (c.get_mut.follows.lender c.provide-outcome.new.self).entries c.args.series.0 c.in-Some.points.now c.provide-outcome.new.self c.self.inside.totals _ _ c.swap-self-inside.result
          (sym c.in-Some.ensures.value) c.self.invariant.totals c.totals-before.ensures c.totals.ensures c.swap-self-inside.ensures (c.get_mut.follows.holds c.provide-outcome.new.self).0;
      most = swapped-most c.in-Some.points.now c.provide-outcome.new.self c.self.inside.totals _ _ c.swap-self-inside.result c.totals-before.ensures c.totals.ensures c.swap-self-inside.ensures most;
      rising = (c.get_mut.follows.holds c.provide-outcome.new.self).4;
    }

pub returns-in-Some-clause-points : goal.returns-in-Some-clause-points
returns-in-Some-clause-points c = λ space other.
    let Found : Option SeriesPoints → Type 0 = λ o. IsSome o in
    let updates = (c.get_mut.follows.holds c.provide-outcome.new.self).3 (subst Found c.in-Some.ensures.value refl) in
    let v = c.in-Some.points.now in
    let is_v : c.args.series.0 ≡ other → v ≡ unwrap_or (lookup (is_series other) c.self.inside.series.entries) blank = λ e.
    ap (λ o. unwrap_or o blank) (c.in-Some.ensures.value ∙ ap (λ n. lookup (is_series n) c.self.inside.series.entries) e) in
    kept-points space c.args.series.0 other _ _ _ c.provide-outcome.new.self refl (updates.0 other)
    (λ e. c.provide-outcome.ensures.points space ∙ ap (points_in space) (is_v e))
    ∙ ap (points_of space other) c.self.view_is

pub returns-in-Some-clause-spare : goal.returns-in-Some-clause-spare
returns-in-Some-clause-spare c = λ other.
    let Found : Option SeriesPoints → Type 0 = λ o. IsSome o in
    let updates = (c.get_mut.follows.holds c.provide-outcome.new.self).3 (subst Found c.in-Some.ensures.value refl) in
    let w = c.provide-outcome.new.self in
    let here : c.args.series.0 ≡ other → IsProvided (unwrap_or (lookup (is_series other) c.self.inside.series.entries) blank).spare w.spare = λ e.
    subst (λ (v : SeriesPoints). IsProvided v.spare w.spare)
    (ap (λ o. unwrap_or o blank) (c.in-Some.ensures.value ∙ ap (λ n. lookup (is_series n) c.self.inside.series.entries) e))
    c.provide-outcome.ensures.spare in
    subst (λ (pair : Pair). IsProvided (spare_of other pair) (spare_of other (c.get_mut.follows.lender w).entries)) c.self.view_is
    (provided c.args.series.0 other _ _ _ w refl (updates.0 other) here)

pub returns-in-None-clause-spare : goal.returns-in-None-clause-spare
returns-in-None-clause-spare c = λ other.
    let series = c.args.series.0 in
    let there = c.get_mut.follows.lender-at-none.entries in
    let kept = ap (λ m. m.entries) c.get_mut.follows.holds-at-none in
    let none : spare_of series there ≡ 0 = ap (spare_of series) kept
    ∙ ap (λ o. (unwrap_or o blank).spare) (sym c.in-None.ensures.value) in
    subst (λ (pair : Pair). IsProvided (spare_of other pair) (spare_of other c.reserve.new.self)) (kept ∙ c.self.view_is)
    (provided-one series other there c.reserve.new.self none
    (reserved c.reserve.result (spare_of series there) (spare_of series c.reserve.new.self) c.reserve.ensures.ok
    c.reserve.ensures.memory none)
    (c.reserve.ensures.others other))
