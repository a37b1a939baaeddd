use Rattle.std.proofs.Common.{rules, ◌≡◌, ◌+◌, ◌≤◌, Option, None, refl, ap, sym, subst, ◌∙◌, arith}
use Rattle.std.specs.Map.{lookup, set_value}
use Rattle.std.specs.Option.{unwrap_or}
use Rattle.std.specs.Prelude.{IsSome}
use Rattle.std.proofs.lemmas.Map.Steps.{set_value_same}
use Rattle.tsdb_memtable.specs.Model.{most_bytes, totals_of, with_room}
use Rattle.tsdb_memtable.specs.Limits.{max_bytes}
use Rattle.tsdb_memtable.specs.Pairs.{Pair, SeriesPoints, blank, is_series, points_in, points_of, spare_of, table}
use Rattle.tsdb_memtable.specs.PairModel.{AreTotals, HasRoomFor, most_of}
use Rattle.tsdb_memtable.proofs.PairLemmas.{swapped, swapped-most, added, table-same, table-joined, other-spare, kept-points, more-room, blank-points}
use Rattle.tsdb_memtable.proofs.pair.Pair.reserve.Goals as goal
use Rattle.tsdb_memtable.proofs.pair.Pair.reserve.Goals.{In_err-reserve-in-Some}

-- where the room could not be made, nothing has changed

pub invariant_of-self : goal.invariant_of-self
invariant_of-self c =
    let test = is_series c.args.series.0 in
    let same = (c.get_mut.follows.holds c.reserve.new.self).0 ∙ ap (set_value test c.self.inside.series.entries) c.in_err-reserve-in-Some.ensures.memory
    ∙ set_value_same test c.self.inside.series.entries c.in-Some.points.now (sym c.in-Some.ensures.value) in
    record {
      totals = subst (λ (pair : Pair). AreTotals pair c.self.inside.totals) (sym same) c.self.invariant.totals;
      most = c.self.invariant.most;
      rising = (c.get_mut.follows.holds c.reserve.new.self).4;
    }

pub returns-in_err-reserve-in-Some-clause-tables : goal.returns-in_err-reserve-in-Some-clause-tables
returns-in_err-reserve-in-Some-clause-tables c =
    let test = is_series c.args.series.0 in
    let same = (c.get_mut.follows.holds c.reserve.new.self).0 ∙ ap (set_value test c.self.inside.series.entries) c.in_err-reserve-in-Some.ensures.memory
    ∙ set_value_same test c.self.inside.series.entries c.in-Some.points.now (sym c.in-Some.ensures.value) in
    λ space. ap (table space) (same ∙ c.self.view_is)

pub returns-in_err-reserve-in-Some-clause-points : goal.returns-in_err-reserve-in-Some-clause-points
returns-in_err-reserve-in-Some-clause-points c =
    let test = is_series c.args.series.0 in
    let same = (c.get_mut.follows.holds c.reserve.new.self).0 ∙ ap (set_value test c.self.inside.series.entries) c.in_err-reserve-in-Some.ensures.memory
    ∙ set_value_same test c.self.inside.series.entries c.in-Some.points.now (sym c.in-Some.ensures.value) in
    λ space other. ap (points_of space other) (same ∙ c.self.view_is)

pub returns-in_err-reserve-in-Some-clause-others : goal.returns-in_err-reserve-in-Some-clause-others
returns-in_err-reserve-in-Some-clause-others c =
    let test = is_series c.args.series.0 in
    let same = (c.get_mut.follows.holds c.reserve.new.self).0 ∙ ap (set_value test c.self.inside.series.entries) c.in_err-reserve-in-Some.ensures.memory
    ∙ set_value_same test c.self.inside.series.entries c.in-Some.points.now (sym c.in-Some.ensures.value) in
    λ other ne. ap (spare_of other) (same ∙ c.self.view_is)

-- a series that is there has more room

pub invariant_of-self-in-Some : goal.invariant_of-self-in-Some
invariant_of-self-in-Some c =
    let room : HasRoomFor c.self.inside.totals c.args.cells = c.has_room.ensures (search rules) in
    let most : most_of c.self.inside.totals + most_bytes c.reserve.new.self ≤ max_bytes + most_bytes c.in-Some.points.now = rw c.in_ok-reserve-in-Some.ensures.ok (omega (arith, room)) in
    record {
      totals = swapped c.self.inside.series.entries (c.get_mut.follows.lender c.reserve.new.self).entries c.args.series.0 c.in-Some.points.now c.reserve.new.self c.self.inside.totals _ _ c.swap-self-inside.result
          (sym c.in-Some.ensures.value) c.self.invariant.totals c.totals-before.ensures c.totals.ensures c.swap-self-inside.ensures (c.get_mut.follows.holds c.reserve.new.self).0;
      most = swapped-most c.in-Some.points.now c.reserve.new.self c.self.inside.totals _ _ c.swap-self-inside.result c.totals-before.ensures c.totals.ensures c.swap-self-inside.ensures most;
      rising = (c.get_mut.follows.holds c.reserve.new.self).4;
    }

pub returns-in_ok-reserve-in-Some-clause-tables : goal.returns-in_ok-reserve-in-Some-clause-tables
returns-in_ok-reserve-in-Some-clause-tables c = λ space.
    ap (table space) (c.get_mut.follows.holds c.reserve.new.self).0
    ∙ table-same space c.args.series.0 c.self.inside.series.entries c.in-Some.points.now c.reserve.new.self (sym c.in-Some.ensures.value) (ap (points_in space) c.in_ok-reserve-in-Some.ensures.ok ∙ more-room space c.args.cells c.in-Some.points.now)
    ∙ ap (table space) c.self.view_is

pub returns-in_ok-reserve-in-Some-clause-points : goal.returns-in_ok-reserve-in-Some-clause-points
returns-in_ok-reserve-in-Some-clause-points c = λ space other.
    let Found : Option SeriesPoints → Type 0 = λ o. IsSome o in
    let updates = (c.get_mut.follows.holds c.reserve.new.self).3 (subst Found c.in-Some.ensures.value refl) in
    let v = c.in-Some.points.now in
    let is_v : c.args.series.0 ≡ other → v ≡ unwrap_or (lookup (is_series other) c.self.inside.series.entries) blank = λ e.
    ap (λ o. unwrap_or o blank) (c.in-Some.ensures.value ∙ ap (λ n. lookup (is_series n) c.self.inside.series.entries) e) in
    kept-points space c.args.series.0 other _ _ _ c.reserve.new.self refl (updates.0 other)
    (λ e. ap (points_in space) c.in_ok-reserve-in-Some.ensures.ok ∙ more-room space c.args.cells v ∙ ap (points_in space) (is_v e))
    ∙ ap (points_of space other) c.self.view_is

pub returns-in_ok-reserve-in-Some-clause-others : goal.returns-in_ok-reserve-in-Some-clause-others
returns-in_ok-reserve-in-Some-clause-others c = λ other ne.
    let Found : Option SeriesPoints → Type 0 = λ o. IsSome o in
    let updates = (c.get_mut.follows.holds c.reserve.new.self).3 (subst Found c.in-Some.ensures.value refl) in
    other-spare c.args.series.0 other _ _ _ c.reserve.new.self refl (updates.0 other) ne ∙ ap (spare_of other) c.self.view_is

-- a series joins

pub invariant_of-self-in-None : goal.invariant_of-self-in-None
invariant_of-self-in-None c =
    let room : HasRoomFor c.self.inside.totals c.args.cells = c.has_room.ensures (search rules) in
    let w = c.reserve-in-None.new.self in
    let is : w ≡ with_room c.args.cells blank = c.in_ok-reserve-in-None.ensures.ok ∙ ap (with_room c.args.cells) c.new-points.ensures in
    let most : most_of c.self.inside.totals + most_bytes w ≤ max_bytes + most_bytes blank = rw is (omega (arith, room)) in
    let same = ap (λ m. m.entries) c.get_mut.follows.holds-at-none in
    let are : AreTotals c.get_mut.follows.lender-at-none.entries c.self.inside.totals = subst (λ (pair : Pair). AreTotals pair c.self.inside.totals) (sym same) c.self.invariant.totals in
    let Absent : Pair → Type 0 = λ pair. lookup (is_series c.args.series.0) pair ≡ None in
    let before = c.totals-before-in-None.ensures ∙ ap totals_of c.new-points.ensures in
    record {
      totals = added c.get_mut.follows.lender-at-none.entries c.insert.new.self.entries c.args.series.0 w c.self.inside.totals _ _ c.swap-self-inside-in-None.result
          c.insert.ensures.was_ordered (subst Absent (sym same) (sym c.in-None.ensures.value)) are before c.totals-after.ensures c.swap-self-inside-in-None.ensures c.in_ok-insert-in-None.ensures.entries;
      most = swapped-most blank w c.self.inside.totals _ _ c.swap-self-inside-in-None.result before c.totals-after.ensures c.swap-self-inside-in-None.ensures most;
      rising = c.insert.ensures.ordered;
    }

pub returns-in_ok-insert-in-None-clause-tables : goal.returns-in_ok-insert-in-None-clause-tables
returns-in_ok-insert-in-None-clause-tables c = λ space.
    let w = c.reserve-in-None.new.self in
    let is : w ≡ with_room c.args.cells blank = c.in_ok-reserve-in-None.ensures.ok ∙ ap (with_room c.args.cells) c.new-points.ensures in
    let same = ap (λ m. m.entries) c.get_mut.follows.holds-at-none in
    let Absent : Pair → Type 0 = λ pair. lookup (is_series c.args.series.0) pair ≡ None in
    ap (table space) c.in_ok-insert-in-None.ensures.entries
    ∙ table-joined space c.args.series.0 c.get_mut.follows.lender-at-none.entries w (subst Absent (sym same) (sym c.in-None.ensures.value)) (ap (points_in space) is ∙ more-room space c.args.cells blank ∙ blank-points space)
    ∙ ap (table space) (same ∙ c.self.view_is)

pub returns-in_ok-insert-in-None-clause-points : goal.returns-in_ok-insert-in-None-clause-points
returns-in_ok-insert-in-None-clause-points c = λ space other.
    let w = c.reserve-in-None.new.self in
    let is : w ≡ with_room c.args.cells blank = c.in_ok-reserve-in-None.ensures.ok ∙ ap (with_room c.args.cells) c.new-points.ensures in
    let same = ap (λ m. m.entries) c.get_mut.follows.holds-at-none in
    let none : c.args.series.0 ≡ other → blank ≡ unwrap_or (lookup (is_series other) c.get_mut.follows.lender-at-none.entries) blank = λ e.
    ap (λ o. unwrap_or o blank) (c.in-None.ensures.value ∙ ap (λ n. lookup (is_series n) c.self.inside.series.entries) e) ∙ ap (λ (pair : Pair). unwrap_or (lookup (is_series other) pair) blank) (sym same) in
    kept-points space c.args.series.0 other _ _ _ _ refl (c.in_ok-insert-in-None.ensures.updates.0 other)
    (λ e. ap (points_in space) is ∙ more-room space c.args.cells blank ∙ ap (points_in space) (none e))
    ∙ ap (λ m. points_of space other m.entries) c.get_mut.follows.holds-at-none ∙ ap (points_of space other) c.self.view_is

pub returns-in_ok-insert-in-None-clause-others : goal.returns-in_ok-insert-in-None-clause-others
returns-in_ok-insert-in-None-clause-others c = λ other ne.
    other-spare c.args.series.0 other _ _ _ _ refl (c.in_ok-insert-in-None.ensures.updates.0 other) ne ∙ ap (λ m. spare_of other m.entries) c.get_mut.follows.holds-at-none ∙ ap (spare_of other) c.self.view_is
