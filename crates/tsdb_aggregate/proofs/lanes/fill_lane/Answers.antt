use Rattle.std.proofs.lemmas.Grind.{common_steps}
use Rattle.std.proofs.Common.{rules, ◌≡◌, ◌∷◌, ◌<◌, [], Err, true, length, subst, arith}
use Rattle.std.specs.Prelude.{All, List, ◌≤◌}
use Rattle.std.specs.Vec.Iter.{into_iter_items}
use Rattle.std.proofs.lemmas.List.Elements.{All-tail}
use Rattle.std.proofs.lemmas.Result.{err_from_is_err_and}
use Rattle.tsdb_base.specs.declared.point.Point.{Point}
use Rattle.tsdb_merge.specs.Supplies.{IsFilled}
use Rattle.tsdb_aggregate.specs.Loads.{held_at}
use Rattle.tsdb_aggregate.specs.declared.lanes.Lane.{Lane}
use Rattle.tsdb_aggregate.proofs.LaneLemmas.{handed_on, loaded, spends_loaded}
use Rattle.tsdb_aggregate.proofs.SpendLemmas.{spends_at_most, spends_fault}
use Rattle.tsdb_aggregate.proofs.lanes.fill_lane.Goals as goal

pub returns-in_err-points-clause-places : goal.returns-in_err-points-clause-places
returns-in_err-points-clause-places g c =
    let held = (g.D.Loader.state c.args.loader.now).held in
    let first : into_iter_items c.loop-lane.lane.waiting ≡ c.in-Some.place ∷ into_iter_items c.next.new.self = search rules in
    All-tail (λ k. k < length held) c.in-Some.place _ (subst (λ ks. All (λ k. k < length held) ks) first c.loop-lane.invariant.places)

pub returns-in_err-points-clause-spends : goal.returns-in_err-points-clause-spends
returns-in_err-points-clause-spends g c =
    let first : into_iter_items c.loop-lane.lane.waiting ≡ c.in-Some.place ∷ into_iter_items c.next.new.self = search rules in
    let p = err_from_is_err_and c.from_residual-in_err-points.result c.from_residual-in_err-points.ensures.1 in
    rw (p.1, p.2) (spends_loaded _ _ _ _ _ _ _ _ c.in-Some.place _ (Err c.in_err-points.field-0.0) first c.loop-lane.invariant.spends (spends_fault _ _ _ _ _ _ _ (omega arith) c.in_err-points.ensures.spends))

pub loop-lane-preserved : goal.loop-lane-preserved
loop-lane-preserved g c =
    let first : into_iter_items c.loop-lane.lane.waiting ≡ c.in-Some.place ∷ into_iter_items c.next.new.self = search rules in
    let end : into_iter_items c.move_some.new.rest ≡ [] = search rules in
    let kept : into_iter_items c.loop-lane.lane.rest ≡ [] = search rules in
    let none : c.move_some.new.into.items ≡ [] = search rules in
    let all : into_iter_items c.into_iter.result ≡ c.in_ok-points.points.items = search rules in
    let cost = (held_at (g.D.Loader.state c.loop-lane.loader).held c.in-Some.place).cost in
    loaded _ _ _ _ _ _ _ c.loop-lane.lane _ _ _ c.in_ok-points.points.items c.in-Some.place c.loop-lane.invariant kept first all (omega arith) none c.in_ok-points.ensures.points
    (spends_at_most cost cost _ _ _ _ c.in_ok-points.points _ (omega arith) tt c.in_ok-points.ensures.spends)

pub returns-then-is_filled-clause-moved : goal.returns-then-is_filled-clause-moved
returns-then-is_filled-clause-moved g c =
    let first : into_iter_items c.loop-lane.lane.waiting ≡ c.in-Some.place ∷ into_iter_items c.next.new.self = search rules in
    let end : into_iter_items c.move_some.new.rest ≡ [] = search rules in
    let kept : into_iter_items c.loop-lane.lane.rest ≡ [] = search rules in
    let filled = c.is_filled.ensures c.if-is_filled.true in
    let few : length c.in_ok-points.points.items ≤ 1000 = subst (λ (l : List Point). length l ≤ 1000) c.deref.ensures.value filled.1 in
    let cost = (held_at (g.D.Loader.state c.loop-lane.loader).held c.in-Some.place).cost in
    let next : Lane = record { waiting = c.next.new.self; rest = c.move_some.new.rest } in
    (handed_on _ _ _ _ _ _ _ c.loop-lane.lane next _ c.in_ok-points.points.items c.in-Some.place c.loop-lane.invariant kept first end few c.in_ok-points.ensures.points
    (spends_at_most cost cost _ _ _ _ c.in_ok-points.points _ (omega arith) tt c.in_ok-points.ensures.spends)).moved

pub returns-then-is_filled-clause-most : goal.returns-then-is_filled-clause-most
returns-then-is_filled-clause-most g c =
    let first : into_iter_items c.loop-lane.lane.waiting ≡ c.in-Some.place ∷ into_iter_items c.next.new.self = search rules in
    let end : into_iter_items c.move_some.new.rest ≡ [] = search rules in
    let kept : into_iter_items c.loop-lane.lane.rest ≡ [] = search rules in
    let filled = c.is_filled.ensures c.if-is_filled.true in
    let few : length c.in_ok-points.points.items ≤ 1000 = subst (λ (l : List Point). length l ≤ 1000) c.deref.ensures.value filled.1 in
    let cost = (held_at (g.D.Loader.state c.loop-lane.loader).held c.in-Some.place).cost in
    let next : Lane = record { waiting = c.next.new.self; rest = c.move_some.new.rest } in
    (handed_on _ _ _ _ _ _ _ c.loop-lane.lane next _ c.in_ok-points.points.items c.in-Some.place c.loop-lane.invariant kept first end few c.in_ok-points.ensures.points
    (spends_at_most cost cost _ _ _ _ c.in_ok-points.points _ (omega arith) tt c.in_ok-points.ensures.spends)).most

pub returns-then-is_filled-clause-places : goal.returns-then-is_filled-clause-places
returns-then-is_filled-clause-places g c =
    let first : into_iter_items c.loop-lane.lane.waiting ≡ c.in-Some.place ∷ into_iter_items c.next.new.self = search rules in
    let end : into_iter_items c.move_some.new.rest ≡ [] = search rules in
    let kept : into_iter_items c.loop-lane.lane.rest ≡ [] = search rules in
    let filled = c.is_filled.ensures c.if-is_filled.true in
    let few : length c.in_ok-points.points.items ≤ 1000 = subst (λ (l : List Point). length l ≤ 1000) c.deref.ensures.value filled.1 in
    let cost = (held_at (g.D.Loader.state c.loop-lane.loader).held c.in-Some.place).cost in
    let next : Lane = record { waiting = c.next.new.self; rest = c.move_some.new.rest } in
    (handed_on _ _ _ _ _ _ _ c.loop-lane.lane next _ c.in_ok-points.points.items c.in-Some.place c.loop-lane.invariant kept first end few c.in_ok-points.ensures.points
    (spends_at_most cost cost _ _ _ _ c.in_ok-points.points _ (omega arith) tt c.in_ok-points.ensures.spends)).places

pub returns-then-is_filled-clause-spends : goal.returns-then-is_filled-clause-spends
returns-then-is_filled-clause-spends g c =
    let first : into_iter_items c.loop-lane.lane.waiting ≡ c.in-Some.place ∷ into_iter_items c.next.new.self = search rules in
    let end : into_iter_items c.move_some.new.rest ≡ [] = search rules in
    let kept : into_iter_items c.loop-lane.lane.rest ≡ [] = search rules in
    let filled = c.is_filled.ensures c.if-is_filled.true in
    let few : length c.in_ok-points.points.items ≤ 1000 = subst (λ (l : List Point). length l ≤ 1000) c.deref.ensures.value filled.1 in
    let cost = (held_at (g.D.Loader.state c.loop-lane.loader).held c.in-Some.place).cost in
    let next : Lane = record { waiting = c.next.new.self; rest = c.move_some.new.rest } in
    (handed_on _ _ _ _ _ _ _ c.loop-lane.lane next _ c.in_ok-points.points.items c.in-Some.place c.loop-lane.invariant kept first end few c.in_ok-points.ensures.points
    (spends_at_most cost cost _ _ _ _ c.in_ok-points.points _ (omega arith) tt c.in_ok-points.ensures.spends)).spends

pub returns-then-is_filled-clause-filled : goal.returns-then-is_filled-clause-filled
returns-then-is_filled-clause-filled g c = subst (IsFilled true) c.deref.ensures.value (c.is_filled.ensures c.if-is_filled.true)

pub returns-then-branch-clause-moved : goal.returns-then-branch-clause-moved
returns-then-branch-clause-moved g c = grind (arith, common_steps)

pub returns-then-branch-clause-most : goal.returns-then-branch-clause-most
returns-then-branch-clause-most g c = grind (arith, common_steps)

pub returns-in_default-clause-moved : goal.returns-in_default-clause-moved
returns-in_default-clause-moved g c = grind (arith, common_steps)
