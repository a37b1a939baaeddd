use Rattle.std.proofs.Common.{arith, ◌∙◌}
use Rattle.std.specs.Map.Iter.{deref_pair}
use Rattle.std.proofs.lemmas.Map.Iter.{iter_end, iter_turn}
use Rattle.tsdb_map.proofs.fold.count_points.Goals as goal

pub returns : goal.returns
returns c =
    c.loop.invariant
    ∙ (iter_end deref_pair c.args.points c.loop.yielded c.into_iter-iterator.result c.loop.iterator' c.next.new.self c.next.result
    c.into_iter-iterator.ensures.into_iter_gives c.loop.yielded_by c.in-None.is c.next.ensures.steps).1

pub overflow_add-count : goal.overflow_add-count
overflow_add-count c =
    let turn =
    (iter_turn deref_pair c.args.points c.loop.yielded c.into_iter-iterator.result c.loop.iterator' c.next.new.self c.next.result
    c.into_iter-iterator.ensures.into_iter_gives c.loop.yielded_by c.in-Some.field-0 c.in-Some.is c.next.ensures.steps).0 in
    omega (arith, c.loop.invariant, turn, c.requires)
