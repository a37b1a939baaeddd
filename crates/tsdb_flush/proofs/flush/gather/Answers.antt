use Rattle.std.proofs.Common.{length, sym, ap, rules, arith}
use Rattle.std.specs.Arc.{arc_value}
use Rattle.tsdb_flush.specs.Parts.{HasPointsOfType}
use Rattle.tsdb_flush.proofs.PartsInMaking.{all_gathered, at_place, next_may_add, none_gathered, nothing_gathered, one_gathered, schema_at, typed_at, zip_lengths}
use Rattle.tsdb_flush.proofs.flush.gather.Goals as goal
use Rattle.tsdb_flush.proofs.flush.gather.Goals.{then-not-is_empty+in_ok-add, else-not-is_empty}

pub loop-place-init : goal.loop-place-init
loop-place-init c = none_gathered c.args.space (arc_value c.args.job.now.pair) c.args.job.now.schemas c.args.job.now.series c.new-part.result c.new-part.ensures

pub bounds-numbers-place : goal.bounds-numbers-place
bounds-numbers-place c =
    omega (
      arith,
      c.loop-place-test.true,
      ap length c.items-schema-items.ensures,
      ap length c.items-numbers.ensures,
      zip_lengths (HasPointsOfType (arc_value c.args.job.now.pair)) c.args.job.now.schemas c.args.job.now.series c.requires.typed,
    )

pub add-requires-clause-nodes : goal.add-requires-clause-nodes
add-requires-clause-nodes c =
    let job = c.args.job.now in
    let here = at_place c.args.space (arc_value job.pair) job.schemas job.series c.loop-place.place c.schema-item.result _ c.points_of-points.result.now c.requires.typed
    (rw (sym c.items-schema-items.ensures) (c.loop-place-test.true)) (rw (c.items-schema-items.ensures) at c.schema-item.is) (rw (c.deref.ensures, c.items-numbers.ensures) at c.points_of-points.ensures.points) in
    omega (arith, (schema_at c.args.space (arc_value job.pair) job.schemas job.series c.loop-place.place c.schema-item.result c.points_of-points.result.now c.requires.formed here).series)

pub add-requires-clause-suits : goal.add-requires-clause-suits
add-requires-clause-suits c =
    let job = c.args.job.now in
    let here = at_place c.args.space (arc_value job.pair) job.schemas job.series c.loop-place.place c.schema-item.result _ c.points_of-points.result.now c.requires.typed
    (rw (sym c.items-schema-items.ensures) (c.loop-place-test.true)) (rw (c.items-schema-items.ensures) at c.schema-item.is) (rw (c.deref.ensures, c.items-numbers.ensures) at c.points_of-points.ensures.points) in
    (schema_at c.args.space (arc_value job.pair) job.schemas job.series c.loop-place.place c.schema-item.result c.points_of-points.result.now c.requires.formed here).suits

pub add-requires-clause-typed : goal.add-requires-clause-typed
add-requires-clause-typed c =
    let job = c.args.job.now in
    let here = at_place c.args.space (arc_value job.pair) job.schemas job.series c.loop-place.place c.schema-item.result _ c.points_of-points.result.now c.requires.typed
    (rw (sym c.items-schema-items.ensures) (c.loop-place-test.true)) (rw (c.items-schema-items.ensures) at c.schema-item.is) (rw (c.deref.ensures, c.items-numbers.ensures) at c.points_of-points.ensures.points) in
    typed_at c.args.space (arc_value job.pair) job.schemas job.series c.loop-place.place c.schema-item.result c.points_of-points.result.now c.requires.typed here

pub add-requires-clause-follows : goal.add-requires-clause-follows
add-requires-clause-follows c =
    let job = c.args.job.now in
    let here = at_place c.args.space (arc_value job.pair) job.schemas job.series c.loop-place.place c.schema-item.result _ c.points_of-points.result.now c.requires.typed
    (rw (sym c.items-schema-items.ensures) (c.loop-place-test.true)) (rw (c.items-schema-items.ensures) at c.schema-item.is) (rw (c.deref.ensures, c.items-numbers.ensures) at c.points_of-points.ensures.points) in
    next_may_add c.args.space (arc_value job.pair) job.schemas job.series c.loop-place.place c.loop-place.part c.schema-item.result c.points_of-points.result.now here (search rules) c.requires.rising c.loop-place.invariant

pub loop-place-preserved : goal.loop-place-preserved
loop-place-preserved c =
    let job = c.args.job.now in
    let here = at_place c.args.space (arc_value job.pair) job.schemas job.series c.loop-place.place c.schema-item.result _ c.points_of-points.result.now c.requires.typed
    (rw (sym c.items-schema-items.ensures) (c.loop-place-test.true)) (rw (c.items-schema-items.ensures) at c.schema-item.is) (rw (c.deref.ensures, c.items-numbers.ensures) at c.points_of-points.ensures.points) in
    elim c.if-not-is_empty.branch [
      | then-not-is_empty+in_ok-add w ↦ rw (w.part-is) (one_gathered c.args.space (arc_value job.pair) job.schemas job.series c.loop-place.place c.loop-place.part _ c.schema-item.result c.points_of-points.result.now here (search rules) c.requires.rising w.in_ok-add.ensures.ok c.loop-place.invariant)
      | else-not-is_empty w ↦ rw (w.part-is) (nothing_gathered c.args.space (arc_value job.pair) job.schemas job.series c.loop-place.place c.loop-place.part c.schema-item.result c.points_of-points.result.now here (search rules) c.loop-place.invariant)
    ]

pub returns : goal.returns
returns c =
    let job = c.args.job.now in
    all_gathered c.args.space (arc_value job.pair) job.schemas job.series c.loop-place.place c.loop-place.part (omega (arith, c.loop-place-test.false, ap length c.items-schema-items.ensures)) c.loop-place.invariant
