use Rattle.std.specs.Vec.Iter.{into_iter_items}
use Rattle.tsfile_writer.proofs.Driving.{IsFilling}
use Rattle.tsdb_base.specs.declared.value.DataType.TheVariants.{Int64}
use Rattle.use_tsfile.proofs.writing.fill.Given as goal

abbrev pub invariant-loop-point : goal.invariant-loop-point
invariant-loop-point l = record {
  finite : (goal.iterator-loop-point).can_next l.point-iterator × (goal.iterator-loop-point).is_finite l.point-iterator;
  filling : IsFilling l.path Int64 l.builder l.fn.points.items (into_iter_items l.point-iterator);
}
