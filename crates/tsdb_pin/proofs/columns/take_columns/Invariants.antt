use Rattle.std.specs.Vec.Iter.{into_iter_items}
use Rattle.tsdb_pin.proofs.Gathered.{AreGathered}
use Rattle.tsdb_pin.proofs.columns.take_columns.Given as goal

abbrev pub invariant-loop-asked : goal.invariant-loop-asked
invariant-loop-asked g l = record {
  finite : (goal.iterator-loop-asked g).can_next l.asked-iterator × (goal.iterator-loop-asked g).is_finite l.asked-iterator;
  gathered : AreGathered g.F.Right.ReadRight.file l.memory l.range l.fn.all.items (into_iter_items l.asked-iterator)
      l.initial.files l.files l.initial.columns.items l.columns.items;
}
