use Rattle.std.specs.Vec.Iter.{into_iter_items}
use Rattle.tsdb_streams.proofs.OpenLoop.{IsOpening}
use Rattle.tsdb_streams.specs.Lanes.{IsLaneOfStore, IsSourceOfStore, OpensAs}
use Rattle.tsdb_streams.proofs.opening.open_sources.Given as goal

abbrev pub invariant-loop-source : goal.invariant-loop-source
invariant-loop-source g l = record {
  finite : (goal.iterator-loop-source g).can_next l.source-iterator × (goal.iterator-loop-source g).is_finite l.source-iterator;
  opening : IsOpening (OpensAs g.P.Right.ReadRight.file (l.fn.device, l.fn.measurement)) (IsSourceOfStore g.P.Right.ReadRight.file (g.P.Port.store l.fn.port)) (IsLaneOfStore g.P.Right.ReadRight.file (g.P.Port.store l.fn.port))
      (g.P.Port.store l.fn.port) (g.P.Port.store l.port) (g.P.Counted.faults l.fn.port) (g.P.Counted.faults l.port) l.fn.sources.items (into_iter_items l.source-iterator) l.lanes.items;
}
