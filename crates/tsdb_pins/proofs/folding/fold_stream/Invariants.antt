use Rattle.std.proofs.Common.{◌≡◌, ◌≤◌, List, None, Some}
use Rattle.std.specs.Prelude.{filter}
use Rattle.tsdb_base.specs.declared.point.Point.{Point}
use Rattle.tsdb_streams.specs.Files.{FilePages}
use Rattle.tsdb_streams.specs.PartedMerge.{AreStatsInOrder, is_between}
use Rattle.tsdb_streams.specs.Streams.{IsStreamOfStore, IsToldStream, IsTrueStream, stream_due, stream_left}
use Rattle.tsdb_base.specs.Points.{IsRising}
use Rattle.tsdb_pins.proofs.Weaving.{Woven}
use Rattle.tsdb_pins.proofs.folding.fold_stream.Given as goal

abbrev pub invariant-loop : goal.invariant-loop
invariant-loop g l = IsStreamOfStore g.P.Right.ReadRight.file (g.P.Port.store l.port) l.stream
    × (l.stream.fault ≡ None)
    × ((pages : FilePages) → IsTrueStream g.P.Right.ReadRight.file pages l.initial.stream → IsTrueStream g.P.Right.ReadRight.file pages l.stream)
    × ((pages : FilePages) → IsToldStream g.P.Right.ReadRight.file pages l.initial.stream → IsToldStream g.P.Right.ReadRight.file pages l.stream)
    × ((pages : FilePages) → IsTrueStream g.P.Right.ReadRight.file pages l.initial.stream → (all : List Point) → AreStatsInOrder l.clean all → IsRising all
    → stream_left g.P.Right.ReadRight.file pages l.initial.stream ≡ Some (filter (is_between l.clean) all)
    → Woven l.name all l.clean l.next (stream_left g.P.Right.ReadRight.file pages l.stream) l.tally)
    × (g.P.Counted.faults l.initial.port ≤ g.P.Counted.faults l.port)
    × (g.P.Port.store l.port ≡ g.P.Port.store l.initial.port)
    × (stream_due l.stream ≡ stream_due l.initial.stream)
