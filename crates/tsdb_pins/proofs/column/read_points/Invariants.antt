use Rattle.std.proofs.Common.{◌≡◌, ◌≤◌, None}
use Rattle.tsdb_streams.specs.Files.{FilePages}
use Rattle.tsdb_streams.specs.Streams.{IsStreamOfStore, IsToldStream, IsTrueStream, stream_left}
use Rattle.tsdb_pins.proofs.Draining.{Drains}
use Rattle.tsdb_pins.proofs.column.read_points.Given as goal

abbrev pub invariant-loop : goal.invariant-loop
invariant-loop g l = IsStreamOfStore g.P.Right.ReadRight.file (g.P.Port.store l.port) l.stream
    × (l.stream.fault ≡ None)
    × ((pages : FilePages) → IsTrueStream g.P.Right.ReadRight.file pages l.initial.stream → IsTrueStream g.P.Right.ReadRight.file pages l.stream)
    × ((pages : FilePages) → IsToldStream g.P.Right.ReadRight.file pages l.initial.stream → IsToldStream g.P.Right.ReadRight.file pages l.stream)
    × ((pages : FilePages) → IsTrueStream g.P.Right.ReadRight.file pages l.initial.stream
    → Drains (stream_left g.P.Right.ReadRight.file pages l.initial.stream) (stream_left g.P.Right.ReadRight.file pages l.stream) l.points.items)
    × (g.P.Counted.faults l.initial.port ≤ g.P.Counted.faults l.port)
    × (g.P.Port.store l.port ≡ g.P.Port.store l.initial.port)
