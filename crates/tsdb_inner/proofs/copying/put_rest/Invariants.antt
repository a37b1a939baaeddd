use Rattle.std.proofs.Common.{◌≡◌, ◌≤◌, List, None}
use Rattle.tsdb_base.specs.declared.point.Point.{Point}
use Rattle.tsdb_streams.specs.Files.{FilePages}
use Rattle.tsdb_streams.specs.Streams.{IsStreamOfStore, IsToldStream, IsTrueStream, stream_left}
use Rattle.tsdb_inner.proofs.Putting.{Drains, IsPutting}
use Rattle.tsdb_inner.proofs.copying.put_rest.Given as goal

abbrev pub invariant-loop-count : goal.invariant-loop-count
invariant-loop-count g l = IsStreamOfStore g.P.Right.ReadRight.file (g.P.Port.store l.port) l.stream
    × (l.stream.fault ≡ None)
    × ((pages : FilePages) → IsTrueStream g.P.Right.ReadRight.file pages l.initial.stream
    → IsTrueStream g.P.Right.ReadRight.file pages l.stream)
    × ((pages : FilePages) → IsToldStream g.P.Right.ReadRight.file pages l.initial.stream
    → IsToldStream g.P.Right.ReadRight.file pages l.stream)
    × ((rest : List Point) × IsPutting l.schema l.fn.from l.to l.count l.initial.part l.part rest
    × ((pages : FilePages) → IsTrueStream g.P.Right.ReadRight.file pages l.initial.stream
    → Drains (stream_left g.P.Right.ReadRight.file pages l.initial.stream)
    (stream_left g.P.Right.ReadRight.file pages l.stream) rest))
    × (g.P.Counted.faults l.initial.port ≤ g.P.Counted.faults l.port)
    × (g.P.Port.store l.port ≡ g.P.Port.store l.initial.port)
