use Rattle.std.proofs.Common.{◌≡◌}
use Rattle.tsdb_fileset.proofs.Taken.{IsSweeping}
use Rattle.tsdb_fileset.proofs.sweeping.remove_free.Given as goal

abbrev pub invariant-loop-file : goal.invariant-loop-file
invariant-loop-file g l =
    IsSweeping l.doubted l.initial.places.entries l.outgoing l.file-index l.removed l.places.entries
    × (g.F.Port.Port.store l.port ≡ g.F.Port.Port.store l.initial.port)
    × (g.F.Port.Counted.faults l.port ≡ g.F.Port.Counted.faults l.initial.port)
