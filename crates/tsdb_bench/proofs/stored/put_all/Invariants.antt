use Rattle.std.proofs.Common.{◌≡◌}
use Rattle.tsdb_bench.proofs.stored.put_all.Given as goal

abbrev pub invariant-loop-number : goal.invariant-loop-number
invariant-loop-number g l =
    (g.F.Files.store l.files ≡ g.F.Files.store l.fn.files)
    × (g.F.Port.Port.store l.port ≡ g.F.Port.Port.store l.fn.port)
