use Rattle.std.proofs.Common.{◌≡◌}
use Rattle.tsdb_bench.proofs.files.read_all.Given as goal

abbrev pub invariant-loop-file : goal.invariant-loop-file
invariant-loop-file g l = g.P.Port.store l.port ≡ g.P.Port.store l.fn.port
