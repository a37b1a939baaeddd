use Rattle.std.proofs.Common.{◌≡◌}
use Rattle.tsdb_bench.proofs.files.repeat.Given as goal

abbrev pub invariant-loop : goal.invariant-loop
invariant-loop g l = g.P.Port.store l.port ≡ g.P.Port.store l.fn.port
