use Rattle.std.proofs.Common.{◌≡◌}
use Rattle.tsdb_streams.specs.Streams.{IsStreamOfStore}
use Rattle.reading_tests.proofs.streams.pull_all.Given as goal

abbrev pub invariant-loop : goal.invariant-loop
invariant-loop g l = IsStreamOfStore g.P.Right.ReadRight.file (g.P.Port.store l.port) l.stream × (g.P.Port.store l.port ≡ g.P.Port.store l.fn.port)
