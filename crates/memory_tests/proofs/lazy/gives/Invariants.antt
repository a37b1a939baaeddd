use Rattle.std.proofs.Common.{◌≤◌}
use Rattle.memory_tests.proofs.lazy.gives.Given as goal

abbrev pub invariant-loop-pulled : goal.invariant-loop-pulled
invariant-loop-pulled l = l.merge.sources ≤ l.supply.count
