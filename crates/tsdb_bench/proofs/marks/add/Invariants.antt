use Rattle.std.proofs.Common.{◌≤◌}
use Rattle.std.specs.List.{All}
use Rattle.tsdb_bench.proofs.marks.add.Given as goal

abbrev pub invariant-loop-done : goal.invariant-loop-done
invariant-loop-done l = All (λ mark. mark.version.0 ≤ l.done) l.marks.marks
