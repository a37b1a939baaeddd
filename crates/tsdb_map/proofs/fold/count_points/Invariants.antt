use Rattle.std.proofs.Common.{◌≡◌, length}
use Rattle.tsdb_map.proofs.fold.count_points.Given as goal

abbrev pub invariant-loop : goal.invariant-loop
invariant-loop l = l.count ≡ length l.yielded
