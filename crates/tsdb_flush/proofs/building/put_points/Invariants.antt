use Rattle.tsdb_flush.proofs.Filling.{IsFilling}
use Rattle.tsdb_flush.proofs.building.put_points.Given as goal

abbrev pub invariant-loop-point : goal.invariant-loop-point
invariant-loop-point l = IsFilling l.initial.builder l.points l.point-index l.builder
