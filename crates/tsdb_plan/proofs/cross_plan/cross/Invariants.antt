use Rattle.std.proofs.Common.{◌≡◌, ◌+◌, take}
use Rattle.tsdb_plan.specs.CrossPlan.{IsFirstOf, IsPastOf}
use Rattle.tsdb_plan.specs.Files.{AreFree, total_bytes}
use Rattle.tsdb_base.specs.Limits.{max_plan_bytes}
use Rattle.tsdb_plan.specs.Steps.{IsBestUpTo}
use Rattle.tsdb_plan.proofs.cross_plan.cross.Given as goal

-- what the files so far have and meet, and the best plan that they make
abbrev pub invariant-loop-place : goal.invariant-loop-place
invariant-loop-place l = record {
  free : AreFree (take l.place l.unsequence);
  room : l.room + total_bytes (take l.place l.unsequence) ≡ max_plan_bytes;
  first : IsFirstOf (take l.place l.unsequence) l.sequence l.first;
  past : IsPastOf (take l.place l.unsequence) l.sequence l.past;
  plan : IsBestUpTo l.sequence l.unsequence l.place l.plan;
}
