use Rattle.std.proofs.Common.{◌≡◌, ◌+◌, ◌≤◌, take}
use Rattle.tsdb_plan.specs.Files.{AreFree, total_bytes}
use Rattle.tsdb_base.specs.Limits.{max_inputs, max_plan_bytes}
use Rattle.tsdb_plan.proofs.inner_plan.longest_row.Given as goal

-- the files so far are a row, and the room that is left is what they leave
abbrev pub invariant-loop-count : goal.invariant-loop-count
invariant-loop-count l = record {
  free : AreFree (take l.count l.files);
  few : l.count ≤ max_inputs;
  room : l.room + total_bytes (take l.count l.files) ≡ max_plan_bytes;
}
