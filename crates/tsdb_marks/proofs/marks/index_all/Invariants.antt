use Rattle.std.proofs.Common.{ℕ, ◌-◌, ◌≤◌, length, take}
use Rattle.tsdb_marks.specs.Model.{IsIndexOf}
use Rattle.tsdb_marks.proofs.marks.index_all.Given as goal

abbrev pub invariant-loop-indexed : goal.invariant-loop-indexed
invariant-loop-indexed l = record {
  bound : l.indexed ≤ length l.marks;
  exact : (floor : ℕ) → IsIndexOf (take l.fn.indexed l.marks) floor l.fn.index.series.entries
      → IsIndexOf (take l.indexed l.marks) floor l.index.series.entries;
}

abbrev pub decreases-loop-indexed : goal.decreases-loop-indexed
decreases-loop-indexed l = length l.marks - l.indexed
