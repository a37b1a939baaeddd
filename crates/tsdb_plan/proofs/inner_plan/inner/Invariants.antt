use Rattle.std.proofs.Common.{ℕ, ◌+◌, ◌≤◌}
use Rattle.tsdb_plan.specs.InnerPlan.{IsRowAt}
use Rattle.tsdb_plan.proofs.inner_plan.inner.Given as goal

-- no row of two files begins before the place that is looked at
abbrev pub invariant-loop-first : goal.invariant-loop-first
invariant-loop-first l = (f e : ℕ) → IsRowAt l.files f e → f + 2 ≤ e → l.first ≤ f
