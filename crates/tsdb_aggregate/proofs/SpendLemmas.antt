-- What a call spends whose answer is another, or that may spend more.
use Rattle.std.proofs.Common.{◌≡◌, ℕ, ◌≤◌, Result, Ok, Err, subst, arith}
use Rattle.std.specs.Prelude.{IfErr}
use Rattle.tsdb_merge.specs.declared.points.PullFault.{PullFault}
use Rattle.tsdb_merge.specs.declared.points.PullFault.TheVariants.{Memory}
use Rattle.tsdb_aggregate.specs.Loads.{LoaderState, Spends}
use Rattle.tsdb_aggregate.specs.SpendLaws.{spends_nothing, spends_then}

-- more may be spent, and another answer comes that needs no cause
pub spends_at_most : {S T : Type 0} (m most : ℕ) (a b : LoaderState) (p q : ℕ) (x : S) (result : Result T PullFault) → m ≤ most → IfErr result (λ fault. fault ≡ Memory) → Spends m a b p q (Ok x) → Spends most a b p q result
spends_at_most m most a b p q x result within e first = spends_then m 0 most a b b p q q x result (omega (arith, within)) first (spends_nothing 0 b q result e)

-- the same fault of a call that answers something else, and more may be spent
pub spends_fault : {S T : Type 0} (m most : ℕ) (a b : LoaderState) (p q : ℕ) (fault : PullFault) → m ≤ most → Spends {T = S} m a b p q (Err fault) → Spends {T = T} most a b p q (Err fault)
spends_fault m most a b p q fault within h = record {
  held = h.held;
  most_loads = omega (arith, within, h.most_loads);
  loads_later = h.loads_later;
  count_is = h.count_is;
  cause = record { failures_later = h.cause.failures_later; damages_later = h.cause.damages_later; fault = h.cause.fault };
}

-- the same amount
pub spends_same : {T : Type 0} (m n : ℕ) (a b : LoaderState) (p q : ℕ) (result : Result T PullFault) → m ≡ n → Spends m a b p q result → Spends n a b p q result
spends_same m n a b p q result e h = subst (λ k. Spends k a b p q result) e h
