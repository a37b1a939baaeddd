-- What calls one behind the other spend.
use Rattle.std.proofs.Common.{◌≡◌, ℕ, ◌+◌, ◌≤◌, Result, Ok, Err, refl, ◌∙◌, arith}
use Rattle.std.specs.Prelude.{⊤, IfErr}
use Rattle.tsdb_merge.specs.declared.points.PullFault.{PullFault}
use Rattle.tsdb_merge.specs.declared.points.PullFault.TheVariants.{Failed, Damaged, Memory}
use Rattle.tsdb_base.specs.Causes.{Rose}
use Rattle.tsdb_merge.specs.Causes.{HasRisen, HasPullCause}
use Rattle.tsdb_aggregate.specs.Lanes.{SpendsDown}
use Rattle.tsdb_aggregate.specs.Loads.{LoaderState, Spends}

rose_earlier : (a b c : ℕ) → a ≤ b → Rose b c → Rose a c
rose_earlier a b c l r = omega (arith, l, r)

risen_earlier : (fault : PullFault) (f g h d e k : ℕ) → f ≤ g → d ≤ e → HasRisen fault g h e k → HasRisen fault f h d k
risen_earlier Failed f g h d e k l m r = rose_earlier f g h l r
risen_earlier (Damaged at) f g h d e k l m r = rose_earlier d e k m r
risen_earlier Memory f g h d e k l m r = tt

cause_earlier : {T : Type 0} (f g h d e k : ℕ) (result : Result T PullFault) → f ≤ g → d ≤ e → HasPullCause g h e k result → HasPullCause f h d k result
cause_earlier f g h d e k (Ok x) l m c = record { failures_later = omega (arith, l, c.failures_later); damages_later = omega (arith, m, c.damages_later); fault = tt }
cause_earlier f g h d e k (Err fault) l m c = record { failures_later = omega (arith, l, c.failures_later); damages_later = omega (arith, m, c.damages_later); fault = risen_earlier fault f g h d e k l m c.fault }

-- one call and then another
pub spends_then : {S T : Type 0} (m n most : ℕ) (a b c : LoaderState) (p q r : ℕ) (x : S) (result : Result T PullFault) → m + n ≤ most
    → Spends m a b p q (Ok x) → Spends n b c q r result → Spends most a c p r result
spends_then m n most a b c p q r x result within first second = record {
  held = second.held ∙ first.held;
  most_loads = omega (arith, within, first.most_loads, second.most_loads);
  loads_later = omega (arith, first.loads_later, second.loads_later);
  count_is = omega (arith, first.count_is, second.count_is);
  cause = cause_earlier a.failures b.failures c.failures a.damages b.damages c.damages result first.cause.failures_later first.cause.damages_later second.cause;
}

-- nothing was loaded
pub spends_nothing : {T : Type 0} (most : ℕ) (a : LoaderState) (p : ℕ) (result : Result T PullFault) → IfErr result (λ fault. fault ≡ Memory) → Spends most a a p p result
spends_nothing most a p (Ok x) e = record { held = refl; most_loads = omega arith; loads_later = omega arith; count_is = omega arith; cause = record { failures_later = omega arith; damages_later = omega arith; fault = tt } }
spends_nothing most a p (Err fault) e = record { held = refl; most_loads = omega arith; loads_later = omega arith; count_is = omega arith; cause = record { failures_later = omega arith; damages_later = omega arith; fault = rw e tt } }

-- nothing was loaded, and as much waits
pub down_none : (waiting : ℕ) (a : LoaderState) (p : ℕ) → SpendsDown {T = ⊤} waiting waiting a a p p (Ok tt)
down_none waiting a p = record { cost = 0; fewer = omega arith; spends = spends_nothing 0 a p (Ok tt) tt }

-- one call and then another, each of which waits for less
pub down_then : {T : Type 0} (m n k : ℕ) (a b c : LoaderState) (p q r : ℕ) (result : Result T PullFault) → SpendsDown {T = ⊤} m n a b p q (Ok tt) → SpendsDown n k b c q r result → SpendsDown m k a c p r result
down_then m n k a b c p q r result one two =
    let first = one.fewer in
    let second = two.fewer in
    record {
      cost = one.cost + two.cost;
      fewer = omega (arith, first, second);
      spends = spends_then one.cost two.cost (one.cost + two.cost) a b c p q r tt result (omega arith) one.spends two.spends;
    }

-- the same name, and the same again
pub named_then : {A : Type 0} (a b c : A) → b ≡ a → c ≡ b → c ≡ a
named_then a b c one two = two ∙ one
