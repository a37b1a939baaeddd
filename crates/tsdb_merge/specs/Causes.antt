-- When a pull may answer a fault: only where the count of that fault rose in the call.
use Rattle.std.specs.Prelude.{ℕ, ◌⊎◌, ◌+◌, ◌-◌, ◌^◌, ◌≤◌, min, List, [], ◌∷◌, Result, IfErr}
use Rattle.std.specs.List.{AllZip}
use Rattle.tsdb_base.specs.Causes.{Rose}
use Rattle.tsdb_merge.specs.declared.points.PullFault.{PullFault}
use Rattle.tsdb_merge.specs.declared.points.PullFault.TheVariants.{Failed, Damaged, Memory}

-- the count of that fault has risen; out of memory needs no cause
abbrev pub HasRisen : PullFault → ℕ → ℕ → ℕ → ℕ → Type 0
HasRisen Failed failures failures_now damages damages_now = Rose failures failures_now
HasRisen (Damaged at) failures failures_now damages damages_now = Rose damages damages_now
HasRisen Memory failures failures_now damages damages_now = Unit {0}

-- neither count falls, and the fault that is answered has its cause
pub record HasPullCause {T : Type 0} (failures failures_now damages damages_now : ℕ)
    (result : Result T PullFault) : Type 0 where
  pub failures_later : failures ≤ failures_now
  pub damages_later : damages ≤ damages_now
  pub fault : IfErr result (λ fault. HasRisen fault failures failures_now damages damages_now)

-- some count of the list has risen
abbrev pub SomeRose : List ℕ → List ℕ → Type 0
SomeRose [] now = ⊥
SomeRose (n ∷ ns) [] = ⊥
SomeRose (n ∷ ns) (m ∷ ms) = Rose n m ⊎ SomeRose ns ms

-- no count of the list has fallen
abbrev pub NoneFell : List ℕ → List ℕ → Type 0
NoneFell before now = AllZip (λ n m. n ≤ m) before now

-- some source's count of that fault has risen
abbrev pub SomeHasRisen : PullFault → List ℕ → List ℕ → List ℕ → List ℕ → Type 0
SomeHasRisen Failed failures failures_now damages damages_now = SomeRose failures failures_now
SomeHasRisen (Damaged at) failures failures_now damages damages_now = SomeRose damages damages_now
SomeHasRisen Memory failures failures_now damages damages_now = Unit {0}

-- no count has fallen, and the fault that is answered has its cause in one of the counts
pub record HasSomeCause {T : Type 0} (failures failures_now damages damages_now : List ℕ)
    (result : Result T PullFault) : Type 0 where
  pub failures_later : NoneFell failures failures_now
  pub damages_later : NoneFell damages damages_now
  pub fault : IfErr result (λ fault. SomeHasRisen fault failures failures_now damages damages_now)
