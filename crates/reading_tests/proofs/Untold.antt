-- Pages of which nothing is told, and one load of a page.
use Rattle.std.proofs.Common.{◌≡◌, ℕ, ◌+◌, ◌<◌, zero, suc, length, Result, Ok, Err, refl, sym, ap, subst, arith}
use Rattle.std.specs.Prelude.{IfOk, IfSome, replicate}
use Rattle.std.specs.declared.alloc.Global.{Global}
use Rattle.std.specs.declared.vec.Vec.{Vec}
use Rattle.tsdb_base.specs.declared.point.Point.{Point}
use Rattle.tsdb_merge.specs.Causes.{HasPullCause}
use Rattle.tsdb_merge.specs.declared.points.PullFault.{PullFault}
use Rattle.tsdb_aggregate.specs.Loads.{Held, LoaderState, Spends, held_at}
use Rattle.reading_tests.specs.Pages.{page}

pub held_untold : (n k : ℕ) → k < length (replicate n page) → held_at (replicate n page) k ≡ page
held_untold zero k l = absurd (omega (arith, l))
held_untold (suc n) zero l = refl
held_untold (suc n) (suc k) l = held_untold n k (omega (arith, l))

pub cost_one : (n k : ℕ) → k < length (replicate n page) → (held_at (replicate n page) k).cost ≡ 1
cost_one n k l = ap (λ (h : Held). h.cost) (held_untold n k l)

abbrev pub state_of : ℕ → ℕ → ℕ → ℕ → LoaderState
state_of n failures damages loads = record { held = replicate n page; failures = failures; damages = damages; loads = loads }

pub spends_page : {T : Type 0} (n k f g d e loads loads_now pages pages_now : ℕ) (result : Result T PullFault) → k < length (replicate n page) → loads_now ≡ loads + 1 → pages_now ≡ pages + 1 → HasPullCause f g d e result
    → Spends (held_at (replicate n page) k).cost (state_of n f d loads) (state_of n g e loads_now) pages pages_now result
spends_page n k f g d e loads loads_now pages pages_now result l more pages_more cause =
    let one = cost_one n k l in
    record {
      held = refl;
      most_loads = omega (arith, more, one);
      loads_later = omega (arith, more);
      count_is = omega (arith, more, pages_more);
      cause = cause;
    }

pub untold : {E : Type 0} (n k : ℕ) (result : Result (Vec Point Global) E) → k < length (replicate n page) → IfOk result (λ points. IfSome (held_at (replicate n page) k).points (λ told. points.items ≡ told))
untold n k (Ok points) l = subst (λ (h : Held). IfSome h.points (λ told. points.items ≡ told)) (sym (held_untold n k l)) tt
untold n k (Err e) l = tt
