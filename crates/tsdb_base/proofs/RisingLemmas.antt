-- Whether each point's time is below the next one's, and whether times rise.
use Rattle.std.proofs.Common.{◌≡◌, ℕ, zero, suc, ◌+◌, ◌-◌, ◌<◌, ◌≤◌, List, length, get_or, sym, subst, arith}
use Rattle.std.specs.Prelude.{◌<ℤ◌, ◌≤ℤ◌}
use Rattle.std.specs.List.{AllAdjacentBelow}
use Rattle.std.proofs.lemmas.Int.{ints}
use Rattle.std.proofs.lemmas.List.{get_or_read}
use Rattle.tsdb_base.specs.declared.point.Point.{Point}
use Rattle.tsdb_base.specs.Points.{IsRising}

-- each point is before the next, so it is before all that are behind it
abbrev IsBefore : Point → Point → Type 0
IsBefore a b = a.time <ℤ b.time

behind : (points : List Point) → AllAdjacentBelow IsBefore points (length points)
    → (gap i : ℕ) (d : Point) → i + gap + 1 < length points → (get_or points i d).time <ℤ (get_or points (i + gap + 1) d).time
behind points next zero i d l =
    let place : i + 1 ≡ i + 0 + 1 = omega arith in
    subst (λ k. (get_or points i d).time <ℤ (get_or points k d).time) place (next i d (omega arith))
behind points next (suc gap) i d l =
    let near : (get_or points i d).time <ℤ (get_or points (i + gap + 1) d).time = behind points next gap i d (omega arith) in
    let step : (get_or points (i + gap + 1) d).time <ℤ (get_or points (i + gap + 1 + 1) d).time = next (i + gap + 1) d (omega arith) in
    let far : (get_or points i d).time <ℤ (get_or points (i + gap + 1 + 1) d).time = omega (arith, ints) in
    let place : i + gap + 1 + 1 ≡ i + suc gap + 1 = omega arith in
    subst (λ k. (get_or points i d).time <ℤ (get_or points k d).time) place far

pub rising_from_adjacent : (points : List Point) → AllAdjacentBelow IsBefore points (length points) → IsRising points
rising_from_adjacent points next i j d l m =
    let place : i + (j - i - 1) + 1 ≡ j = omega arith in
    subst (λ k. (get_or points i d).time <ℤ (get_or points k d).time) place (behind points next (j - i - 1) i d (omega arith))

pub not_rising : (points : List Point) (n : ℕ) (x y : Point) → 1 ≤ n → n < length points → x ≡ get_or points n x → y ≡ get_or points (n - 1) y → x.time ≤ℤ y.time → IsRising points → ⊥
not_rising points n x y some l ex ey less rising =
    let step : (get_or points (n - 1) y).time <ℤ (get_or points n y).time = rising (n - 1) n y (omega arith) l in
    let first : y.time <ℤ (get_or points n y).time = subst (λ (p : Point). p.time <ℤ (get_or points n y).time) (sym ey) step in
    let both : y.time <ℤ x.time = subst (λ (p : Point). y.time <ℤ p.time) (sym (get_or_read points n x l ex y)) first in
    omega (arith, ints)
