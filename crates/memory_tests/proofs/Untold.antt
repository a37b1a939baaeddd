-- A supply of which nothing is told.
use Rattle.std.proofs.Common.{◌≡◌, ℕ, ◌≤◌, zero, suc, Bool, List, length, refl, sym, subst}
use Rattle.std.proofs.lemmas.List.{length-replicate}
use Rattle.std.specs.Prelude.{Option, None, replicate}
use Rattle.tsdb_base.specs.declared.point.Point.{Point}
use Rattle.tsdb_merge.specs.Supplies.{Moves, left_at}

none_at : (n k : ℕ) → left_at (replicate n None) k ≡ None
none_at zero k = refl
none_at (suc n) zero = refl
none_at (suc n) (suc k) = none_at n k

pub moves_untold : (n k : ℕ) (more : Bool) (points : List Point) → Moves (left_at (replicate n None) k) more points (left_at (replicate n None) k)
moves_untold n k more points = subst (λ before. Moves before more points (left_at (replicate n None) k)) (sym (none_at n k)) tt

-- what is left of so many sources of which nothing is told
abbrev pub untold : ℕ → List (Option (List Point))
untold n = replicate n None

pub within_untold : (n sources : ℕ) → sources ≤ n → sources ≤ length (untold n)
within_untold n sources within = subst (λ m. sources ≤ m) (sym (length-replicate n None)) within

pub within_count : (n sources : ℕ) → sources ≤ length (untold n) → sources ≤ n
within_count n sources within = subst (λ m. sources ≤ m) (length-replicate n None) within
