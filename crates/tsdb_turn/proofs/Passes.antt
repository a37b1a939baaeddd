-- The passes of an opening: as many as seats, and all outside.
use Rattle.std.proofs.Common.{◌≡◌, ℕ, zero, suc, length, All, refl, ap, arith}
use Rattle.atomic_table.specs.Seated.{TableId}
use Rattle.tsdb_turn.specs.Passes.{IsOutside, new_passes}

module _ {V : Type 0} (id : TableId) (start : V) where
  pub length-new_passes : (n count : ℕ) → length (new_passes id start n count) ≡ count
  length-new_passes n zero = refl
  length-new_passes n (suc count) = ap suc (length-new_passes (suc n) count)

  pub new_passes-outside : (n count : ℕ) → All (IsOutside id) (new_passes id start n count)
  new_passes-outside n zero k d h = absurd (omega arith)
  new_passes-outside n (suc count) zero d h = record { own = refl; outside = refl }
  new_passes-outside n (suc count) (suc k) d h = new_passes-outside (suc n) count k d (omega arith)
