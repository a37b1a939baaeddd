-- The laws of zigzag.
use Rattle.std.proofs.Common.{◌≡◌, ℕ, ℤ, pos, negsuc, ◌+◌, ◌*◌, ◌%◌, sym, ap, ◌∙◌, inl, inr, arith}
use Rattle.std.proofs.lemmas.Bool.{cases_eq, eq-eqb, ne_eqb}
use Rattle.tsdb_bits.specs.Zigzag.{zigzag, unzigzag}

pub unzigzag-zigzag : (z : ℤ) → unzigzag (zigzag z) ≡ z
unzigzag-zigzag (pos n) = rw (eq-eqb (2 * n % 2) 0 (omega arith)) (ap pos (omega arith))
unzigzag-zigzag (negsuc n) = rw (ne_eqb ((2 * n + 1) % 2) 0 (λ e. omega arith)) (ap negsuc (omega arith))

pub zigzag-unzigzag : (n : ℕ) → zigzag (unzigzag n) ≡ n
zigzag-unzigzag n =
    elim (cases_eq (n % 2) 0) [
      | inl e ↦ rw (eq-eqb (n % 2) 0 e) (omega arith)
      | inr e ↦ rw (ne_eqb (n % 2) 0 e) (omega arith)
    ]

pub same_from_zigzag : (x y : ℤ) → zigzag x ≡ zigzag y → x ≡ y
same_from_zigzag x y e = sym (unzigzag-zigzag x) ∙ ap unzigzag e ∙ unzigzag-zigzag y
