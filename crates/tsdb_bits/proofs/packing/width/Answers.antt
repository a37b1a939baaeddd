use Rattle.std.proofs.Common.{◌≡◌, ℕ, ◌+◌, ◌-◌, ◌*◌, ◌^◌, ◌<◌, ◌≤◌, arith, inl, inr, add-one, ◌∙◌}
use lib.Count.{count_leading_zeros}
use Rattle.std.proofs.Math.Nat.{pow-succ'}
use Rattle.std.proofs.lemmas.Nat.{leading_length}
use Rattle.std.proofs.lemmas.Bool.{cases_lt}
use Rattle.tsdb_bits.specs.Packing.{binary_digits}
use Rattle.tsdb_bits.proofs.PackingLaws.{digits_of_number, digits_least, pow_le}
use Rattle.tsdb_bits.proofs.packing.width.Goals as goal

-- both are the least power above n
same_digits : (n m : ℕ) → n < 2 ^ m → 2 ^ m ≤ 2 * n + 1 → m ≡ binary_digits n
same_digits n m below reached =
    let has = digits_of_number n in
    let le = digits_least n (binary_digits n) m has below in
    elim (cases_lt (binary_digits n) m) [
      | inl lt ↦
          let e : 2 ^ (binary_digits n + 1) ≡ 2 * 2 ^ binary_digits n = rw add-one (pow-succ' 2 (binary_digits n)) in
          absurd (omega (arith, pow_le (binary_digits n + 1) m (omega arith), e, has.below))
      | inr ge ↦ omega arith
    ]

pub returns : goal.returns
returns c =
    let value = c.args.value in
    let k = leading_length 64 value (omega arith) in
    let e : 64 - count_leading_zeros 64 value ≡ k.0 = omega (arith, k.1) in
    e ∙ same_digits value k.0 k.2 k.3
