-- Where each bit of a packing stands.
use Rattle.std.proofs.Common.{◌≡◌, ℕ, zero, suc, ◌+◌, ◌-◌, ◌*◌, ◌/◌, ◌%◌, ◌^◌, ◌<◌, List, [], ◌∷◌, length, get_or, sym, ap, ◌∙◌, inl, inr, arith, All}
use Rattle.std.specs.Int.{bit_at}
use Rattle.std.proofs.Math.Nat.{zero-mul, suc-mul, add-div_right, add-mod_right, div-eq_of_lt, mod-eq_of_lt, sub-add_cancel}
use Rattle.std.proofs.lemmas.Nat.Bits.{bit_at_cat_low, bit_at_cat_high}
use Rattle.std.proofs.lemmas.Bool.{cases_lt}
use Rattle.std.proofs.lemmas.List.Elements.{All-head, All-tail, All-nil, All-cons}
use Rattle.tsdb_bits.specs.Packing.{from_digits, number_of_bytes, low_bytes, bytes_for, pack_bytes}
use Rattle.tsdb_bits.proofs.PackingLaws.{from_digits-cons, length-pack_bytes, number-pack_bytes}

-- bit b of item i is bit `i * width + b` of the stream
pub bit_of_joined : (w : ℕ) (vs : List ℕ) (k : ℕ) → All (λ v. v < 2 ^ w) vs → k < length vs * w → bit_at (from_digits w vs) k ≡ bit_at (get_or vs (k / w) 0) (k % w)
bit_of_joined w [] k h lt = absurd (omega (arith, zero-mul w))
bit_of_joined w (v ∷ vs) k h lt =
    let below : v < 2 ^ w = All-head (λ (x : ℕ). x < 2 ^ w) v vs h in
    let e : from_digits w (v ∷ vs) ≡ from_digits w vs * 2 ^ w + v = from_digits-cons w v vs ∙ turned v (2 ^ w) (from_digits w vs) in
    elim (cases_lt k w) [
      | inl low ↦
          let q : k / w ≡ 0 = div-eq_of_lt low in
          let r : k % w ≡ k = mod-eq_of_lt low in
          rw (e, q, r) (bit_at_cat_low (from_digits w vs) w v k low)
      | inr high ↦
          let some : 0 < w = positive (length vs) w k lt in
          let back : k - w + w ≡ k = sub-add_cancel high in
          let q : k / w ≡ suc ((k - w) / w) = ap (λ (t : ℕ). t / w) (sym back) ∙ add-div_right (k - w) some ∙ one_more ((k - w) / w) in
          let r : k % w ≡ (k - w) % w = ap (λ (t : ℕ). t % w) (sym back) ∙ add-mod_right (k - w) w in
          let rest : k - w < length vs * w = omega (arith, suc-mul (length vs) w) in
          ap (λ (t : ℕ). bit_at t k) e ∙ bit_at_cat_high (from_digits w vs) w v k below high
          ∙ bit_of_joined w vs (k - w) (All-tail (λ (x : ℕ). x < 2 ^ w) v vs h) rest
          ∙ ap (λ (t : ℕ). bit_at (get_or vs ((k - w) / w) 0) t) (sym r)
          ∙ ap (λ (t : ℕ). bit_at (get_or (v ∷ vs) t 0) (k % w)) (sym q)
    ]
  where
    turned : (v s j : ℕ) → v + s * j ≡ j * s + v
    turned v s j = omega arith

    one_more : (n : ℕ) → n + 1 ≡ suc n
    one_more n = omega arith

    positive : (n w k : ℕ) → k < suc n * w → 0 < w
    positive n zero k lt = absurd (omega arith)
    positive n (suc w) k lt = omega arith

low_bytes-lt : (c n : ℕ) → All (λ b. b < 2 ^ 8) (low_bytes c n)
unfolding low_bytes
low_bytes-lt zero n = All-nil (λ (b : ℕ). b < 2 ^ 8)
low_bytes-lt (suc c) n = All-cons (λ (b : ℕ). b < 2 ^ 8) (n % 256) (low_bytes c (n / 256)) (omega arith) (low_bytes-lt c (n / 256))

bytes_of_packed : (w : ℕ) (vs : List ℕ) → All (λ b. b < 2 ^ 8) (pack_bytes w vs)
unfolding pack_bytes
bytes_of_packed w vs = low_bytes-lt (bytes_for (length vs * w)) (from_digits w vs)

-- and bit k of the stream is bit `k % 8` of byte `k / 8`
pub bit_of_packed : (w : ℕ) (vs : List ℕ) (k : ℕ) → All (λ v. v < 2 ^ w) vs → k < length vs * w
    → bit_at (get_or (pack_bytes w vs) (k / 8) 0) (k % 8) ≡ bit_at (get_or vs (k / w) 0) (k % w)
bit_of_packed w vs k h lt =
    let n : number_of_bytes (pack_bytes w vs) ≡ from_digits w vs = number-pack_bytes w vs h in
    let within : k < length (pack_bytes w vs) * 8 = omega (arith, length-pack_bytes w vs) in
    sym (bit_of_joined 8 (pack_bytes w vs) k (bytes_of_packed w vs) within) ∙ ap (λ (t : ℕ). bit_at t k) n ∙ bit_of_joined w vs k h lt
