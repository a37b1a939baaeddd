use Rattle.std.proofs.Common.{◌≡◌, ℕ, ◌+◌, ◌*◌, ◌^◌, ◌<◌, ◌≤◌, List, length, take, arith, rules, ap, sym, ◌∙◌, inl, inr, All}
use Rattle.std.proofs.lemmas.List.{take_all}
use Rattle.std.proofs.lemmas.List.Elements.{All-from_get_or}
use Rattle.std.proofs.lemmas.Nat.{pow_pos}
use Rattle.std.proofs.lemmas.Bool.{cases_eq}
use Rattle.std.proofs.Math.Nat.{le-mul_of_pos_right}
use Rattle.tsdb_bits.specs.Packing.{from_digits, number_of_bytes, pack_bytes, low_bytes, bytes_for, HasFillingBit}
use Rattle.tsdb_bits.specs.Faults.{IsPacking}
use Rattle.tsdb_bits.proofs.PackingLaws.{length-pack_bytes, number-pack_bytes, from_digits-lt, from_digits-nil, low_bytes-number}
use Rattle.tsdb_bits.proofs.packing.unpack.Goals as goal

-- a packing has just the bytes that it needs, and no filling bit
record IsExact (bits : ℕ) (bytes : List ℕ) : Type 0 where
  size : length bytes ≡ bytes_for bits
  unfilled : number_of_bytes bytes < 2 ^ bits

exact_when_packed : (w count : ℕ) (bytes values : List ℕ) → IsPacking w count bytes values → IsExact (count * w) bytes
exact_when_packed w count bytes values p =
    let below : from_digits w values < 2 ^ (count * w) = rw (← p.size) (from_digits-lt w values p.below) in
    record {
      size = ap length p.bytes_are ∙ length-pack_bytes w values ∙ ap (λ (t : ℕ). bytes_for (t * w)) p.size;
      unfilled = rw p.bytes_are (rw (number-pack_bytes w values p.below) below);
    }

wrong_size : (w count : ℕ) (bytes values : List ℕ) → (length bytes ≡ bytes_for (count * w) → ⊥) → IsPacking w count bytes values → ⊥
wrong_size w count bytes values ne p = ne (exact_when_packed w count bytes values p).size

filled : (w count filling : ℕ) (bytes values : List ℕ) → (filling ≡ 0 → ⊥) → number_of_bytes (take (bytes_for (count * w)) bytes) ≡ from_digits w values + 2 ^ (count * w) * filling → HasFillingBit (count * w) bytes
filled w count filling bytes values some e =
    let positive : 0 < filling = omega (arith, some) in
    let m : 2 ^ (count * w) ≤ 2 ^ (count * w) * filling = le-mul_of_pos_right (2 ^ (count * w)) positive in
    rw e (omega (arith, m))

none_filled : (w count : ℕ) (bytes values : List ℕ) → HasFillingBit (count * w) bytes → IsPacking w count bytes values → ⊥
none_filled w count bytes values has p =
    let k = exact_when_packed w count bytes values p in
    let e : take (bytes_for (count * w)) bytes ≡ bytes = take_all (bytes_for (count * w)) bytes (omega (arith, k.size)) in
    let h : 2 ^ (count * w) ≤ number_of_bytes bytes = rw e at has in
    absurd (omega (arith, k.unfilled))

some_byte : (bits : ℕ) (bytes : List ℕ) → HasFillingBit bits bytes → 1 ≤ bytes_for bits
some_byte bits bytes has =
    elim (cases_eq (bytes_for bits) 0) [
      | inl z ↦
          let n : number_of_bytes (take (bytes_for bits) bytes) ≡ 0 = ap (λ (t : ℕ). number_of_bytes (take t bytes)) z ∙ from_digits-nil 8 in
          absurd (omega (arith, pow_pos bits))
      | inr nz ↦ omega (arith, nz)
    ]

unfilled : (w count filling : ℕ) (bytes values : List ℕ) → filling ≡ 0 → length values ≡ count → All (λ v. v < 2 ^ w) values
    → number_of_bytes (take (bytes_for (count * w)) bytes) ≡ from_digits w values + 2 ^ (count * w) * filling → HasFillingBit (count * w) bytes → ⊥
unfilled w count filling bytes values z number_is below e has =
    let lt : from_digits w values < 2 ^ (count * w) = rw (← number_is) (from_digits-lt w values below) in
    let n : number_of_bytes (take (bytes_for (count * w)) bytes) ≡ from_digits w values = e ∙ rw z (omega arith) in
    absurd (omega (arith, n))

packs : (w count filling : ℕ) (bytes values : List ℕ) → filling ≡ 0 → length bytes ≡ bytes_for (count * w) → All (λ b. b < 256) bytes → length values ≡ count → All (λ v. v < 2 ^ w) values
    → number_of_bytes (take (bytes_for (count * w)) bytes) ≡ from_digits w values + 2 ^ (count * w) * filling → IsPacking w count bytes values
unfolding pack_bytes
packs w count filling bytes values z size are_bytes number_is below e =
    let all : take (bytes_for (count * w)) bytes ≡ bytes = take_all (bytes_for (count * w)) bytes (omega (arith, size)) in
    let n : number_of_bytes bytes ≡ from_digits w values = sym (ap number_of_bytes all) ∙ e ∙ rw z (omega arith) in
    record {
      size = number_is;
      below = below;
      bytes_are = sym (ap (λ (t : ℕ). low_bytes (bytes_for (t * w)) (from_digits w values)) number_is
          ∙ ap (λ (t : ℕ). low_bytes t (from_digits w values)) (sym size)
          ∙ ap (λ (t : ℕ). low_bytes (length bytes) t) (sym n)
          ∙ low_bytes-number bytes are_bytes);
    }

pub returns-then-len-needed-clause-none : goal.returns-then-len-needed-clause-none
returns-then-len-needed-clause-none c = λ _ values p.
    let size : c.div_ceil-needed.result ≡ bytes_for (c.args.count * c.args.width) = search rules in
    wrong_size c.args.width c.args.count c.args.bytes.now values (λ e. omega arith) p

pub overflow_sub-result : goal.overflow_sub-result
overflow_sub-result c =
    let size : c.div_ceil-needed.result ≡ bytes_for (c.args.count * c.args.width) = search rules in
    let has = filled c.args.width c.args.count c.in_ok-values.filling c.args.bytes.now c.in_ok-values.values.items c.if-filling-ne0.true (rw (← size) c.in_ok-values.ensures.stream) in
    rw size (some_byte (c.args.count * c.args.width) c.args.bytes.now has)

pub returns-then-filling-ne0-clause-fault : goal.returns-then-filling-ne0-clause-fault
returns-then-filling-ne0-clause-fault c =
    let size : c.div_ceil-needed.result ≡ bytes_for (c.args.count * c.args.width) = search rules in
    let has = filled c.args.width c.args.count c.in_ok-values.filling c.args.bytes.now c.in_ok-values.values.items c.if-filling-ne0.true (rw (← size) c.in_ok-values.ensures.stream) in
    let some = some_byte (c.args.count * c.args.width) c.args.bytes.now has in
    (omega (arith, size), inl (has, omega (arith, size, some)))

pub returns-then-filling-ne0-clause-none : goal.returns-then-filling-ne0-clause-none
returns-then-filling-ne0-clause-none c = λ _ values p.
    let size : c.div_ceil-needed.result ≡ bytes_for (c.args.count * c.args.width) = search rules in
    let has = filled c.args.width c.args.count c.in_ok-values.filling c.args.bytes.now c.in_ok-values.values.items c.if-filling-ne0.true (rw (← size) c.in_ok-values.ensures.stream) in
    none_filled c.args.width c.args.count c.args.bytes.now values has p

pub returns-then-needed-len-clause-fault : goal.returns-then-needed-len-clause-fault
returns-then-needed-len-clause-fault c =
    let size : c.div_ceil-needed.result ≡ bytes_for (c.args.count * c.args.width) = search rules in
    let k = c.in_ok-values.ensures in
    (omega (arith, size), inr (unfilled c.args.width c.args.count c.in_ok-values.filling c.args.bytes.now c.in_ok-values.values.items (search rules) k.count k.below (rw (← size) k.stream), omega (arith, size), size))

pub returns-then-needed-len-clause-none : goal.returns-then-needed-len-clause-none
returns-then-needed-len-clause-none c = λ _ values p.
    let size : c.div_ceil-needed.result ≡ bytes_for (c.args.count * c.args.width) = search rules in
    wrong_size c.args.width c.args.count c.args.bytes.now values (λ e. omega arith) p

pub returns-clause-values : goal.returns-clause-values
returns-clause-values c =
    let size : c.div_ceil-needed.result ≡ bytes_for (c.args.count * c.args.width) = search rules in
    let k = c.in_ok-values.ensures in
    let bytes = c.args.bytes.now in
    packs c.args.width c.args.count c.in_ok-values.filling bytes c.in_ok-values.values.items (search rules) (omega arith)
    (All-from_get_or (λ (b : ℕ). b < 256) bytes 0 (λ i lt. omega (arith, c.type_inv.bytes i))) k.count k.below (rw (← size) k.stream)
