-- Moving a packed list through words, as the packing and unpacking loops do.
use Rattle.std.proofs.Common.{◌≡◌, ℕ, suc, ◌+◌, ◌-◌, ◌*◌, ◌/◌, ◌%◌, ◌^◌, ◌<◌, ◌≤◌, List, [], ◌∷◌, ◌++◌, length, take, refl, sym, ap, ◌∙◌, arith}
use Rattle.std.specs.Int.{w64, to_le_bytes}
use Rattle.std.proofs.Math.Nat.{mul_assoc, add-mul-div_left, zero-mul, div-add-mod}
use Rattle.std.proofs.lemmas.Nat.{pow-add, mul-le}
use Rattle.tsdb_bits.specs.Packing.{from_digits, number_of_bytes, low_bytes, bytes_for, pack_bytes}
use Rattle.tsdb_bits.proofs.PackingLaws.{scale_suc, pow_le, from_digits-nil, from_digits-cons, joined_push, low_bytes_cat, low_bytes_above, take-low_bytes, low_bytes_of_word}

-- ---- packing

-- the bytes still to come: what the word holds in its `filled` low bits, and then the values
unfoldable pub pending : ℕ → ℕ → ℕ → List ℕ → List ℕ
pending filled word w vs = low_bytes (bytes_for (filled + length vs * w)) (word + 2 ^ filled * from_digits w vs)

pub pending_all : (w : ℕ) (vs : List ℕ) → pending 0 0 w vs ≡ pack_bytes w vs
unfolding pending pack_bytes
pending_all w vs =
    let n : 0 + 1 * from_digits w vs ≡ from_digits w vs = omega arith in
    let b : 0 + length vs * w ≡ length vs * w = omega arith in
    rw (n, b) refl

pub pending_value : (filled word w v : ℕ) (vs : List ℕ) → pending filled word w (v ∷ vs) ≡ pending (filled + w) (word + v * 2 ^ filled) w vs
unfolding pending from_digits
pending_value filled word w v vs =
    let b : filled + suc (length vs) * w ≡ filled + w + length vs * w = omega arith in
    let n : word + 2 ^ filled * (v + 2 ^ w * from_digits w vs) ≡ word + v * 2 ^ filled + 2 ^ (filled + w) * from_digits w vs =
    rw (pow-add 2 filled w) (omega (arith, mul_assoc (2 ^ filled) (2 ^ w) (from_digits w vs))) in
    rw (b, n) refl

-- a full word goes
pub pending_word : (filled word w : ℕ) (vs : List ℕ) → 64 ≤ filled → pending filled word w vs ≡ to_le_bytes w64 (word % 2 ^ 64) ++ pending (filled - 64) (word / 2 ^ 64) w vs
unfolding pending
pending_word filled word w vs le =
    let f = filled - 64 in
    let k = bytes_for (f + length vs * w) in
    let j = from_digits w vs in
    let bytes : bytes_for (filled + length vs * w) ≡ 8 + k = omega arith in
    let e : filled ≡ 64 + f = omega arith in
    let s : 2 ^ filled * j ≡ 2 ^ 64 * (2 ^ f * j) = ap (λ (i : ℕ). 2 ^ i * j) e ∙ rw (pow-add 2 64 f) (mul_assoc (2 ^ 64) (2 ^ f) j) in
    let n : word + 2 ^ filled * j ≡ word + 2 ^ 64 * (2 ^ f * j) = ap (λ (t : ℕ). word + t) s in
    let low : low_bytes 8 (word + 2 ^ 64 * (2 ^ f * j)) ≡ to_le_bytes w64 (word % 2 ^ 64) =
    low_bytes_above 8 word (2 ^ f * j) ∙ low_of_word word in
    let high : (word + 2 ^ 64 * (2 ^ f * j)) / 2 ^ 64 ≡ word / 2 ^ 64 + 2 ^ f * j = add-mul-div_left word (2 ^ f * j) (omega arith) in
    ap (λ (t : ℕ). low_bytes t (word + 2 ^ filled * j)) bytes
    ∙ ap (λ (t : ℕ). low_bytes (8 + k) t) n
    ∙ low_bytes_cat 8 k (word + 2 ^ 64 * (2 ^ f * j))
    ∙ ap (λ (t : List ℕ). t ++ low_bytes k ((word + 2 ^ 64 * (2 ^ f * j)) / 2 ^ 64)) low
    ∙ ap (λ (t : ℕ). to_le_bytes w64 (word % 2 ^ 64) ++ low_bytes k t) high
  where
    low_of_word : (word : ℕ) → low_bytes 8 word ≡ to_le_bytes w64 (word % 2 ^ 64)
    low_of_word word =
        let e : word % 2 ^ 64 + 2 ^ 64 * (word / 2 ^ 64) ≡ word = omega arith in
        ap (λ (t : ℕ). low_bytes 8 t) (sym e) ∙ low_bytes_above 8 (word % 2 ^ 64) (word / 2 ^ 64) ∙ sym (low_bytes_of_word (word % 2 ^ 64))

-- the rest of the word goes
pub pending_last : (filled word w : ℕ) → filled < 64 → word < 2 ^ filled → pending filled word w [] ≡ take (bytes_for filled) (to_le_bytes w64 (word % 2 ^ 64))
unfolding pending
pending_last filled word w lt fits =
    let b : bytes_for (filled + 0 * w) ≡ bytes_for filled = rw (zero-mul w) (omega arith) in
    let n : word + 2 ^ filled * from_digits w [] ≡ word = rw (from_digits-nil w) (omega arith) in
    let small : word % 2 ^ 64 ≡ word = omega (arith, pow_le filled 64 (omega arith)) in
    rw (b, n, small, low_bytes_of_word word, take-low_bytes (bytes_for filled) 8 word (omega arith)) refl

-- a value above what the word holds
pub word_with : (filled word w v : ℕ) → word < 2 ^ filled → v < 2 ^ w → word + v * 2 ^ filled < 2 ^ (filled + w)
word_with filled word w v p q =
    let m = mul-le (v + 1) (2 ^ filled) (2 ^ w) (2 ^ filled) (omega arith) (omega arith) in
    rw (pow-add 2 filled w) (omega (arith, m))

-- ---- unpacking

-- the next bytes go into the word
pub filled_up : (filled word next more : ℕ) → word + 2 ^ filled * (next + 2 ^ 64 * more) ≡ word + next * 2 ^ filled + 2 ^ (filled + 64) * more
filled_up filled word next more = rw (pow-add 2 filled 64) (omega (arith, mul_assoc (2 ^ filled) (2 ^ 64) more))

-- a value leaves the word
pub taken : (filled word w more : ℕ) → w ≤ filled → word + 2 ^ filled * more ≡ word % 2 ^ w + 2 ^ w * (word / 2 ^ w + 2 ^ (filled - w) * more)
taken filled word w more le =
    let e : filled ≡ w + (filled - w) = omega arith in
    let s : 2 ^ filled * more ≡ 2 ^ w * (2 ^ (filled - w) * more) = ap (λ (i : ℕ). 2 ^ i * more) e ∙ rw (pow-add 2 w (filled - w)) (mul_assoc (2 ^ w) (2 ^ (filled - w)) more) in
    omega (arith, s, div-add-mod word (2 ^ w))

pub value_moves : (w counter filled word more stream : ℕ) (vs : List ℕ) → length vs ≡ counter → w ≤ filled
    → stream ≡ from_digits w vs + 2 ^ (counter * w) * (word + 2 ^ filled * more)
    → stream ≡ from_digits w (vs ++ word % 2 ^ w ∷ []) + 2 ^ ((counter + 1) * w) * (word / 2 ^ w + 2 ^ (filled - w) * more)
value_moves w counter filled word more stream vs len le e =
    let rest = word / 2 ^ w + 2 ^ (filled - w) * more in
    let c : (counter + 1) * w ≡ suc counter * w = omega arith in
    let s : 2 ^ ((counter + 1) * w) * rest ≡ 2 ^ (counter * w) * (2 ^ w * rest) =
    ap (λ (i : ℕ). 2 ^ i * rest) c ∙ rw (scale_suc counter w) (omega (arith, mul_assoc (2 ^ w) (2 ^ (counter * w)) rest, mul_assoc (2 ^ (counter * w)) (2 ^ w) rest)) in
    let push : from_digits w (vs ++ word % 2 ^ w ∷ []) ≡ from_digits w vs + 2 ^ (counter * w) * (word % 2 ^ w) = rw (← len) (joined_push w vs (word % 2 ^ w)) in
    let t : 2 ^ (counter * w) * (word + 2 ^ filled * more) ≡ 2 ^ (counter * w) * (word % 2 ^ w + 2 ^ w * rest) = ap (λ (k : ℕ). 2 ^ (counter * w) * k) (taken filled word w more le) in
    omega (arith, e, push, s, t)

pub number-cons : (b : ℕ) (bytes : List ℕ) → number_of_bytes (b ∷ bytes) ≡ b + 256 * number_of_bytes bytes
number-cons b bytes = from_digits-cons 8 b bytes
