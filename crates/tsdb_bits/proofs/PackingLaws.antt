-- The laws of packing.
use Rattle.std.proofs.Common.{◌≡◌, ℕ, zero, suc, ◌+◌, ◌*◌, ◌/◌, ◌%◌, ◌^◌, ◌<◌, ◌≤◌, List, [], ◌∷◌, ◌++◌, length, take, refl, sym, ap, ◌∙◌, inl, inr, arith, All}
use Rattle.std.specs.Int.{w64, to_le_bytes}
use Rattle.std.proofs.Math.Nat.{div-div-eq-div-mul, suc-mul, zero-mul, mul-zero, pow-le-pow_right, add-mul-mod_self_left, add-mul-div_left, mod-eq_of_lt, div-one, eq_of_mul-eq-mul_left, mul_assoc, pow-succ'}
use Rattle.std.proofs.lemmas.Nat.{pow-add}
use Rattle.std.proofs.lemmas.Bool.{cases_lt, cases_eq}
use Rattle.std.proofs.lemmas.List.Elements.{All-head, All-tail}
use Rattle.tsdb_bits.specs.Packing.{from_digits, number_of_bytes, low_bytes, bytes_for, pack_bytes, digits_within, binary_digits}

-- ---- powers

pub scale_suc : (l w : ℕ) → 2 ^ (suc l * w) ≡ 2 ^ w * 2 ^ (l * w)
scale_suc l w = let e : suc l * w ≡ w + l * w = omega (arith, suc-mul l w) in ap (λ (k : ℕ). 2 ^ k) e ∙ pow-add 2 w (l * w)

pub byte_scale : (k : ℕ) → 2 ^ (8 * suc k) ≡ 256 * 2 ^ (8 * k)
byte_scale k = let e : 8 * suc k ≡ 8 + 8 * k = omega arith in ap (λ (j : ℕ). 2 ^ j) e ∙ pow-add 2 8 (8 * k)

pub pow_le : (i j : ℕ) → i ≤ j → 2 ^ i ≤ 2 ^ j
pow_le i j h = let two : 0 < 2 = omega arith in pow-le-pow_right two h

-- ---- bytes of a number

pub length-low_bytes : (k n : ℕ) → length (low_bytes k n) ≡ k
unfolding low_bytes
length-low_bytes zero n = refl
length-low_bytes (suc k) n = ap suc (length-low_bytes k (n / 256))

pub low_bytes_cat : (j k n : ℕ) → low_bytes (j + k) n ≡ low_bytes j n ++ low_bytes k (n / 2 ^ (8 * j))
unfolding low_bytes
low_bytes_cat zero k n =
    let e : n / 2 ^ (8 * 0) ≡ n = div-one n in
    let z : zero + k ≡ k = omega arith in
    rw (z, e) refl
low_bytes_cat (suc j) k n =
    let z : suc j + k ≡ suc (j + k) = omega arith in
    let e : n / 256 / 2 ^ (8 * j) ≡ n / 2 ^ (8 * suc j) = div-div-eq-div-mul n 256 (2 ^ (8 * j)) ∙ ap (λ (d : ℕ). n / d) (sym (byte_scale j)) in
    rw z (ap (λ (t : List ℕ). n % 256 ∷ t) (low_bytes_cat j k (n / 256) ∙ ap (λ (m : ℕ). low_bytes j (n / 256) ++ low_bytes k m) e))

-- what stands above the bytes changes none of them
pub low_bytes_above : (k n h : ℕ) → low_bytes k (n + 2 ^ (8 * k) * h) ≡ low_bytes k n
unfolding low_bytes
low_bytes_above zero n h = refl
low_bytes_above (suc k) n h =
    let s : 2 ^ (8 * suc k) * h ≡ 256 * (2 ^ (8 * k) * h) = rw (byte_scale k, mul_assoc 256 (2 ^ (8 * k)) h) refl in
    let m : (n + 2 ^ (8 * suc k) * h) % 256 ≡ n % 256 = rw s (add-mul-mod_self_left n 256 (2 ^ (8 * k) * h)) in
    let d : (n + 2 ^ (8 * suc k) * h) / 256 ≡ n / 256 + 2 ^ (8 * k) * h = rw s (add-mul-div_left n (2 ^ (8 * k) * h) (omega arith)) in
    rw (m, d, low_bytes_above k (n / 256) h) refl

pub take-low_bytes : (j k n : ℕ) → j ≤ k → take j (low_bytes k n) ≡ low_bytes j n
unfolding low_bytes
take-low_bytes zero k n h = refl
take-low_bytes (suc j) zero n h = absurd (omega arith)
take-low_bytes (suc j) (suc k) n h = ap (λ (t : List ℕ). n % 256 ∷ t) (take-low_bytes j k (n / 256) (omega arith))

pub low_bytes_of_word : (n : ℕ) → to_le_bytes w64 n ≡ low_bytes 8 n
unfolding low_bytes
low_bytes_of_word n = simp (div-div-eq-div-mul) refl

-- the bytes of a number that fits them give the number back
pub number-low_bytes : (k n : ℕ) → n < 2 ^ (8 * k) → number_of_bytes (low_bytes k n) ≡ n
unfolding low_bytes from_digits
number-low_bytes zero n h = let p : n < 1 = h in omega arith
number-low_bytes (suc k) n h =
    let s = byte_scale k in
    let below : n / 256 < 2 ^ (8 * k) = omega arith in
    rw (number-low_bytes k (n / 256) below) (omega arith)

-- and so do the bytes that a number is read from
pub low_bytes-number : (bytes : List ℕ) → All (λ b. b < 256) bytes → low_bytes (length bytes) (number_of_bytes bytes) ≡ bytes
unfolding low_bytes from_digits
low_bytes-number [] h = refl
low_bytes-number (b ∷ bytes) h =
    let below : b < 256 = All-head (λ (x : ℕ). x < 256) b bytes h in
    let m : (b + 256 * number_of_bytes bytes) % 256 ≡ b = omega arith in
    let d : (b + 256 * number_of_bytes bytes) / 256 ≡ number_of_bytes bytes = omega arith in
    rw (m, d, low_bytes-number bytes (All-tail (λ (x : ℕ). x < 256) b bytes h)) refl

-- ---- streams

pub from_digits-nil : (w : ℕ) → from_digits w [] ≡ 0
unfolding from_digits
from_digits-nil w = refl

pub from_digits-cons : (w v : ℕ) (vs : List ℕ) → from_digits w (v ∷ vs) ≡ v + 2 ^ w * from_digits w vs
unfolding from_digits
from_digits-cons w v vs = refl

pub from_digits-append : (w : ℕ) (xs ys : List ℕ) → from_digits w (xs ++ ys) ≡ from_digits w xs + 2 ^ (length xs * w) * from_digits w ys
unfolding from_digits
from_digits-append w [] ys =
    let e : 2 ^ (0 * w) ≡ 1 = rw (zero-mul w) refl in
    rw e (omega arith)
from_digits-append w (x ∷ xs) ys =
    rw (from_digits-append w xs ys, scale_suc (length xs) w) (omega (arith, mul_assoc (2 ^ w) (2 ^ (length xs * w)) (from_digits w ys)))

pub joined_push : (w : ℕ) (xs : List ℕ) (v : ℕ) → from_digits w (xs ++ v ∷ []) ≡ from_digits w xs + 2 ^ (length xs * w) * v
joined_push w xs v =
    let e : from_digits w (v ∷ []) ≡ v = rw (from_digits-cons w v [], from_digits-nil w) (omega (arith, mul-zero (2 ^ w))) in
    from_digits-append w xs (v ∷ []) ∙ ap (λ (t : ℕ). from_digits w xs + 2 ^ (length xs * w) * t) e

-- a stream is below 2 to its number of bits
pub from_digits-lt : (w : ℕ) (vs : List ℕ) → All (λ v. v < 2 ^ w) vs → from_digits w vs < 2 ^ (length vs * w)
unfolding from_digits
from_digits-lt w [] h = rw (zero-mul w) (omega arith)
from_digits-lt w (v ∷ vs) h =
    let below : v < 2 ^ w = All-head (λ (x : ℕ). x < 2 ^ w) v vs h in
    let rest = from_digits-lt w vs (All-tail (λ (x : ℕ). x < 2 ^ w) v vs h) in
    rw (scale_suc (length vs) w) (cat_lt (2 ^ w) (2 ^ (length vs * w)) v (from_digits w vs) below rest)
  where
    cat_lt : (a b v j : ℕ) → v < a → j < b → v + a * j < a * b
    cat_lt a b v j p q = grind arith

-- a low part and what stands above it are told apart
pub parts_same : (s a b h k : ℕ) → a < s → b < s → a + s * h ≡ b + s * k → (a ≡ b) × (h ≡ k)
parts_same s a b h k p q e =
    let m : a ≡ b = sym (mod-eq_of_lt p) ∙ sym (add-mul-mod_self_left a s h) ∙ ap (λ (t : ℕ). t % s) e ∙ add-mul-mod_self_left b s k ∙ mod-eq_of_lt q in
    let t : s * h ≡ s * k = omega arith in
    (m, eq_of_mul-eq-mul_left s (omega arith) h k t)

pub same_from_joined : (w : ℕ) (xs ys : List ℕ) → length xs ≡ length ys → All (λ x. x < 2 ^ w) xs → All (λ y. y < 2 ^ w) ys → from_digits w xs ≡ from_digits w ys → xs ≡ ys
unfolding from_digits
same_from_joined w [] [] l p q e = refl
same_from_joined w [] (y ∷ ys) l p q e = absurd (omega arith)
same_from_joined w (x ∷ xs) [] l p q e = absurd (omega arith)
same_from_joined w (x ∷ xs) (y ∷ ys) l p q e =
    let k = parts_same (2 ^ w) x y (from_digits w xs) (from_digits w ys) (All-head (λ (v : ℕ). v < 2 ^ w) x xs p) (All-head (λ (v : ℕ). v < 2 ^ w) y ys q) e in
    let r = same_from_joined w xs ys (omega arith) (All-tail (λ (v : ℕ). v < 2 ^ w) x xs p) (All-tail (λ (v : ℕ). v < 2 ^ w) y ys q) k.1 in
    rw (k.0, r) refl

-- ---- packings

pub length-pack_bytes : (w : ℕ) (vs : List ℕ) → length (pack_bytes w vs) ≡ bytes_for (length vs * w)
unfolding pack_bytes
length-pack_bytes w vs = length-low_bytes (bytes_for (length vs * w)) (from_digits w vs)

-- the bits fit the bytes
pub bits_fit : (bits : ℕ) → 2 ^ bits ≤ 2 ^ (8 * bytes_for bits)
bits_fit bits = pow_le bits (8 * bytes_for bits) (omega arith)

pub number-pack_bytes : (w : ℕ) (vs : List ℕ) → All (λ v. v < 2 ^ w) vs → number_of_bytes (pack_bytes w vs) ≡ from_digits w vs
unfolding pack_bytes
number-pack_bytes w vs h =
    number-low_bytes (bytes_for (length vs * w)) (from_digits w vs) (omega (arith, from_digits-lt w vs h, bits_fit (length vs * w)))

-- two lists of one length with one packing are equal
pub same_from_packed : (w : ℕ) (xs ys : List ℕ) → length xs ≡ length ys → All (λ x. x < 2 ^ w) xs → All (λ y. y < 2 ^ w) ys → pack_bytes w xs ≡ pack_bytes w ys → xs ≡ ys
same_from_packed w xs ys l p q e =
    same_from_joined w xs ys l p q (sym (number-pack_bytes w xs p) ∙ ap number_of_bytes e ∙ number-pack_bytes w ys q)

-- ---- binary digits

pub record HasDigits (n d : ℕ) : Type 0 where
  pub below : n < 2 ^ d
  pub reached : 0 < n → 2 ^ d ≤ 2 * n
  pub none : n ≡ 0 → d ≡ 0

within_has : (f n : ℕ) → n ≤ f → HasDigits n (digits_within f n)
unfolding digits_within
within_has zero n h = record { below = let p : n ≡ 0 = omega arith in rw p (omega arith); reached = λ p. absurd (omega arith); none = λ _. refl }
within_has (suc f) zero h = record { below = omega arith; reached = λ p. absurd (omega arith); none = λ _. refl }
within_has (suc f) (suc n) h =
    let half = within_has f (suc n / 2) (omega arith) in
    doubled (suc n) (digits_within f (suc n / 2)) (omega arith) half
  where
    doubled : (n d : ℕ) → 0 < n → HasDigits (n / 2) d → HasDigits n (suc d)
    doubled n d p half =
        let e : 2 ^ suc d ≡ 2 * 2 ^ d = pow-succ' 2 d in
        record {
          below = omega (arith, half.below, e);
          reached = λ _. elim (cases_lt 0 (n / 2)) [
            | inl q ↦ omega (arith, half.reached q, e)
            | inr q ↦ let z : d ≡ 0 = half.none (omega arith) in rw z (omega arith)
          ];
          none = λ q. absurd (omega arith);
        }

pub digits_of_number : (n : ℕ) → HasDigits n (binary_digits n)
unfolding binary_digits
digits_of_number n = within_has n n (omega arith)

pub digits_least : (n d k : ℕ) → HasDigits n d → n < 2 ^ k → d ≤ k
digits_least n d k has lt =
    elim (cases_lt k d) [
      | inr le ↦ le
      | inl less ↦
          let e : 2 ^ suc k ≡ 2 * 2 ^ k = pow-succ' 2 k in
          let le : 2 ^ suc k ≤ 2 ^ d = pow_le (suc k) d (omega arith) in
          elim (cases_eq n 0) [
            | inl z ↦ absurd (omega (arith, has.none z))
            | inr nz ↦ let some : 0 < n = omega arith in absurd (omega (arith, has.reached some))
          ]
    ]
