-- The laws of LEB128.
use Rattle.std.proofs.Common.{◌≡◌, ℕ, zero, suc, ◌+◌, ◌*◌, ◌/◌, ◌%◌, ◌^◌, ◌<◌, ◌≤◌, List, [], ◌∷◌, ◌++◌, length, refl, sym, ap, ◌∙◌, inl, inr, arith}
use Rattle.std.proofs.lemmas.Nat.{pow-add}
use Rattle.std.proofs.lemmas.Bool.{cases_lt, lt-ltb, le-ltb}
use Rattle.tsdb_bits.specs.Leb.{leb_within, leb}

turns_do : (f g n : ℕ) → n < f → n < g → leb_within f n ≡ leb_within g n
unfolding leb_within
turns_do zero g n h k = absurd (omega arith)
turns_do (suc f) zero n h k = absurd (omega arith)
turns_do (suc f) (suc g) n h k =
    elim (cases_lt n 128) [
      | inl lt ↦ rw (lt-ltb n 128 lt) refl
      | inr le ↦ rw (le-ltb n 128 le) (ap (λ (t : List ℕ). (n % 128 + 128) ∷ t) (turns_do f g (n / 128) (omega arith) (omega arith)))
    ]

-- one group
pub leb_small : (n : ℕ) → n < 128 → leb n ≡ n ∷ []
unfolding leb leb_within
leb_small n lt = rw (lt-ltb n 128 lt) refl

-- a group, and the groups of the rest
pub leb_large : (n : ℕ) → 128 ≤ n → leb n ≡ (n % 128 + 128) ∷ leb (n / 128)
unfolding leb leb_within
leb_large n le = rw (le-ltb n 128 le) (ap (λ (t : List ℕ). (n % 128 + 128) ∷ t) (turns_do n (suc (n / 128)) (n / 128) (omega arith) (omega arith)))

heads : (a b : ℕ) (x y : List ℕ) → a ∷ x ≡ b ∷ y → (a ≡ b) × (x ≡ y)
heads a b x y e = (cc, cc)

prefix_free_within : (f a b : ℕ) (x y : List ℕ) → a < f → leb a ++ x ≡ leb b ++ y → (a ≡ b) × (x ≡ y)
prefix_free_within zero a b x y h e = absurd (omega arith)
prefix_free_within (suc f) a b x y h e =
    elim (cases_lt a 128) [
      | inl p ↦ elim (cases_lt b 128) [
        | inl q ↦ heads a b x y (rw (leb_small a p, leb_small b q) at e)
        | inr q ↦ let k = heads a (b % 128 + 128) x (leb (b / 128) ++ y) (rw (leb_small a p, leb_large b q) at e) in absurd (omega (arith, k.0))
      ]
      | inr p ↦ elim (cases_lt b 128) [
        | inl q ↦ let k = heads (a % 128 + 128) b (leb (a / 128) ++ x) y (rw (leb_large a p, leb_small b q) at e) in absurd (omega (arith, k.0))
        | inr q ↦
            let k = heads (a % 128 + 128) (b % 128 + 128) (leb (a / 128) ++ x) (leb (b / 128) ++ y) (rw (leb_large a p, leb_large b q) at e) in
            let r = prefix_free_within f (a / 128) (b / 128) x y (omega arith) k.1 in
            (omega (arith, k.0, r.0), r.1)
      ]
    ]

-- no spelling begins another
pub leb_prefix_free : (a b : ℕ) (x y : List ℕ) → leb a ++ x ≡ leb b ++ y → (a ≡ b) × (x ≡ y)
leb_prefix_free a b x y e = prefix_free_within (suc a) a b x y (omega arith) e

-- the first byte of a spelling, and what follows it
pub leb_first : (h : ℕ) (x : List ℕ) (b : ℕ) (tail : List ℕ) → b < 128 → b ∷ tail ≡ leb h ++ x → (h ≡ b) × (x ≡ tail)
leb_first h x b tail lt e =
    let k = leb_prefix_free b h tail x (rw (leb_small b lt) e) in (sym k.0, sym k.1)

pub leb_next : (h : ℕ) (x : List ℕ) (b : ℕ) (tail : List ℕ) → 128 ≤ b → b < 256 → b ∷ tail ≡ leb h ++ x
    → (128 ≤ h) × (h % 128 + 128 ≡ b) × (tail ≡ leb (h / 128) ++ x)
leb_next h x b tail le lt e =
    elim (cases_lt h 128) [
      | inl p ↦ let k = heads b h tail x (rw (leb_small h p) at e) in absurd (omega (arith, k.0))
      | inr p ↦ let k = heads b (h % 128 + 128) tail (leb (h / 128) ++ x) (rw (leb_large h p) at e) in (p, sym k.0, k.1)
    ]

-- the number of bytes
pub length-leb : (k n : ℕ) → n < 128 * 2 ^ (7 * k) → length (leb n) ≤ k + 1
length-leb zero n lt =
    let small : n < 128 = omega arith in
    rw (leb_small n small) (omega arith)
length-leb (suc k) n lt =
    elim (cases_lt n 128) [
      | inl small ↦ rw (leb_small n small) (omega arith)
      | inr large ↦
          let e : 7 * suc k ≡ 7 + 7 * k = omega arith in
          let s : 2 ^ (7 * suc k) ≡ 128 * 2 ^ (7 * k) = ap (λ (i : ℕ). 2 ^ i) e ∙ pow-add 2 7 (7 * k) in
          rw (leb_large n large) (omega (arith, length-leb k (n / 128) (omega (arith, s))))
    ]

-- a spelling has a first byte
pub leb-some : (h : ℕ) (x : List ℕ) → [] ≡ leb h ++ x → ⊥
leb-some h x e =
    elim (cases_lt h 128) [
      | inl p ↦ let k = rw (leb_small h p) at e in cc
      | inr p ↦ let k = rw (leb_large h p) at e in cc
    ]
