-- Reading a LEB128 number group by group.
use Rattle.std.proofs.Common.{◌≡◌, ℕ, ◌+◌, ◌-◌, ◌*◌, ◌/◌, ◌%◌, ◌^◌, ◌<◌, ◌≤◌, List, ◌∷◌, ◌++◌, length, get_or, drop, refl, sym, ap, subst, ◌∙◌, inl, inr, arith}
use Rattle.std.proofs.Math.Nat.{mul_assoc}
use Rattle.std.proofs.lemmas.Nat.{pow-add, mul-le}
use Rattle.std.proofs.lemmas.Bool.{cases_lt}
use Rattle.std.proofs.lemmas.List.{drop_more, drop_all, get_or_default}
use Rattle.tsdb_bits.specs.Leb.{leb}
use Rattle.tsdb_bits.proofs.LebLaws.{leb_small, leb_large, leb_first, leb_next, leb-some}

-- the first i bytes all have the top bit, and hold the lowest groups of the number: `low`
pub record Groups (bytes : List ℕ) (i low : ℕ) : Type 0 where
  pub long : i ≤ length bytes
  pub below : low < 2 ^ (7 * i)
  pub tops : (k d : ℕ) → k < i → 128 ≤ get_or bytes k d
  pub builds : (h : ℕ) (x : List ℕ) → (0 < i → 0 < h) → drop i bytes ≡ leb h ++ x → bytes ≡ leb (low + 2 ^ (7 * i) * h) ++ x
  pub splits : (v : ℕ) (x : List ℕ) → bytes ≡ leb v ++ x → (h : ℕ) × (v ≡ low + 2 ^ (7 * i) * h) × (drop i bytes ≡ leb h ++ x) × (0 < i → 0 < h)

pub group_scale : (i : ℕ) → 2 ^ (7 * (i + 1)) ≡ 2 ^ (7 * i) * 128
group_scale i = let e : 7 * (i + 1) ≡ 7 * i + 7 = omega arith in ap (λ (k : ℕ). 2 ^ k) e ∙ pow-add 2 (7 * i) 7

pub more_groups : (bytes : List ℕ) (i low b : ℕ) → Groups bytes i low → i < length bytes → b ≡ get_or bytes i 0 → 128 ≤ b → b < 256 → Groups bytes (i + 1) (low + (b - 128) * 2 ^ (7 * i))
more_groups bytes i low b g lt e top byte =
    let s = group_scale i in
    let here : drop i bytes ≡ b ∷ drop (i + 1) bytes = drop_more bytes i 0 lt ∙ ap (λ (t : ℕ). t ∷ drop (i + 1) bytes) (sym e) in
    record {
      long = omega arith;
      below = let m = mul-le (b - 128) (2 ^ (7 * i)) 127 (2 ^ (7 * i)) (omega arith) (omega arith) in omega (arith, g.below);
      tops = λ k d h. elim (cases_lt k i) [
        | inl p ↦ g.tops k d p
        | inr p ↦ let q : k ≡ i = omega arith in rw q (at_default bytes i d b lt e top)
      ];
      builds = λ h x p d.
          let h' = b - 128 + 128 * h in
          let some : 0 < h = p (omega arith) in
          let large : 128 ≤ h' = omega arith in
          let low_part : h' % 128 + 128 ≡ b = omega arith in
          let high_part : h' / 128 ≡ h = omega arith in
          let one : drop i bytes ≡ leb h' ++ x = here ∙ ap (λ (t : List ℕ). b ∷ t) d ∙ sym (rw (leb_large h' large, low_part, high_part) refl) in
          let n : low + 2 ^ (7 * i) * h' ≡ low + (b - 128) * 2 ^ (7 * i) + 2 ^ (7 * (i + 1)) * h = rw s (omega (arith, mul_assoc (2 ^ (7 * i)) 128 h)) in
          subst (λ (t : ℕ). bytes ≡ leb t ++ x) n (g.builds h' x (λ _. omega arith) one);
      splits = λ v x d.
          let t = g.splits v x d in
          let k = leb_next t.0 x b (drop (i + 1) bytes) top byte (sym here ∙ t.2) in
          let whole : t.0 ≡ b - 128 + 128 * (t.0 / 128) = omega (arith, k.1) in
          let n : v ≡ low + (b - 128) * 2 ^ (7 * i) + 2 ^ (7 * (i + 1)) * (t.0 / 128) =
          t.1 ∙ ap (λ (m : ℕ). low + 2 ^ (7 * i) * m) whole ∙ rw s (omega (arith, mul_assoc (2 ^ (7 * i)) 128 (t.0 / 128))) in
          (t.0 / 128, n, k.2, λ _. omega (arith, k.0));
    }
  where
    at_default : (bytes : List ℕ) (i d b : ℕ) → i < length bytes → b ≡ get_or bytes i 0 → 128 ≤ b → 128 ≤ get_or bytes i d
    at_default bytes i d b lt e top = rw (get_or_default bytes i d 0 lt, ← e) top

-- the last group
pub ends_with : (bytes : List ℕ) (i low b : ℕ) → Groups bytes i low → i < length bytes → b ≡ get_or bytes i 0 → b < 128 → (0 < i → 0 < b) → bytes ≡ leb (low + b * 2 ^ (7 * i)) ++ drop (i + 1) bytes
ends_with bytes i low b g lt e small some =
    let here : drop i bytes ≡ leb b ++ drop (i + 1) bytes = drop_more bytes i 0 lt ∙ ap (λ (t : ℕ). t ∷ drop (i + 1) bytes) (sym e) ∙ sym (rw (leb_small b small) refl) in
    let n : low + 2 ^ (7 * i) * b ≡ low + b * 2 ^ (7 * i) = omega arith in
    subst (λ (t : ℕ). bytes ≡ leb t ++ drop (i + 1) bytes) n (g.builds b (drop (i + 1) bytes) some here)

-- a last group says what the number is
pub value_of_groups : (bytes : List ℕ) (i low b v : ℕ) (x : List ℕ) → Groups bytes i low → i < length bytes → b ≡ get_or bytes i 0 → b < 128 → bytes ≡ leb v ++ x → (v ≡ low + b * 2 ^ (7 * i)) × (0 < i → 0 < b)
value_of_groups bytes i low b v x g lt e small d =
    let here : drop i bytes ≡ b ∷ drop (i + 1) bytes = drop_more bytes i 0 lt ∙ ap (λ (t : ℕ). t ∷ drop (i + 1) bytes) (sym e) in
    let t = g.splits v x d in
    let k = leb_first t.0 x b (drop (i + 1) bytes) small (sym here ∙ t.2) in
    (t.1 ∙ rw k.0 (omega arith), λ p. rw (← k.0) (t.3 p))

pub none_here : (bytes : List ℕ) (i low : ℕ) → Groups bytes i low → length bytes ≤ i → (v : ℕ) (x : List ℕ) → bytes ≡ leb v ++ x → ⊥
none_here bytes i low g le v x d =
    let t = g.splits v x d in
    leb-some t.0 x (sym (drop_all i bytes le) ∙ t.2)

-- the tenth byte, where it is any but 1
pub tenth_high : (bytes : List ℕ) (low b v : ℕ) (x : List ℕ) → Groups bytes 9 low → 9 < length bytes → b ≡ get_or bytes 9 0 → b < 256 → (b ≡ 1 → ⊥) → v < 2 ^ 64 → bytes ≡ leb v ++ x → ⊥
tenth_high bytes low b v x g lt e byte other small d =
    elim (cases_lt b 128) [
      | inl p ↦
          let k = value_of_groups bytes 9 low b v x g lt e p d in
          let some : 0 < b = k.1 (omega arith) in
          let big : 2 ≤ b = omega (arith, other) in
          absurd (omega (arith, k.0))
      | inr p ↦
          let h = more_groups bytes 9 low b g lt e p byte in
          let t = h.splits v x d in
          let some : 0 < t.0 = t.3 (omega arith) in
          absurd (omega (arith, t.1))
    ]
