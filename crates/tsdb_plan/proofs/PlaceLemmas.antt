-- First and last places of two properties together.
use Rattle.std.proofs.Common.{◌≡◌, ℕ, ◌+◌, ◌-◌, ◌<◌, ◌≤◌, min, max, List, length, take, drop, get_or, ◌⊎◌, ⊎_elim, sym, ap, ◌∙◌, subst, arith}
use Rattle.std.proofs.lemmas.Bool.{cases_lt}
use Rattle.std.proofs.lemmas.List.{get_or-take, get_or-drop, length-take-le, length-drop}
use Rattle.tsdb_plan.specs.Places.{IsFirstPlace, IsPastLast}

-- the first place of either is the lesser of both
pub IsFirstPlace-either : {X : Type 0} (P Q R : X → Type 0) → ((x : X) → R x → P x ⊎ Q x) → ((x : X) → P x → R x) → ((x : X) → Q x → R x) → (xs : List X) (i k : ℕ) → IsFirstPlace P xs i → IsFirstPlace Q xs k → IsFirstPlace R xs (min i k)
IsFirstPlace-either P Q R which f g xs i k h m = record {
  within = omega (arith, h.within);
  none_before = λ j d low high r. ⊎_elim (λ p. h.none_before j d low (omega arith) p) (λ q. m.none_before j d low (omega arith) q) (which (get_or xs j d) r);
  there = λ l d. ⊎_elim
      (λ (less : i < k). let e : min i k ≡ i = omega arith in subst (λ n. R (get_or xs n d)) (sym e) (f (get_or xs i d) (h.there (omega arith) d)))
      (λ (more : k ≤ i). let e : min i k ≡ k = omega arith in subst (λ n. R (get_or xs n d)) (sym e) (g (get_or xs k d) (m.there (omega arith) d)))
      (cases_lt i k);
}

pub IsPastLast-either : {X : Type 0} (P Q R : X → Type 0) → ((x : X) → R x → P x ⊎ Q x) → ((x : X) → P x → R x) → ((x : X) → Q x → R x) → (xs : List X) (i k : ℕ) → IsPastLast P xs i → IsPastLast Q xs k → IsPastLast R xs (max i k)
IsPastLast-either P Q R which f g xs i k h m = record {
  within = omega (arith, h.within, m.within);
  none_behind = λ j d low high r. ⊎_elim (λ p. h.none_behind j d (omega arith) high p) (λ q. m.none_behind j d (omega arith) high q) (which (get_or xs j d) r);
  there = λ l d. ⊎_elim
      (λ (less : i < k). let e : max i k ≡ k = omega arith in subst (λ n. R (get_or xs (n - 1) d)) (sym e) (g (get_or xs (k - 1) d) (m.there (omega arith) d)))
      (λ (more : k ≤ i). let e : max i k ≡ i = omega arith in subst (λ n. R (get_or xs (n - 1) d)) (sym e) (f (get_or xs (i - 1) d) (h.there (omega arith) d)))
      (cases_lt i k);
}

-- a property that nothing has
pub IsFirstPlace-none : {X : Type 0} (P : X → Type 0) → ((x : X) → P x → ⊥) → (xs : List X) → IsFirstPlace P xs (length xs)
IsFirstPlace-none P never xs = record { within = omega arith; none_before = λ k d low high p. never (get_or xs k d) p; there = λ l d. absurd (omega arith) }

pub IsPastLast-none : {X : Type 0} (P : X → Type 0) → ((x : X) → P x → ⊥) → (xs : List X) → IsPastLast P xs 0
IsPastLast-none P never xs = record { within = omega arith; none_behind = λ k d low high p. never (get_or xs k d) p; there = λ l d. absurd (omega arith) }

-- the lesser of a first place and of one found before it
pub IsFirstPlace-further : {X : Type 0} (P Q R : X → Type 0) → ((x : X) → R x → P x ⊎ Q x) → ((x : X) → P x → R x) → ((x : X) → Q x → R x) → (xs : List X) (i k : ℕ) → IsFirstPlace P xs i → IsFirstPlace Q (take i xs) k → IsFirstPlace R xs k
IsFirstPlace-further P Q R which f g xs i k h m =
    let len : length (take i xs) ≡ i = length-take-le i xs h.within in
    let top : k ≤ i = omega (arith, m.within) in
    record {
      within = omega (arith, h.within);
      none_before = λ j d low high r. ⊎_elim
          (λ p. h.none_before j d low (omega arith) p)
          (λ q. m.none_before j d low high (subst Q (sym (get_or-take i xs j d (omega arith))) q))
          (which (get_or xs j d) r);
      there = λ l d. ⊎_elim
          (λ (less : k < i). g (get_or xs k d) (subst Q (get_or-take i xs k d less) (m.there (omega arith) d)))
          (λ (more : i ≤ k). let e : i ≡ k = omega arith in subst (λ n. R (get_or xs n d)) e (f (get_or xs i d) (h.there (omega arith) d)))
          (cases_lt k i);
    }

-- the greater of one past a last place and of one found behind it
pub IsPastLast-further : {X : Type 0} (P Q R : X → Type 0) → ((x : X) → R x → P x ⊎ Q x) → ((x : X) → P x → R x) → ((x : X) → Q x → R x) → (xs : List X) (i k : ℕ) → IsPastLast P xs i → IsPastLast Q (drop i xs) k → IsPastLast R xs (i + k)
IsPastLast-further P Q R which f g xs i k h m =
    let len : length (drop i xs) ≡ length xs - i = length-drop i xs in
    let in_range : i ≤ length xs = h.within in
    record {
      within = omega (arith, m.within);
      none_behind = λ j d low high r. ⊎_elim
          (λ p. h.none_behind j d (omega arith) high p)
          (λ q. let e : i + (j - i) ≡ j = omega arith in m.none_behind (j - i) d (omega arith) (omega arith) (subst Q (sym (get_or-drop i xs (j - i) d ∙ ap (λ n. get_or xs n d) e)) q))
          (which (get_or xs j d) r);
      there = λ l d. ⊎_elim
          (λ (some : 0 < k). let e : i + (k - 1) ≡ i + k - 1 = omega arith in g (get_or xs (i + k - 1) d) (subst Q (get_or-drop i xs (k - 1) d ∙ ap (λ n. get_or xs n d) e) (m.there some d)))
          (λ (none : k ≤ 0). let e : i ≡ i + k = omega arith in subst (λ n. R (get_or xs (n - 1) d)) e (f (get_or xs (i - 1) d) (h.there (omega arith) d)))
          (cases_lt 0 k);
    }
