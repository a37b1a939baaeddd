-- The order of names, and lists in which each item stands so to the next.
use Rattle.std.proofs.Common.{◌≡◌, Bool, ℕ, zero, suc, ◌+◌, ◌-◌, ◌<◌, ◌≤◌, List, [], ◌∷◌, ◌++◌, length, get_or, map, drop, inl, inr, refl, sym, ap, subst, ◌∙◌, arith}
use Rattle.std.specs.Prelude.{IsTrue}
use Rattle.std.specs.Cmp.Lexicographic.{slice_cmp}
use Rattle.std.specs.declared.cmp.Ordering.{Ordering}
use Rattle.std.specs.declared.cmp.Ordering.TheVariants.{Less, Equal, Greater}
use Rattle.std.specs.List.{AllAdjacentBelow}
use Rattle.std.specs.Ordering.{is_lt, nat_cmp}
use Rattle.std.proofs.lemmas.Cmp.{nat_list_cmp_total, tied_itself}
use Rattle.tsdb_fields.proofs.Order.{same_list}
use Rattle.tsdb_index.specs.declared.pointer.Pointer.{Pointer}
use Rattle.tsdb_index.specs.Entries.{AreInOrder}
use Rattle.tsdb_fields.specs.Order.{AreNamesBefore}
use Rattle.tsdb_index.specs.Parts.{next_names}

less_tested : (o : Ordering) (r : Bool) → r ≡ is_lt o → (IsTrue r → o ≡ Less) × (o ≡ Less → IsTrue r)
less_tested Less r is = (λ _. refl, λ _. is)
less_tested Equal r is = (λ t. absurd cc, λ e. absurd cc)
less_tested Greater r is = (λ t. absurd cc, λ e. absurd cc)

-- the devices are equal, and the measurements were compared
pub by_measurement : (a b c d : List ℕ) (o : Ordering) (r : Bool) → Equal ≡ slice_cmp nat_cmp a b → o ≡ slice_cmp nat_cmp c d → r ≡ is_lt o → (IsTrue r → AreNamesBefore (a, c) (b, d)) × (AreNamesBefore (a, c) (b, d) → IsTrue r)
by_measurement a b c d o r same is tested =
    let t = less_tested o r tested in
    (λ yes. inr (same_list a b (sym same), sym is ∙ t.0 yes), λ before. backward before)
  where
    backward : AreNamesBefore (a, c) (b, d) → IsTrue r
    backward (inl less) = let no_way : Equal ≡ Less = same ∙ less in absurd cc
    backward (inr less) = (less_tested o r tested).1 (is ∙ less.1)

-- the first device comes last
pub not_before : (a b c d : List ℕ) → Greater ≡ slice_cmp nat_cmp a b → AreNamesBefore (a, c) (b, d) → ⊥
not_before a b c d greater (inl less) = let no_way : Greater ≡ Less = greater ∙ less in absurd cc
not_before a b c d greater (inr less) =
    let tie : slice_cmp nat_cmp a b ≡ Equal = subst (λ (n : List ℕ). slice_cmp nat_cmp a n ≡ Equal) less.0 (tied_itself nat_list_cmp_total a) in
    let no_way : Greater ≡ Equal = greater ∙ tie in
    absurd cc

-- ---- by places and by neighbours

pub adjacent_tail : {A : Type 0} (R : A → A → Type 0) (x : A) (xs : List A) → AllAdjacentBelow R (x ∷ xs) (length (x ∷ xs)) → AllAdjacentBelow R xs (length xs)
adjacent_tail R x xs next k d l =
    let place : suc k + 1 ≡ suc (k + 1) = omega arith in
    subst (λ (n : ℕ). R (get_or (x ∷ xs) (suc k) d) (get_or (x ∷ xs) n d)) place (next (suc k) d (omega arith))

pub in_order : {A : Type 0} (R : A → A → Type 0) (xs : List A) → AllAdjacentBelow R xs (length xs) → AreInOrder R xs
in_order R [] next = tt
in_order R (x ∷ []) next = tt
in_order R (x ∷ y ∷ ys) next = (next 0 x (omega arith), in_order R (y ∷ ys) (adjacent_tail R x (y ∷ ys) next))

-- two neighbours that do not stand so
pub out_of_order : {A : Type 0} (R : A → A → Type 0) (xs : List A) (n : ℕ) (a b : A) → n + 1 < length xs → a ≡ get_or xs n a → b ≡ get_or xs (n + 1) b → (R a b → ⊥) → AreInOrder R xs → ⊥
out_of_order R [] n a b l is_a is_b none order = absurd (omega arith)
out_of_order R (x ∷ []) n a b l is_a is_b none order = absurd (omega arith)
out_of_order R (x ∷ y ∷ ys) zero a b l is_a is_b none order = none (subst (λ z. R z b) (sym is_a) (subst (λ z. R x z) (sym is_b) order.0))
out_of_order R (x ∷ y ∷ ys) (suc n) a b l is_a is_b none order =
    let place : suc n + 1 ≡ suc (n + 1) = omega arith in
    out_of_order R (y ∷ ys) n a b (omega arith) is_a (is_b ∙ ap (λ (m : ℕ). get_or (x ∷ y ∷ ys) m b) place) none order.1

pub not_neighbours : {A : Type 0} (R : A → A → Type 0) (xs : List A) (i : ℕ) (a b : A) → 1 ≤ i → i < length xs → a ≡ get_or xs (i - 1) a → b ≡ get_or xs i b → (R a b → ⊥) → AreInOrder R xs → ⊥
not_neighbours R xs i a b some l is_a is_b none order =
    let place : i - 1 + 1 ≡ i = omega arith in
    out_of_order R xs (i - 1) a b (omega arith) is_a (is_b ∙ ap (λ (n : ℕ). get_or xs n b) (sym place)) none order

pub order_map : {A B : Type 0} (R : B → B → Type 0) (f : A → B) (xs : List A) → AreInOrder (λ a b. R (f a) (f b)) xs → AreInOrder R (map f xs)
order_map R f [] order = tt
order_map R f (x ∷ []) order = tt
order_map R f (x ∷ y ∷ ys) order = (order.0, order_map R f (y ∷ ys) order.1)

pub order_of_map : {A B : Type 0} (R : B → B → Type 0) (f : A → B) (xs : List A) → AreInOrder R (map f xs) → AreInOrder (λ a b. R (f a) (f b)) xs
order_of_map R f [] order = tt
order_of_map R f (x ∷ []) order = tt
order_of_map R f (x ∷ y ∷ ys) order = (order.0, order_of_map R f (y ∷ ys) order.1)

-- ---- one list behind another

pub order_tail : {A : Type 0} (R : A → A → Type 0) (x : A) (xs : List A) → AreInOrder R (x ∷ xs) → AreInOrder R xs
order_tail R x [] order = tt
order_tail R x (y ∷ ys) order = order.1

-- in order up to an item and from it on
pub order_join : {A : Type 0} (R : A → A → Type 0) (xs : List A) (y : A) (ys : List A) → AreInOrder R (xs ++ y ∷ []) → AreInOrder R (y ∷ ys) → AreInOrder R (xs ++ y ∷ ys)
order_join R [] y ys front back = back
order_join R (x ∷ []) y ys front back = (front.0, back)
order_join R (x ∷ z ∷ zs) y ys front back = (front.0, order_join R (z ∷ zs) y ys front.1 back)

pub order_front : {A : Type 0} (R : A → A → Type 0) (xs : List A) (y : A) (ys : List A) → AreInOrder R (xs ++ y ∷ ys) → AreInOrder R (xs ++ y ∷ [])
order_front R [] y ys order = tt
order_front R (x ∷ []) y ys order = (order.0, tt)
order_front R (x ∷ z ∷ zs) y ys order = (order.0, order_front R (z ∷ zs) y ys order.1)

pub order_back : {A : Type 0} (R : A → A → Type 0) (xs ys : List A) → AreInOrder R (xs ++ ys) → AreInOrder R ys
order_back R [] ys order = order
order_back R (x ∷ xs) ys order = order_back R xs ys (order_tail R x (xs ++ ys) order)

pub order_left : {A : Type 0} (R : A → A → Type 0) (xs ys : List A) → AreInOrder R (xs ++ ys) → AreInOrder R xs
order_left R [] ys order = tt
order_left R (x ∷ []) ys order = tt
order_left R (x ∷ z ∷ zs) ys order = (order.0, order_left R (z ∷ zs) ys order.1)

-- the first item stands so to each later one
pub first_before : {A : Type 0} (R : A → A → Type 0) (trans : (a b c : A) → R a b → R b c → R a c) (x : A) (xs : List A) (y : A) → AreInOrder R (x ∷ (xs ++ y ∷ [])) → R x y
first_before R trans x [] y order = order.0
first_before R trans x (z ∷ zs) y order = trans x z y order.0 (first_before R trans z zs y order.1)

-- a list goes on in order where its last item does
pub order_from_end : {A B : Type 0} (R : B → B → Type 0) (f : A → B) (xs : List A) (ys : List B) → 0 < length xs → AreInOrder R (map f xs) → AreInOrder R (map f (drop (length xs - 1) xs) ++ ys) → AreInOrder R (map f xs ++ ys)
order_from_end R f [] ys some front end = absurd (omega arith)
order_from_end R f (x ∷ []) ys some front end = end
order_from_end R f (x ∷ z ∷ zs) ys some front end =
    let place : length (x ∷ z ∷ zs) - 1 ≡ suc (length (z ∷ zs) - 1) = omega arith in
    (front.0, order_from_end R f (z ∷ zs) ys (omega arith) front.1 (subst (λ (n : ℕ). AreInOrder R (map f (drop n (x ∷ z ∷ zs)) ++ ys)) place end))

pub end_in_order : {A B : Type 0} (R : B → B → Type 0) (f : A → B) (xs : List A) (ys : List B) → 0 < length xs → AreInOrder R (map f xs ++ ys) → AreInOrder R (map f (drop (length xs - 1) xs) ++ ys)
end_in_order R f [] ys some order = absurd (omega arith)
end_in_order R f (x ∷ []) ys some order = order
end_in_order R f (x ∷ z ∷ zs) ys some order =
    let place : suc (length (z ∷ zs) - 1) ≡ length (x ∷ z ∷ zs) - 1 = omega arith in
    subst (λ (n : ℕ). AreInOrder R (map f (drop n (x ∷ z ∷ zs)) ++ ys)) place (end_in_order R f (z ∷ zs) ys (omega arith) order.1)

-- the last item by itself
pub last_alone : {A : Type 0} (xs : List A) (d : A) → 0 < length xs → drop (length xs - 1) xs ≡ get_or xs (length xs - 1) d ∷ []
last_alone [] d some = absurd (omega arith)
last_alone (x ∷ []) d some = refl
last_alone (x ∷ z ∷ zs) d some =
    let place : length (x ∷ z ∷ zs) - 1 ≡ suc (length (z ∷ zs) - 1) = omega arith in
    ap (λ (n : ℕ). drop n (x ∷ z ∷ zs)) place ∙ last_alone (z ∷ zs) d (omega arith) ∙ ap (λ (n : ℕ). get_or (x ∷ z ∷ zs) n d ∷ []) (sym place)

pub lone_last : {A B : Type 0} (R : B → B → Type 0) (f : A → B) (xs : List A) (ys : List B) → 0 < length xs → ys ≡ [] → AreInOrder R (map f (drop (length xs - 1) xs) ++ ys)
lone_last R f [] ys some none = absurd (omega arith)
lone_last R f (x ∷ xs) ys some none = subst (λ zs. AreInOrder R (map f (drop (length (x ∷ xs) - 1) (x ∷ xs)) ++ zs)) (sym none)
    (subst (λ zs. AreInOrder R (map f zs ++ [])) (sym (last_alone (x ∷ xs) x some)) tt)

pub no_next : (behind : List Pointer) → length behind < 1 → next_names behind ≡ []
no_next [] none = refl
no_next (p ∷ ps) none = absurd (omega arith)
