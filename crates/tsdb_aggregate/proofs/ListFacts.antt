-- Pairs of items of a list, and items that a test lets through.
use Rattle.std.proofs.Common.{◌≡◌, ℕ, zero, suc, ◌+◌, ◌<◌, Bool, true, false, cond, List, [], ◌∷◌, ◌++◌, length, get_or, take, drop, ◌⊎◌, inl, inr, ⊎_elim, refl, sym, ap, ◌∙◌, subst, map, filter, arith}
use Rattle.std.specs.Prelude.{◌≢◌, All, AllPairs, Contains}
use Rattle.std.specs.List.{swap}
use Rattle.std.proofs.lemmas.Bool.{cases_eq}
use Rattle.std.proofs.lemmas.List.Edits.{swapped_from_swap, length-swap}
use Rattle.std.specs.List.Sorted.{IsPermutation}
use Rattle.std.proofs.Math.Seq.{drop-nil}
use Rattle.std.proofs.lemmas.List.Kept.{AllPairs-cons}
use Rattle.std.proofs.lemmas.List.{take-append-drop, take-take, drop-take}
use Rattle.std.proofs.lemmas.List.Elements.{All-append, All-map, Contains-append_left, Contains-append_right, All-nil, All-cons, All-head, All-tail, All-contains}
use Rattle.std.proofs.lemmas.List.Sorted.{IsPermutation-keeps}
use Rattle.tsdb_merge.proofs.MergeLemmas.{AllPairs-head, AllPairs-tail, AllPairs-nil, All-left, All-right, All-from_contains, Contains-head, Contains-tail, Contains-nil, Contains-cases}

pub AllPairs-left : {X : Type 0} (R : X → X → Type 0) (xs ys : List X) → AllPairs R (xs ++ ys) → AllPairs R xs
AllPairs-left R [] ys h = AllPairs-nil R
AllPairs-left R (x ∷ xs) ys h = AllPairs-cons R x xs (All-left (R x) xs ys (AllPairs-head R x (xs ++ ys) h)) (AllPairs-left R xs ys (AllPairs-tail R x (xs ++ ys) h))

pub AllPairs-right : {X : Type 0} (R : X → X → Type 0) (xs ys : List X) → AllPairs R (xs ++ ys) → AllPairs R ys
AllPairs-right R [] ys h = h
AllPairs-right R (x ∷ xs) ys h = AllPairs-right R xs ys (AllPairs-tail R x (xs ++ ys) h)

pub AllPairs-append : {X : Type 0} (R : X → X → Type 0) (xs ys : List X) → AllPairs R xs → AllPairs R ys → ((x y : X) → Contains xs x → Contains ys y → R x y) → AllPairs R (xs ++ ys)
AllPairs-append R [] ys hx hy f = hy
AllPairs-append R (x ∷ xs) ys hx hy f = AllPairs-cons R x (xs ++ ys)
    (All-append (R x) xs ys (AllPairs-head R x xs hx) (All-from_contains (R x) ys (λ y h. f x y (Contains-head x xs) h)))
    (AllPairs-append R xs ys (AllPairs-tail R x xs hx) hy (λ a b h k. f a b (Contains-tail x a xs h) k))

pub Contains-filter : {X : Type 0} (p : X → Bool) (xs : List X) (x : X) → Contains xs x → p x ≡ true → Contains (filter p xs) x
Contains-filter p [] x h e = absurd (Contains-nil x h)
Contains-filter p (y ∷ ys) x h e = ⊎_elim
    (λ (here : y ≡ x). let f : p y ≡ true = ap p here ∙ e in rw f (subst (λ z. Contains (y ∷ filter p ys) z) here (Contains-head y (filter p ys))))
    (λ there. later (p y) (Contains-filter p ys x there e))
    (Contains-cases y x ys h)
  where
    later : (b : Bool) → Contains (filter p ys) x → Contains (cond b (y ∷ filter p ys) (filter p ys)) x
    later true k = Contains-tail y x (filter p ys) k
    later false k = k

pub Contains-from_filter : {X : Type 0} (p : X → Bool) (xs : List X) (x : X) → Contains (filter p xs) x → Contains xs x
Contains-from_filter p [] x h = absurd (Contains-nil x h)
Contains-from_filter p (y ∷ ys) x h = step (p y) (λ k. Contains-from_filter p ys x k) h
  where
    step : (b : Bool) → (Contains (filter p ys) x → Contains ys x) → Contains (cond b (y ∷ filter p ys) (filter p ys)) x → Contains (y ∷ ys) x
    step true rest k = ⊎_elim (λ (here : y ≡ x). subst (λ z. Contains (y ∷ ys) z) here (Contains-head y ys)) (λ there. Contains-tail y x ys (rest there)) (Contains-cases y x (filter p ys) k)
    step false rest k = Contains-tail y x ys (rest k)

-- ---- pairs that stand in both orders

abbrev OffDiagonal : {X : Type 0} → (X → X → Type 0) → List X → Type 0
OffDiagonal {X} R xs = (i j : ℕ) (d : X) → i ≢ j → i < length xs → j < length xs → R (get_or xs i d) (get_or xs j d)

-- what stands at a place after an exchange stood at this place before
abbrev Moved : {X : Type 0} → List X → List X → ℕ → ℕ → ℕ → X → Type 0
Moved xs ys a b i d = (m : ℕ) × (m < length xs) × (get_or ys i d ≡ get_or xs m d) × (((i ≡ a) × (m ≡ b)) ⊎ (((i ≡ b) × (m ≡ a)) ⊎ ((i ≢ a) × (i ≢ b) × (m ≡ i))))

moved : {X : Type 0} (xs : List X) (a b i : ℕ) (d : X) → a < length xs → b < length xs → i < length xs → Moved xs (swap xs a b) a b i d
moved xs a b i d la lb li =
    let s = swapped_from_swap xs (swap xs a b) a b d la lb refl in
    ⊎_elim
    (λ (e : i ≡ a). (b, lb, ap (λ k. get_or (swap xs a b) k d) e ∙ s.0, inl (e, refl)))
    (λ n. ⊎_elim
    (λ (e : i ≡ b). (a, la, ap (λ k. get_or (swap xs a b) k d) e ∙ s.1, inr (inl (e, refl))))
    (λ m. (i, li, s.2 i n m, inr (inr (n, m, refl))))
    (cases_eq i b))
    (cases_eq i a)

apart_still : (i j m n a b : ℕ) → (((i ≡ a) × (m ≡ b)) ⊎ (((i ≡ b) × (m ≡ a)) ⊎ ((i ≢ a) × (i ≢ b) × (m ≡ i))))
    → (((j ≡ a) × (n ≡ b)) ⊎ (((j ≡ b) × (n ≡ a)) ⊎ ((j ≢ a) × (j ≢ b) × (n ≡ j)))) → i ≢ j → m ≢ n
apart_still i j m n a b (inl p) (inl q) d = λ e. d (p.0 ∙ sym q.0)
apart_still i j m n a b (inl p) (inr (inl q)) d = λ e. d (p.0 ∙ sym q.1 ∙ sym e ∙ p.1 ∙ sym q.0)
apart_still i j m n a b (inl p) (inr (inr q)) d = λ e. q.1 (sym q.2 ∙ sym e ∙ p.1)
apart_still i j m n a b (inr (inl p)) (inl q) d = λ e. d (p.0 ∙ sym q.1 ∙ sym e ∙ p.1 ∙ sym q.0)
apart_still i j m n a b (inr (inl p)) (inr (inl q)) d = λ e. d (p.0 ∙ sym q.0)
apart_still i j m n a b (inr (inl p)) (inr (inr q)) d = λ e. q.0 (sym q.2 ∙ sym e ∙ p.1)
apart_still i j m n a b (inr (inr p)) (inl q) d = λ e. p.1 (sym p.2 ∙ e ∙ q.1)
apart_still i j m n a b (inr (inr p)) (inr (inl q)) d = λ e. p.0 (sym p.2 ∙ e ∙ q.1)
apart_still i j m n a b (inr (inr p)) (inr (inr q)) d = λ e. d (sym p.2 ∙ e ∙ q.2)

off_diagonal_swap : {X : Type 0} (R : X → X → Type 0) (xs : List X) (a b : ℕ) → a < length xs → b < length xs → OffDiagonal R xs → OffDiagonal R (swap xs a b)
off_diagonal_swap R xs a b la lb h i j d n li lj =
    let same = length-swap xs a b in
    let p = moved xs a b i d la lb (omega (arith, same, li)) in
    let q = moved xs a b j d la lb (omega (arith, same, lj)) in
    rw (p.2, q.2) (h p.0 q.0 d (apart_still i j p.0 q.0 a b p.3 q.3 n) p.1 q.1)

pub AllPairs-permutation : {X : Type 0} (R : X → X → Type 0) → ((x y : X) → R x y → R y x) → (xs ys : List X) → IsPermutation xs ys → AllPairs R xs → AllPairs R ys
AllPairs-permutation R flip xs ys perm h =
    let off : OffDiagonal R xs = λ i j d n li lj. either R flip xs h i j d n li lj in
    let moved : OffDiagonal R ys = IsPermutation-keeps xs (OffDiagonal R) off (λ l a b la lb k. off_diagonal_swap R l a b la lb k) ys perm in
    λ i j d l m. moved i j d (λ e. absurd (omega (arith, e))) (omega arith) m
  where
    either : {X : Type 0} (R : X → X → Type 0) → ((x y : X) → R x y → R y x) → (xs : List X) → AllPairs R xs → OffDiagonal R xs
    either R flip xs h i j d n li lj = ⊎_elim (λ l. h i j d l lj) (λ l. flip (get_or xs j d) (get_or xs i d) (h j i d l li)) (order i j n)
      where
        order : (i j : ℕ) → i ≢ j → (i < j) ⊎ (j < i)
        order zero zero n = absurd (n refl)
        order zero (suc j) n = inl (omega arith)
        order (suc i) zero n = inr (omega arith)
        order (suc i) (suc j) n = ⊎_elim (λ l. inl (omega arith)) (λ l. inr (omega arith)) (order i j (λ e. n (ap (λ k. suc k) e)))

-- ---- a function of each item

pub All-of_map : {X Y : Type 0} (P : Y → Type 0) (f : X → Y) (xs : List X) → All P (map f xs) → All (λ x. P (f x)) xs
All-of_map P f [] h = All-nil (λ x. P (f x))
All-of_map P f (x ∷ xs) h = All-cons (λ x. P (f x)) x xs (All-head P (f x) (map f xs) h) (All-of_map P f xs (All-tail P (f x) (map f xs) h))

pub AllPairs-of_map : {X Y : Type 0} (R : Y → Y → Type 0) (f : X → Y) (xs : List X) → AllPairs R (map f xs) → AllPairs (λ x y. R (f x) (f y)) xs
AllPairs-of_map R f [] h = AllPairs-nil (λ x y. R (f x) (f y))
AllPairs-of_map R f (x ∷ xs) h = AllPairs-cons (λ x y. R (f x) (f y)) x xs (All-of_map (R (f x)) f xs (AllPairs-head R (f x) (map f xs) h)) (AllPairs-of_map R f xs (AllPairs-tail R (f x) (map f xs) h))

pub AllPairs-map : {X Y : Type 0} (R : Y → Y → Type 0) (f : X → Y) (xs : List X) → AllPairs (λ x y. R (f x) (f y)) xs → AllPairs R (map f xs)
AllPairs-map R f [] h = AllPairs-nil R
AllPairs-map R f (x ∷ xs) h = AllPairs-cons R (f x) (map f xs) (All-map (R (f x)) f xs (AllPairs-head (λ x y. R (f x) (f y)) x xs h)) (AllPairs-map R f xs (AllPairs-tail (λ x y. R (f x) (f y)) x xs h))

pub Contains-of_map : {X Y : Type 0} (f : X → Y) (xs : List X) (y : Y) → Contains (map f xs) y → (x : X) × Contains xs x × (f x ≡ y)
Contains-of_map f [] y h = absurd (Contains-nil y h)
Contains-of_map f (x ∷ xs) y h = ⊎_elim
    (λ here. (x, Contains-head x xs, here))
    (λ there. let rest = Contains-of_map f xs y there in (rest.0, Contains-tail x rest.0 xs rest.1, rest.2))
    (Contains-cases (f x) y (map f xs) h)

pub AllPairs-across : {X : Type 0} (R : X → X → Type 0) (xs ys : List X) → AllPairs R (xs ++ ys) → (x y : X) → Contains xs x → Contains ys y → R x y
AllPairs-across R [] ys h x y hx hy = absurd (Contains-nil x hx)
AllPairs-across R (z ∷ xs) ys h x y hx hy = ⊎_elim
    (λ (here : z ≡ x). subst (λ a. R a y) here (All-contains (R z) ys y (All-right (R z) xs ys (AllPairs-head R z (xs ++ ys) h)) hy))
    (λ there. AllPairs-across R xs ys (AllPairs-tail R z (xs ++ ys) h) x y there hy)
    (Contains-cases z x xs hx)

-- ---- parts of a list

pub take_two : {X : Type 0} (a b : ℕ) (xs : List X) → take (a + b) xs ≡ take a xs ++ take b (drop a xs)
take_two a b xs =
    let first : take a (take (a + b) xs) ≡ take a xs = take-take a (a + b) xs (omega arith) in
    sym (take-append-drop a (take (a + b) xs)) ∙ ap (λ ys. ys ++ drop a (take (a + b) xs)) first ∙ ap (λ ys. take a xs ++ ys) (drop-take a b xs)

pub drop_two : {X : Type 0} (a b : ℕ) (xs : List X) → drop (a + b) xs ≡ drop b (drop a xs)
drop_two zero b xs = let e : 0 + b ≡ b = omega arith in ap (λ n. drop n xs) e
drop_two (suc a) b [] = drop-nil (suc a + b) ∙ sym (drop-nil b)
drop_two (suc a) b (x ∷ xs) = let e : suc a + b ≡ suc (a + b) = omega arith in ap (λ n. drop n (x ∷ xs)) e ∙ drop_two a b xs

pub Contains-from_take : {X : Type 0} (n : ℕ) (xs : List X) (x : X) → Contains (take n xs) x → Contains xs x
Contains-from_take n xs x h = subst (λ ys. Contains ys x) (take-append-drop n xs) (Contains-append_left (take n xs) (drop n xs) x h)

pub Contains-from_drop : {X : Type 0} (n : ℕ) (xs : List X) (x : X) → Contains (drop n xs) x → Contains xs x
Contains-from_drop n xs x h = subst (λ ys. Contains ys x) (take-append-drop n xs) (Contains-append_right (take n xs) (drop n xs) x h)
