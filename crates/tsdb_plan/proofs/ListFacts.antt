-- What holds of some item, of each item, and of each pair of items of a list with one item more in front.
use Rattle.std.proofs.Common.{zero, suc, List, [], ◌∷◌, ◌++◌, ◌⊎◌, inl, inr, refl, sym, subst, ⊎_elim, arith}
use Rattle.std.specs.Prelude.{All, Any, AllPairs}

pub Any-nil : {X : Type 0} (P : X → Type 0) → Any P [] → ⊥
Any-nil P h = omega (arith, h.2)

pub Any-head : {X : Type 0} (P : X → Type 0) (x : X) (xs : List X) → P x → Any P (x ∷ xs)
Any-head P x xs h = (0, x, omega arith, refl, h)

pub Any-tail : {X : Type 0} (P : X → Type 0) (x : X) (xs : List X) → Any P xs → Any P (x ∷ xs)
Any-tail P x xs h = (suc h.0, h.1, omega (arith, h.2), h.3, h.4)

pub Any-cases : {X : Type 0} (P : X → Type 0) (x : X) (xs : List X) → Any P (x ∷ xs) → P x ⊎ Any P xs
Any-cases P x xs (zero, y, l, e, h) = inl (subst P (sym e) h)
Any-cases P x xs (suc k, y, l, e, h) = inr (k, y, omega arith, e, h)

pub Any-weaker : {X : Type 0} (P Q : X → Type 0) → ((x : X) → P x → Q x) → (xs : List X) → Any P xs → Any Q xs
Any-weaker P Q f xs (k, x, l, e, h) = (k, x, l, e, f x h)

pub Any-left : {X : Type 0} (P : X → Type 0) (xs ys : List X) → Any P xs → Any P (xs ++ ys)
Any-left P [] ys h = absurd (Any-nil P h)
Any-left P (x ∷ xs) ys h = ⊎_elim (λ here. Any-head P x (xs ++ ys) here) (λ there. Any-tail P x (xs ++ ys) (Any-left P xs ys there)) (Any-cases P x xs h)

pub Any-right : {X : Type 0} (P : X → Type 0) (xs ys : List X) → Any P ys → Any P (xs ++ ys)
Any-right P [] ys h = h
Any-right P (x ∷ xs) ys h = Any-tail P x (xs ++ ys) (Any-right P xs ys h)

pub Any-append : {X : Type 0} (P : X → Type 0) (xs ys : List X) → Any P (xs ++ ys) → Any P xs ⊎ Any P ys
Any-append P [] ys h = inr h
Any-append P (x ∷ xs) ys h =
    ⊎_elim (λ here. inl (Any-head P x xs here)) (λ there. ⊎_elim (λ l. inl (Any-tail P x xs l)) (λ r. inr r) (Any-append P xs ys there)) (Any-cases P x (xs ++ ys) h)

-- what each item has, some item has that has another thing too
pub Any-with_All : {X : Type 0} (P Q R : X → Type 0) → ((x : X) → P x → Q x → R x) → (xs : List X) → All P xs → Any Q xs → Any R xs
Any-with_All P Q R f xs all (k, x, l, e, h) = (k, x, l, e, f x (subst P e (all k x l)) h)

pub AllPairs-head : {X : Type 0} (R : X → X → Type 0) (x : X) (xs : List X) → AllPairs R (x ∷ xs) → All (R x) xs
AllPairs-head R x xs h = λ k d l. h 0 (suc k) d (omega arith) (omega arith)

pub AllPairs-tail : {X : Type 0} (R : X → X → Type 0) (x : X) (xs : List X) → AllPairs R (x ∷ xs) → AllPairs R xs
AllPairs-tail R x xs h = λ i j d l m. h (suc i) (suc j) d (omega arith) (omega arith)
