-- Words one after another, of which one may be bad.
use Rattle.std.proofs.Common.{◌≡◌, ℕ, suc, ◌+◌, ◌<◌, List, [], ◌∷◌, ◌++◌, length, get_or, take, drop, map, Result, Ok, Err, refl, sym, ap, subst, ◌∙◌, append_assoc, add-one, take-suc, drop-cons}
use Rattle.std.specs.Prelude.{IfErr}
use Rattle.std.specs.List.{AllByRecursion, AllZip, flat_map}
use Rattle.std.specs.Result.{IsErrAnd}
use Rattle.std.proofs.lemmas.List.{map-append, take-append-drop}
use Rattle.std.proofs.lemmas.Grind.{flat_map-append}
use Rattle.tsdb_script.specs.Types.{LineFault}
use Rattle.tsdb_script.specs.declared.fault.LineFault.TheVariants.{Bad, Memory}
use Rattle.tsdb_script.specs.Meaning.{HasBadWord, IsBadWord, IsGood, Role}
use Rattle.tsdb_script.specs.Steps.{FaultsWith}

pub AllByRecursion-append : {A : Type 0} (P : A → Type 0) (xs ys : List A) → AllByRecursion P xs → AllByRecursion P ys → AllByRecursion P (xs ++ ys)
AllByRecursion-append P [] ys all_xs all_ys = all_ys
AllByRecursion-append P (x ∷ xs) ys all_xs all_ys = (all_xs.0, AllByRecursion-append P xs ys all_xs.1 all_ys)

-- which of two places of a list stands first
pub data Order {X : Type 0} (front : List X) (x : X) (before : List X) (y : X) : Type 0 where
  earlier : (more : List X) → before ≡ front ++ x ∷ more → Order front x before y
  later : (more : List X) → front ≡ before ++ y ∷ more → Order front x before y
  same_place : front ≡ before → x ≡ y → Order front x before y

pub order : {X : Type 0} (a : List X) (x : X) (xs b : List X) (y : X) (ys : List X) → a ++ x ∷ xs ≡ b ++ y ∷ ys → Order a x b y
order [] x xs [] y ys e = same_place refl cc
order [] x xs (c ∷ b) y ys e = let first : x ≡ c = cc in earlier b (ap (λ (z : _). z ∷ b) (sym first))
order (c ∷ a) x xs [] y ys e = let first : c ≡ y = cc in later a (ap (λ (z : _). z ∷ a) first)
order (c ∷ a) x xs (d ∷ b) y ys e =
    let first : c ≡ d = cc in
    let rest : a ++ x ∷ xs ≡ b ++ y ∷ ys = cc in
    elim (order a x xs b y ys rest) [
      | earlier more is ↦ earlier more (ap (λ (z : _). z ∷ b) (sym first) ∙ ap (λ l. c ∷ l) is)
      | later more is ↦ later more (ap (λ (z : _). z ∷ a) first ∙ ap (λ l. d ∷ l) is)
      | same_place fronts is ↦ same_place (ap (λ (z : _). z ∷ a) first ∙ ap (λ l. d ∷ l) fronts) is
    ]

-- the word behind good ones is bad
pub bad_behind : (before : List Role) (word : Role) (behind : List Role) (kind : ℕ) → AllByRecursion IsGood before → IsBadWord word kind → HasBadWord (before ++ word ∷ behind) kind
bad_behind before word behind kind good bad =
    record { before = before; word = word; behind = behind; stands = refl; good = good; bad = bad.0; decides = bad.1 }

-- a bad word among the words behind good ones
pub bad_later : (before words : List Role) (kind : ℕ) → AllByRecursion IsGood before → HasBadWord words kind → HasBadWord (before ++ words) kind
bad_later before words kind good h = record {
  before = before ++ h.before;
  word = h.word;
  behind = h.behind;
  stands = ap (λ (ws : List Role). before ++ ws) h.stands ∙ sym (append_assoc before h.before (h.word ∷ h.behind));
  good = AllByRecursion-append IsGood before h.before good h.good;
  bad = h.bad;
  decides = h.decides;
}

-- a bad word, whatever stands behind
pub bad_earlier : (words behind : List Role) (kind : ℕ) → HasBadWord words kind → HasBadWord (words ++ behind) kind
bad_earlier words behind kind h = record {
  before = h.before;
  word = h.word;
  behind = h.behind ++ behind;
  stands = ap (λ (ws : List Role). ws ++ behind) h.stands ∙ append_assoc h.before (h.word ∷ h.behind) behind;
  good = h.good;
  bad = h.bad;
  decides = h.decides;
}

widened : (P Q : ℕ → Type 0) → ((kind : ℕ) → P kind → Q kind) → (e : LineFault) → FaultsWith P e → FaultsWith Q e
widened P Q step (Bad kind) h = step kind h
widened P Q step Memory h = tt

-- a fault that is passed on by `?`
pub passed_on : {T : Type 0} (P Q : ℕ → Type 0) (r : Result T LineFault) (e : LineFault) → IsErrAnd r (λ y. y ≡ e) → FaultsWith P e → ((kind : ℕ) → P kind → Q kind) → IfErr r (FaultsWith Q)
passed_on P Q (Ok x) e passed bad step = absurd passed
passed_on P Q (Err y) e passed bad step = subst (FaultsWith Q) (sym passed) (widened P Q step e bad)

split_at : {X : Type 0} (xs : List X) (i : ℕ) (x : X) → i < length xs → x ≡ get_or xs i x → xs ≡ take i xs ++ x ∷ drop (suc i) xs
split_at xs i x lt e = sym (take-append-drop i xs) ∙ ap (λ (t : List _). take i xs ++ t) (drop-cons xs i x lt ∙ ap (λ y. y ∷ drop (suc i) xs) (sym e))

-- the word of one item is bad, and those before it are good
pub bad_at : {X : Type 0} (f : X → Role) (xs : List X) (i : ℕ) (x : X) (kind : ℕ) → i < length xs → x ≡ get_or xs i x
    → AllByRecursion IsGood (map f (take i xs)) → IsBadWord (f x) kind → HasBadWord (map f xs) kind
bad_at f xs i x kind lt e good bad =
    subst (λ (ws : List _). HasBadWord (map f ws) kind) (sym (split_at xs i x lt e))
    (subst (λ ws. HasBadWord ws kind) (sym (map-append f (take i xs) (x ∷ drop (suc i) xs))) (bad_behind (map f (take i xs)) (f x) (map f (drop (suc i) xs)) kind good bad))

-- a word of one item is bad, and those of the items before it are good
pub bad_among : {X : Type 0} (f : X → List Role) (xs : List X) (i : ℕ) (x : X) (kind : ℕ) → i < length xs → x ≡ get_or xs i x
    → AllByRecursion IsGood (flat_map f (take i xs)) → HasBadWord (f x) kind → HasBadWord (flat_map f xs) kind
bad_among f xs i x kind lt e good bad =
    subst (λ (ws : List _). HasBadWord (flat_map f ws) kind) (sym (split_at xs i x lt e))
    (subst (λ ws. HasBadWord ws kind) (sym (flat_map-append f (take i xs) (x ∷ drop (suc i) xs)))
    (bad_later (flat_map f (take i xs)) (f x ++ flat_map f (drop (suc i) xs)) kind good (bad_earlier (f x) (flat_map f (drop (suc i) xs)) kind bad)))

pub next : {X : Type 0} (xs : List X) (i : ℕ) (x : X) → i < length xs → x ≡ get_or xs i x → take (i + 1) xs ≡ take i xs ++ x ∷ []
next xs i x lt e = rw (add-one, take-suc xs i x lt, ← e) refl

-- one item more, whose word is good
pub good_next : {X : Type 0} (f : X → Role) (xs : List X) (i : ℕ) (x : X) → i < length xs → x ≡ get_or xs i x
    → AllByRecursion IsGood (map f (take i xs)) → IsGood (f x) → AllByRecursion IsGood (map f (take (i + 1) xs))
good_next f xs i x lt e all good = rw (next xs i x lt e, map-append) (AllByRecursion-append IsGood (map f (take i xs)) (f x ∷ []) all (good, tt))

-- one item more, whose words are good
pub good_among : {X : Type 0} (f : X → List Role) (xs : List X) (i : ℕ) (x : X) → i < length xs → x ≡ get_or xs i x
    → AllByRecursion IsGood (flat_map f (take i xs)) → AllByRecursion IsGood (f x) → AllByRecursion IsGood (flat_map f (take (i + 1) xs))
good_among f xs i x lt e all good =
    rw (next xs i x lt e, flat_map-append) (AllByRecursion-append IsGood (flat_map f (take i xs)) (f x ++ []) all (AllByRecursion-append IsGood (f x) [] good tt))

AllZip-snoc : {A B : Type 0} (Is : A → B → Type 0) (xs : List A) (ys : List B) (x : A) (y : B) → AllZip Is xs ys → Is x y → AllZip Is (xs ++ x ∷ []) (ys ++ y ∷ [])
AllZip-snoc Is [] [] x y each is = (is, tt)
AllZip-snoc Is (a ∷ xs) (b ∷ ys) x y each is = (each.0, AllZip-snoc Is xs ys x y each.1 is)
AllZip-snoc Is xs ys x y each is = absurd each

-- one item more on each side
pub each_next : {A B : Type 0} (Is : A → B → Type 0) (xs : List A) (i : ℕ) (x : A) (ys new : List B) (y : B) → i < length xs → x ≡ get_or xs i x
    → AllZip Is (take i xs) ys → Is x y → new ≡ ys ++ y ∷ [] → AllZip Is (take (i + 1) xs) new
each_next Is xs i x ys new y lt e each is grown = rw (next xs i x lt e, grown) (AllZip-snoc Is (take i xs) ys x y each is)

pub AllByRecursion-split : {A : Type 0} (P : A → Type 0) (xs ys : List A) → AllByRecursion P (xs ++ ys) → AllByRecursion P xs × AllByRecursion P ys
AllByRecursion-split P [] ys all = (tt, all)
AllByRecursion-split P (x ∷ xs) ys all = let parts = AllByRecursion-split P xs ys all.1 in ((all.0, parts.0), parts.1)
