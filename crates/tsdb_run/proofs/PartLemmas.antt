-- What stands at the beginning of words, and what does not.
use Rattle.std.proofs.Common.{◌≡◌, ◌≢◌, ℕ, ◌-◌, ◌<◌, ◌≤◌, true≢false, Bool, false, Option, None, Some, List, [], ◌∷◌, ◌++◌, length, take, drop, get_or, inl, inr, sym, ap, ◌∙◌, arith, subst, codes, append-nil, length-append, take_all}
use Rattle.std.specs.Prelude.{◌↔◌, IfNone, IsTrue}
use Rattle.std.proofs.lemmas.List.{append_cancel_left}
use Rattle.tsdb_run.specs.Words.{HasDigits, IsDirectory, IsNumber, IsOption, IsArgument, Argument, Directory, Pair, Workers, End}

-- ---- an option

pub apart : (words behind rest : List (List ℕ)) (first name tail digits : List ℕ) → words ≡ first ∷ behind → first ≡ name ++ tail → length tail < 1
    → behind ≡ digits ∷ rest → HasDigits name digits words rest
apart words behind rest first name [] digits w f empty b =
    inl (w ∙ ap (λ x. x ∷ behind) (f ∙ append-nil name) ∙ ap (λ l. name ∷ l) b)
apart words behind rest first name (c ∷ tail) digits w f empty b = absurd (omega (arith, empty))

behind_first : (tail : List ℕ) → 1 ≤ length tail → get_or tail 0 0 ≡ 61 → tail ≡ 61 ∷ take (length tail - 1) (drop 1 tail)
behind_first [] some is = absurd (omega (arith, some))
behind_first (c ∷ tail) some is = ap (λ b. b ∷ tail) is ∙ ap (λ l. 61 ∷ l) (sym (take_all (length (c ∷ tail) - 1) tail (omega arith)))

pub joined : (words behind : List (List ℕ)) (first name tail : List ℕ) → words ≡ first ∷ behind → first ≡ name ++ tail → 1 ≤ length tail
    → get_or tail 0 0 ≡ 61 → HasDigits name (take (length tail - 1) (drop 1 tail)) words behind
joined words behind first name tail w f some is =
    inr (w ∙ ap (λ x. x ∷ behind) (f ∙ ap (λ t. name ++ t) (behind_first tail some is)))

-- a word that does not begin with the name
pub no_name : (words behind : List (List ℕ)) (first name : List ℕ) → words ≡ first ∷ behind → ((tail : List ℕ) → first ≢ name ++ tail)
    → (digits : List ℕ) (rest : List (List ℕ)) → ¬ HasDigits name digits words rest
no_name words behind first name w other digits rest (inl e) = let same : first ≡ name = cc in other [] (same ∙ sym (append-nil name))
no_name words behind first name w other digits rest (inr e) = let same : first ≡ name ++ 61 ∷ digits = cc in other (61 ∷ digits) same

longer : (name digits : List ℕ) → name ≡ name ++ 61 ∷ digits → ⊥
longer name digits e = omega (arith, ap length e, length-append name (61 ∷ digits))

-- the digits of an option are in one place
pub one_digits : (name digits other : List ℕ) (words rest more : List (List ℕ)) → HasDigits name digits words rest → HasDigits name other words more
    → (digits ≡ other) × (rest ≡ more)
one_digits name digits other words rest more (inl a) (inl b) = (cc, cc)
one_digits name digits other words rest more (inl a) (inr b) = let same : name ≡ name ++ 61 ∷ other = cc in absurd (longer name other same)
one_digits name digits other words rest more (inr a) (inl b) = let same : name ≡ name ++ 61 ∷ digits = cc in absurd (longer name digits same)
one_digits name digits other words rest more (inr a) (inr b) =
    let same : name ++ 61 ∷ digits ≡ name ++ 61 ∷ other = cc in
    let after : 61 ∷ digits ≡ 61 ∷ other = append_cancel_left name (61 ∷ digits) (61 ∷ other) same in
    (cc, cc)

-- digits that are no number
pub no_number : (name digits : List ℕ) (words rest : List (List ℕ)) → HasDigits name digits words rest → ((number : ℕ) → ¬ IsNumber digits number)
    → (number : ℕ) (more : List (List ℕ)) → ¬ IsOption name number words more
no_number name digits words rest here none number more is =
    none number (subst (λ l. IsNumber l number) (sym (one_digits name digits is.0 words rest more here is.2).0) is.1)

-- ---- a part

-- words that begin with none of the four parts
pub no_part : (words behind : List (List ℕ)) (first : List ℕ) (directory end : Bool) → words ≡ first ∷ behind
    → (IsTrue directory ↔ IsDirectory first) → directory ≡ false → (IsTrue end ↔ (first ≡ codes "--")) → end ≡ false
    → ((number : ℕ) (rest : List (List ℕ)) → ¬ IsArgument (Pair number) words rest)
    → ((number : ℕ) (rest : List (List ℕ)) → ¬ IsArgument (Workers number) words rest)
    → (part : Argument) (rest : List (List ℕ)) → ¬ IsArgument part words rest
no_part words behind first directory end w a no_directory b no_end pair workers (Directory word) rest is =
    let same : word ≡ first = let e = is.1 in cc in
    true≢false (sym (a.1 (subst (λ d. IsDirectory d) same is.0)) ∙ no_directory)
no_part words behind first directory end w a no_directory b no_end pair workers (Pair number) rest is = pair number rest is
no_part words behind first directory end w a no_directory b no_end pair workers (Workers number) rest is = workers number rest is
no_part words behind first directory end w a no_directory b no_end pair workers End rest is =
    let same : first ≡ codes "--" = cc in
    true≢false (sym (b.1 same) ∙ no_end)

pub if_none : {A P Q : Type 0} (found : Option A) → (P → Q) → IfNone found P → IfNone found Q
if_none None then p = then p
if_none (Some x) then p = tt
