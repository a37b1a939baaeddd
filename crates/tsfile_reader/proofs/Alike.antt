-- Two lists of entries, which are the same up to some place.
use Rattle.std.proofs.Common.{◌≡◌, ◌≢◌, ℕ, zero, suc, ◌≤◌, List, [], ◌∷◌, ◌++◌, length, take, drop, get_or, refl, sym, ap, ◌∙◌, arith}
use Rattle.std.specs.Prelude.{min}
use Rattle.std.proofs.lemmas.List.{append_cancel_left, length-append, length-drop, length-take-le, take-append-drop}
use Rattle.tsdb_index.specs.declared.index.IndexEntry.{IndexEntry}
use Rattle.tsfile_reader.specs.Blame.{AreAlike}

pub record SameUpTo (es ss : List IndexEntry) (i : ℕ) : Type 0 where
  pub low_es : i ≤ length es
  pub low_ss : i ≤ length ss
  pub same : take i es ≡ take i ss

first_of_drop : (es : List IndexEntry) (i : ℕ) (x d : IndexEntry) (xs : List IndexEntry) → drop i es ≡ x ∷ xs → get_or es i d ≡ x
first_of_drop [] zero x d xs is = absurd cc
first_of_drop [] (suc i) x d xs is = absurd cc
first_of_drop (e ∷ es) zero x d xs is = cc
first_of_drop (e ∷ es) (suc i) x d xs is = first_of_drop es i x d xs is

alike_up_to : (es ss : List IndexEntry) (i : ℕ) → SameUpTo es ss i → ((x y : IndexEntry) (xs ys : List IndexEntry) → drop i es ≡ x ∷ xs → drop i ss ≡ y ∷ ys → x ≢ y) → AreAlike es ss i
alike_up_to es ss i so_far apart = record {
  same = take i es;
  others = drop i es;
  others_said = drop i ss;
  entries_are = sym (take-append-drop i es);
  said_are = sym (take-append-drop i ss) ∙ ap (λ (l : List IndexEntry). l ++ drop i ss) (sym so_far.same);
  number = length-take-le i es so_far.low_es;
  apart = apart;
}

-- the entries at this place differ
pub alike_to : (es ss : List IndexEntry) (i : ℕ) (x y : IndexEntry) → SameUpTo es ss i → x ≡ get_or es i x → y ≡ get_or ss i y → x ≢ y → AreAlike es ss i
alike_to es ss i x y so_far at_x at_y differ =
    alike_up_to es ss i so_far (λ a b as_ bs is_a is_b same.
    let x_is : x ≡ a = at_x ∙ first_of_drop es i a x as_ is_a in
    let y_is : y ≡ b = at_y ∙ first_of_drop ss i b y bs is_b in
    differ (x_is ∙ same ∙ sym y_is))

-- one of the lists ends
pub alike_all : (es ss : List IndexEntry) (i : ℕ) → SameUpTo es ss i → i ≡ min (length es) (length ss) → AreAlike es ss i
alike_all es ss i so_far end =
    alike_up_to es ss i so_far (λ a b as_ bs is_a is_b same.
    let n = ap length is_a in
    let m = ap length is_b in
    let p = length-drop i es in
    let q = length-drop i ss in
    absurd (omega (arith, n, m, p, q, end)))

-- lists that are one are alike to their end
pub ends_alike : (es ss : List IndexEntry) (i : ℕ) → AreAlike es ss i → es ≡ ss → (i ≡ length es) × (i ≡ length ss)
ends_alike es ss i alike same =
    let rests = append_cancel_left alike.same alike.others alike.others_said (sym alike.entries_are ∙ same ∙ alike.said_are) in
    let nil = no_others alike.others alike.others_said rests alike.apart in
    let number = alike.number in
    let n = ap length alike.entries_are in
    let m = ap length alike.said_are in
    let p = length-append alike.same alike.others in
    let q = length-append alike.same alike.others_said in
    let none_e = ap length nil.0 in
    let none_s = ap length nil.1 in
    (omega (arith, number, n, p, none_e), omega (arith, number, m, q, none_s))
  where
    no_others : (xs ys : List IndexEntry) → xs ≡ ys → ((x y : IndexEntry) (as_ bs : List IndexEntry) → xs ≡ x ∷ as_ → ys ≡ y ∷ bs → x ≢ y) → (xs ≡ []) × (ys ≡ [])
    no_others [] [] same apart = (refl, refl)
    no_others [] (y ∷ ys) same apart = absurd cc
    no_others (x ∷ xs) [] same apart = absurd cc
    no_others (x ∷ xs) (y ∷ ys) same apart =
        let one : x ≡ y = cc in
        absurd (apart x y xs ys refl refl one)
