-- The merge of two lists: what it has, and that it is the merge of all lists of both sides.
use Rattle.std.proofs.Common.{◌≡◌, zero, suc, Bool, true, false, cond, List, [], ◌∷◌, ◌++◌, get_or, ◌⊎◌, inl, inr, ⊎_elim, refl, sym, ap, ◌∙◌, subst, arith}
use Rattle.std.specs.Prelude.{ℤ, ◌≢◌, ◌<ℤ◌, ◌≤ℤ◌, int_lt, All, AllPairs, Contains}
use Rattle.std.proofs.lemmas.Int.{by_lt_z, ints}
use Rattle.std.proofs.lemmas.List.{get_or_default}
use Rattle.std.proofs.lemmas.List.Kept.{AllPairs-cons}
use Rattle.std.proofs.lemmas.List.Elements.{All-nil, All-cons, All-head, All-tail, All-append, All-weaker, All-contains, Contains-append_left, Contains-append_right}
use Rattle.tsdb_base.specs.declared.point.Point.{Point}
use Rattle.tsdb_base.specs.Points.{IsRising}
use Rattle.tsdb_merge.specs.Winners.{HasNoneAt, IsWinner, IsMergeOf}
use Rattle.tsdb_merge.specs.Steps.{merge_two, merge_from}

abbrev IsBefore : Point → Point → Type 0
IsBefore a b = a.time <ℤ b.time

-- ---- lists by their first item

pub Contains-head : {X : Type 0} (x : X) (xs : List X) → Contains (x ∷ xs) x
Contains-head x xs = (0, omega arith, refl)

pub Contains-tail : {X : Type 0} (x y : X) (xs : List X) → Contains xs y → Contains (x ∷ xs) y
Contains-tail x y xs (k, l, e) = (suc k, omega arith, e)

pub Contains-nil : {X : Type 0} (y : X) → Contains [] y → ⊥
Contains-nil y (k, l, e) = omega arith

pub Contains-cases : {X : Type 0} (x y : X) (xs : List X) → Contains (x ∷ xs) y → (x ≡ y) ⊎ Contains xs y
Contains-cases x y xs (zero, l, e) = inl e
Contains-cases x y xs (suc k, l, e) = inr (k, omega arith, e)

pub All-from_contains : {X : Type 0} (P : X → Type 0) (xs : List X) → ((x : X) → Contains xs x → P x) → All P xs
All-from_contains P xs f k d l = f (get_or xs k d) (k, l, get_or_default xs k (get_or xs k d) d l)

pub AllPairs-head : {X : Type 0} (R : X → X → Type 0) (x : X) (xs : List X) → AllPairs R (x ∷ xs) → All (R x) xs
AllPairs-head R x xs h = λ k d l. h 0 (suc k) d (omega arith) (omega arith)

pub AllPairs-tail : {X : Type 0} (R : X → X → Type 0) (x : X) (xs : List X) → AllPairs R (x ∷ xs) → AllPairs R xs
AllPairs-tail R x xs h = λ i j d l m. h (suc i) (suc j) d (omega arith) (omega arith)

pub AllPairs-nil : {X : Type 0} (R : X → X → Type 0) → AllPairs R []
AllPairs-nil R i j d l m = absurd (omega arith)

pub All-left : {X : Type 0} (P : X → Type 0) (xs ys : List X) → All P (xs ++ ys) → All P xs
All-left P xs ys all = All-from_contains P xs (λ x h. All-contains P (xs ++ ys) x all (Contains-append_left xs ys x h))

pub All-right : {X : Type 0} (P : X → Type 0) (xs ys : List X) → All P (xs ++ ys) → All P ys
All-right P xs ys all = All-from_contains P ys (λ x h. All-contains P (xs ++ ys) x all (Contains-append_right xs ys x h))

-- ---- the two lists

-- by the cases of the merge
module _ (M : List Point → List Point → List Point → Type 0)
    (none : (ys : List Point) → M [] ys ys)
    (one : (x : Point) (xs : List Point) → M (x ∷ xs) [] (x ∷ xs))
    (less : (x : Point) (xs : List Point) (y : Point) (ys out : List Point) → int_lt x.time y.time ≡ true → M xs (y ∷ ys) out → M (x ∷ xs) (y ∷ ys) (x ∷ out))
    (more : (x : Point) (xs : List Point) (y : Point) (ys out : List Point) → int_lt y.time x.time ≡ true → M (x ∷ xs) ys out → M (x ∷ xs) (y ∷ ys) (y ∷ out))
    (same : (x : Point) (xs : List Point) (y : Point) (ys out : List Point) → int_lt x.time y.time ≡ false → int_lt y.time x.time ≡ false → M xs ys out → M (x ∷ xs) (y ∷ ys) (y ∷ out)) where
  pick : (x : Point) (xs : List Point) (y : Point) (ys a b c : List Point) (p q : Bool) → int_lt x.time y.time ≡ p → int_lt y.time x.time ≡ q → M xs (y ∷ ys) a → M (x ∷ xs) ys b → M xs ys c → M (x ∷ xs) (y ∷ ys) (cond p (x ∷ a) (cond q (y ∷ b) (y ∷ c)))
  pick x xs y ys a b c true q e f ma mb mc = less x xs y ys a e ma
  pick x xs y ys a b c false true e f ma mb mc = more x xs y ys b f mb
  pick x xs y ys a b c false false e f ma mb mc = same x xs y ys c e f mc

  from_cases : (x : Point) (xs : List Point) → ((zs : List Point) → M xs zs (merge_two xs zs)) → (ys : List Point) → M (x ∷ xs) ys (merge_from x xs (merge_two xs) ys)
  from_cases x xs rest [] = one x xs
  from_cases x xs rest (y ∷ ys) = pick x xs y ys (merge_two xs (y ∷ ys)) (merge_from x xs (merge_two xs) ys) (merge_two xs ys) (int_lt x.time y.time) (int_lt y.time x.time) refl refl (rest (y ∷ ys)) (from_cases x xs rest ys) (rest ys)

  pub merge_cases : (xs ys : List Point) → M xs ys (merge_two xs ys)
  merge_cases [] ys = none ys
  merge_cases (x ∷ xs) ys = from_cases x xs (λ zs. merge_cases xs zs) ys

-- the order of times, as a test and as a fact
lt_from : (a b : ℤ) → int_lt a b ≡ true → a <ℤ b
lt_from a b e = grind (arith, ints)

ge_from : (a b : ℤ) → int_lt a b ≡ false → b ≤ℤ a
ge_from a b e = grind (arith, ints)

-- all of a rising list is behind what is before its first point
all_behind : (t : ℤ) (y : Point) (ys : List Point) → t <ℤ y.time → IsRising (y ∷ ys) → All (λ p. t <ℤ p.time) (y ∷ ys)
all_behind t y ys l rising = All-cons (λ p. t <ℤ p.time) y ys l (All-weaker (IsBefore y) (λ p. t <ℤ p.time) (λ p m. omega (arith, ints)) ys (AllPairs-head IsBefore y ys rising))

none_behind : (t : ℤ) (ys : List Point) → All (λ p. t <ℤ p.time) ys → HasNoneAt t ys
none_behind t ys all = All-weaker (λ p. t <ℤ p.time) (λ p. p.time ≢ t) (λ p l e. absurd (omega (arith, ints))) ys all

-- what the merge of two rising lists has
pub record MergesTwo (xs ys out : List Point) : Type 0 where
  pub from : (p : Point) → Contains out p → Contains ys p ⊎ (Contains xs p × HasNoneAt p.time ys)
  pub high : (p : Point) → Contains ys p → Contains out p
  pub low : (p : Point) → Contains xs p → HasNoneAt p.time ys → Contains out p
  pub rising : IsRising out

abbrev WhereRising : List Point → List Point → List Point → Type 0
WhereRising xs ys out = IsRising xs → IsRising ys → MergesTwo xs ys out

case_none : (ys : List Point) → WhereRising [] ys ys
case_none ys rx ry = record { from = λ p h. inl h; high = λ p h. h; low = λ p h n. absurd (Contains-nil p h); rising = ry }

case_one : (x : Point) (xs : List Point) → WhereRising (x ∷ xs) [] (x ∷ xs)
case_one x xs rx ry = record { from = λ p h. inr (h, All-nil (λ q. q.time ≢ p.time)); high = λ p h. absurd (Contains-nil p h); low = λ p h n. h; rising = rx }

case_less : (x : Point) (xs : List Point) (y : Point) (ys out : List Point) → int_lt x.time y.time ≡ true → WhereRising xs (y ∷ ys) out → WhereRising (x ∷ xs) (y ∷ ys) (x ∷ out)
case_less x xs y ys out e merge rx ry =
    let m = merge (AllPairs-tail IsBefore x xs rx) ry in
    let behind = all_behind x.time y ys (lt_from x.time y.time e) ry in
    let above = AllPairs-head IsBefore x xs rx in
    record {
      from = λ p h. ⊎_elim
          (λ (here : x ≡ p). inr (subst (λ q. Contains (x ∷ xs) q) here (Contains-head x xs), subst (λ (q : Point). HasNoneAt q.time (y ∷ ys)) here (none_behind x.time (y ∷ ys) behind)))
          (λ there. ⊎_elim (λ a. inl a) (λ b. inr (Contains-tail x p xs b.0, b.1)) (m.from p there))
          (Contains-cases x p out h);
      high = λ p h. Contains-tail x p out (m.high p h);
      low = λ p h n. ⊎_elim
          (λ (here : x ≡ p). subst (λ q. Contains (x ∷ out) q) here (Contains-head x out))
          (λ there. Contains-tail x p out (m.low p there n))
          (Contains-cases x p xs h);
      rising = AllPairs-cons IsBefore x out
          (All-from_contains (IsBefore x) out (λ p h. ⊎_elim (λ a. All-contains (IsBefore x) (y ∷ ys) p behind a) (λ b. All-contains (IsBefore x) xs p above b.0) (m.from p h)))
          m.rising;
    }

case_more : (x : Point) (xs : List Point) (y : Point) (ys out : List Point) → int_lt y.time x.time ≡ true → WhereRising (x ∷ xs) ys out → WhereRising (x ∷ xs) (y ∷ ys) (y ∷ out)
case_more x xs y ys out e merge rx ry =
    let m = merge rx (AllPairs-tail IsBefore y ys ry) in
    let behind = all_behind y.time x xs (lt_from y.time x.time e) rx in
    let above = AllPairs-head IsBefore y ys ry in
    record {
      from = λ p h. ⊎_elim
          (λ (here : y ≡ p). inl (subst (λ q. Contains (y ∷ ys) q) here (Contains-head y ys)))
          (λ there. ⊎_elim
          (λ a. inl (Contains-tail y p ys a))
          (λ b. let later : y.time <ℤ p.time = All-contains (IsBefore y) (x ∷ xs) p behind b.0 in
          inr (b.0, All-cons (λ q. q.time ≢ p.time) y ys (λ same. absurd (omega (arith, ints))) b.1))
          (m.from p there))
          (Contains-cases y p out h);
      high = λ p h. ⊎_elim
          (λ (here : y ≡ p). subst (λ q. Contains (y ∷ out) q) here (Contains-head y out))
          (λ there. Contains-tail y p out (m.high p there))
          (Contains-cases y p ys h);
      low = λ p h n. Contains-tail y p out (m.low p h (All-tail (λ q. q.time ≢ p.time) y ys n));
      rising = AllPairs-cons IsBefore y out
          (All-from_contains (IsBefore y) out (λ p h. ⊎_elim (λ a. All-contains (IsBefore y) ys p above a) (λ b. All-contains (IsBefore y) (x ∷ xs) p behind b.0) (m.from p h)))
          m.rising;
    }

case_same : (x : Point) (xs : List Point) (y : Point) (ys out : List Point) → int_lt x.time y.time ≡ false → int_lt y.time x.time ≡ false → WhereRising xs ys out → WhereRising (x ∷ xs) (y ∷ ys) (y ∷ out)
case_same x xs y ys out e f merge rx ry =
    let m = merge (AllPairs-tail IsBefore x xs rx) (AllPairs-tail IsBefore y ys ry) in
    let up = ge_from x.time y.time e in
    let down = ge_from y.time x.time f in
    let tie : x.time ≡ y.time = omega (arith, ints) in
    let above_x = AllPairs-head IsBefore x xs rx in
    let above_y = AllPairs-head IsBefore y ys ry in
    record {
      from = λ p h. ⊎_elim
          (λ (here : y ≡ p). inl (subst (λ q. Contains (y ∷ ys) q) here (Contains-head y ys)))
          (λ there. ⊎_elim
          (λ a. inl (Contains-tail y p ys a))
          (λ b. let later : x.time <ℤ p.time = All-contains (IsBefore x) xs p above_x b.0 in
          inr (Contains-tail x p xs b.0, All-cons (λ q. q.time ≢ p.time) y ys (λ same. absurd (omega (arith, ints))) b.1))
          (m.from p there))
          (Contains-cases y p out h);
      high = λ p h. ⊎_elim
          (λ (here : y ≡ p). subst (λ q. Contains (y ∷ out) q) here (Contains-head y out))
          (λ there. Contains-tail y p out (m.high p there))
          (Contains-cases y p ys h);
      low = λ p h n. ⊎_elim
          (λ (here : x ≡ p). absurd (All-head (λ q. q.time ≢ p.time) y ys n (sym tie ∙ ap (λ (q : Point). q.time) here)))
          (λ there. Contains-tail y p out (m.low p there (All-tail (λ q. q.time ≢ p.time) y ys n)))
          (Contains-cases x p xs h);
      rising = AllPairs-cons IsBefore y out
          (All-from_contains (IsBefore y) out (λ p h. ⊎_elim
          (λ a. All-contains (IsBefore y) ys p above_y a)
          (λ b. let later : x.time <ℤ p.time = All-contains (IsBefore x) xs p above_x b.0 in omega (arith, ints))
          (m.from p h)))
          m.rising;
    }

pub merges_two : (xs ys : List Point) → IsRising xs → IsRising ys → MergesTwo xs ys (merge_two xs ys)
merges_two xs ys = merge_cases WhereRising case_none case_one case_less case_more case_same xs ys

-- ---- winners of lists, and of more lists behind them

same_time : (a b : ℤ) → (a ≡ b) ⊎ (a ≢ b)
same_time a b = by_lt_z a b (λ l. inr (λ e. absurd (omega (arith, ints)))) (λ m. by_lt_z b a (λ l. inr (λ e. absurd (omega (arith, ints)))) (λ n. inl (omega (arith, ints))))

find_at : (t : ℤ) (points : List Point) → HasNoneAt t points ⊎ ((p : Point) × Contains points p × (p.time ≡ t))
find_at t [] = inl (All-nil (λ q. q.time ≢ t))
find_at t (x ∷ xs) =
    ⊎_elim
    (λ e. inr (x, Contains-head x xs, e))
    (λ other. ⊎_elim (λ none. inl (All-cons (λ q. q.time ≢ t) x xs other none)) (λ found. inr (found.0, Contains-tail x found.0 xs found.1, found.2)) (find_at t xs))
    (same_time x.time t)

-- at each time no list has a point, or there is a winner
pub winner_at : (t : ℤ) (lists : List (List Point)) → All (HasNoneAt t) lists ⊎ ((p : Point) × IsWinner lists p × (p.time ≡ t))
winner_at t [] = inl (All-nil (HasNoneAt t))
winner_at t (first ∷ later) =
    ⊎_elim
    (λ none. ⊎_elim
    (λ own. inl (All-cons (HasNoneAt t) first later own none))
    (λ found. inr (found.0, inr (found.1, subst (λ s. All (HasNoneAt s) later) (sym found.2) none), found.2))
    (find_at t first))
    (λ found. inr (found.0, inl found.1, found.2))
    (winner_at t later)

pub not_winner : (p : Point) (lists : List (List Point)) → All (HasNoneAt p.time) lists → IsWinner lists p → ⊥
not_winner p [] none w = w
not_winner p (first ∷ later) none (inl w) = not_winner p later (All-tail (HasNoneAt p.time) first later none) w
not_winner p (first ∷ later) none (inr w) = All-contains (λ q. q.time ≢ p.time) first p (All-head (HasNoneAt p.time) first later none) w.0 refl

-- a merge has a point at just the times at which its lists have one
none_in_lists : (t : ℤ) (lists : List (List Point)) (out : List Point) → IsMergeOf lists out → HasNoneAt t out → All (HasNoneAt t) lists
none_in_lists t lists out merge none =
    ⊎_elim
    (λ all. all)
    (λ found. absurd (All-contains (λ q. q.time ≢ t) out found.0 none (merge.complete found.0 found.1) found.2))
    (winner_at t lists)

none_in_merge : (t : ℤ) (lists : List (List Point)) (out : List Point) → IsMergeOf lists out → All (HasNoneAt t) lists → HasNoneAt t out
none_in_merge t lists out merge none =
    All-from_contains (λ q. q.time ≢ t) out (λ p h e. not_winner p lists (subst (λ s. All (HasNoneAt s) lists) (sym e) none) (All-contains (IsWinner lists) out p merge.winners h))

pub winner_high : (p : Point) (low high : List (List Point)) → IsWinner high p → IsWinner (low ++ high) p
winner_high p [] high w = w
winner_high p (first ∷ later) high w = inl (winner_high p later high w)

pub winner_low : (p : Point) (low high : List (List Point)) → IsWinner low p → All (HasNoneAt p.time) high → IsWinner (low ++ high) p
winner_low p [] high w none = absurd w
winner_low p (first ∷ later) high (inl w) none = inl (winner_low p later high w none)
winner_low p (first ∷ later) high (inr w) none = inr (w.0, All-append (HasNoneAt p.time) later high w.1 none)

pub winner_cases : (p : Point) (low high : List (List Point)) → IsWinner (low ++ high) p → IsWinner high p ⊎ (IsWinner low p × All (HasNoneAt p.time) high)
winner_cases p [] high w = inl w
winner_cases p (first ∷ later) high (inl w) = ⊎_elim (λ a. inl a) (λ b. inr (inl b.0, b.1)) (winner_cases p later high w)
winner_cases p (first ∷ later) high (inr w) =
    inr (inr (w.0, All-left (HasNoneAt p.time) later high w.1), All-right (HasNoneAt p.time) later high w.1)

-- the merge of two merges
pub merge_of_both : (low high : List (List Point)) (xs ys : List Point) → IsMergeOf low xs → IsMergeOf high ys → IsMergeOf (low ++ high) (merge_two xs ys)
merge_of_both low high xs ys mx my =
    let m = merges_two xs ys mx.rising my.rising in
    record {
      rising = m.rising;
      winners = All-from_contains (IsWinner (low ++ high)) (merge_two xs ys) (λ p h. ⊎_elim
          (λ a. winner_high p low high (All-contains (IsWinner high) ys p my.winners a))
          (λ b. winner_low p low high (All-contains (IsWinner low) xs p mx.winners b.0) (none_in_lists p.time high ys my b.1))
          (m.from p h));
      complete = λ p w. ⊎_elim
          (λ a. m.high p (my.complete p a))
          (λ b. m.low p (mx.complete p b.0) (none_in_merge p.time high ys my b.1))
          (winner_cases p low high w);
    }

-- lists have one merge
pub same_points : (xs ys : List Point) → IsRising xs → IsRising ys → ((p : Point) → Contains xs p → Contains ys p) → ((p : Point) → Contains ys p → Contains xs p) → xs ≡ ys
same_points [] [] rx ry f g = refl
same_points [] (y ∷ ys) rx ry f g = absurd (Contains-nil y (g y (Contains-head y ys)))
same_points (x ∷ xs) [] rx ry f g = absurd (Contains-nil x (f x (Contains-head x xs)))
same_points (x ∷ xs) (y ∷ ys) rx ry f g =
    let above_x = AllPairs-head IsBefore x xs rx in
    let above_y = AllPairs-head IsBefore y ys ry in
    let first : x ≡ y = ⊎_elim
    (λ (e : y ≡ x). sym e)
    (λ there. ⊎_elim
    (λ (e : x ≡ y). e)
    (λ back. let a : y.time <ℤ x.time = All-contains (IsBefore y) ys x above_y there in let b : x.time <ℤ y.time = All-contains (IsBefore x) xs y above_x back in absurd (omega (arith, ints)))
    (Contains-cases x y xs (g y (Contains-head y ys))))
    (Contains-cases y x ys (f x (Contains-head x xs))) in
    let into : (p : Point) → Contains xs p → Contains ys p = λ p h. ⊎_elim
    (λ (e : y ≡ p). let later : x.time <ℤ p.time = All-contains (IsBefore x) xs p above_x h in let t : x.time ≡ p.time = ap (λ (q : Point). q.time) (first ∙ e) in absurd (omega (arith, ints)))
    (λ there. there)
    (Contains-cases y p ys (f p (Contains-tail x p xs h))) in
    let back : (p : Point) → Contains ys p → Contains xs p = λ p h. ⊎_elim
    (λ (e : x ≡ p). let later : y.time <ℤ p.time = All-contains (IsBefore y) ys p above_y h in let t : y.time ≡ p.time = ap (λ (q : Point). q.time) (sym first ∙ e) in absurd (omega (arith, ints)))
    (λ there. there)
    (Contains-cases x p xs (g p (Contains-tail y p ys h))) in
    let others : xs ≡ ys = same_points xs ys (AllPairs-tail IsBefore x xs rx) (AllPairs-tail IsBefore y ys ry) into back in
    cc

pub merge_is_one : (lists : List (List Point)) (xs ys : List Point) → IsMergeOf lists xs → IsMergeOf lists ys → xs ≡ ys
merge_is_one lists xs ys mx my = same_points xs ys mx.rising my.rising
    (λ p h. my.complete p (All-contains (IsWinner lists) xs p mx.winners h))
    (λ p h. mx.complete p (All-contains (IsWinner lists) ys p my.winners h))
