-- The statistics of two lists, one behind the other.
use Rattle.std.proofs.Common.{◌≡◌, ℕ, suc, ◌+◌, ◌-◌, Bool, true, false, List, [], ◌∷◌, ◌++◌, length, Option, Some, refl, sym, ap, ◌∙◌, cond, arith}
use Rattle.std.specs.Prelude.{ℤ, None, slice_get, option_map, option_and_then, int_lt, IfSome}
use Rattle.std.specs.List.{cons_option, fold, reduce, AllByRecursion}
use Rattle.std.proofs.lemmas.Int.{ints}
use Rattle.std.proofs.lemmas.List.{length-append}
use Rattle.std.proofs.lemmas.List.Sums.{fold-append}
use Rattle.std.proofs.lemmas.List.Elements.{filter_map-append}
use Rattle.tsdb_base.specs.declared.point.Point.{Point}
use Rattle.tsdb_base.specs.declared.point.Stats.{Stats}
use Rattle.tsdb_base.specs.declared.value.Value.{Value}
use Rattle.tsdb_base.specs.declared.value.Value.TheVariants as value
use Rattle.tsdb_model.specs.Folds.{is_less, lesser_value, greater, as_number, numbers, sum_of}
use Rattle.tsdb_stats.specs.Statistics.{AreStatsOf, IsJoinedSum}
use Rattle.tsdb_stats.specs.Steps.{join_options, number_in}
use Rattle.tsdb_stats.proofs.Sums.{sum-append}

-- ---- numbers

record IsNumber (v : Value) : Type 0 where
  n : ℤ
  is : as_number v ≡ Some n

number_in-self : (v : Value) → IsNumber v → number_in v ≡ Some v
number_in-self v p = rw p.is refl

number-first : (v : Value) (vs : List Value) → AllByRecursion IsNumber vs → AllByRecursion IsNumber (cons_option (number_in v) vs)
number-first (value.Bool b) vs all = all
number-first (value.I32 n) vs all = (record { n = n; is = refl }, all)
number-first (value.I64 n) vs all = (record { n = n; is = refl }, all)
number-first (value.Text bytes) vs all = all

numbers-are : (points : List Point) → AllByRecursion IsNumber (numbers points)
numbers-are [] = tt
numbers-are (point ∷ points) = number-first point.value (numbers points) (numbers-are points)

-- ---- choosing one of two

-- the second where it wins, and else the first
abbrev pick : (Value → Value → Bool) → Value → Value → Value
pick wins a b = cond (wins b a) b a

pick-second : (wins : Value → Value → Bool) (a b : Value) → wins b a ≡ true → pick wins a b ≡ b
pick-second wins a b e = rw e refl

pick-first : (wins : Value → Value → Bool) (a b : Value) → wins b a ≡ false → pick wins a b ≡ a
pick-first wins a b e = rw e refl

-- of numbers, what wins over a winner wins, and what loses to a loser loses
record IsChoice (wins : Value → Value → Bool) : Type 0 where
  up : (a b c : Value) → IsNumber a → IsNumber b → IsNumber c → wins b a ≡ true → wins c b ≡ true → wins c a ≡ true
  down : (a b c : Value) → IsNumber a → IsNumber b → IsNumber c → wins b a ≡ false → wins c b ≡ false → wins c a ≡ false

pick-assoc : (wins : Value → Value → Bool) → IsChoice wins → (a b c : Value) → IsNumber a → IsNumber b → IsNumber c
    → pick wins (pick wins a b) c ≡ pick wins a (pick wins b c)
pick-assoc wins choice a b c na nb nc =
    elim (wins b a) as (λ s. wins b a ≡ s → pick wins (pick wins a b) c ≡ pick wins a (pick wins b c)) [
      | true ↦ λ e. elim (wins c b) as (λ t. wins c b ≡ t → pick wins (pick wins a b) c ≡ pick wins a (pick wins b c)) [
        | true ↦ λ f. rw (pick-second wins a b e, pick-second wins b c f, pick-second wins a c (choice.up a b c na nb nc e f)) refl
        | false ↦ λ f. rw (pick-second wins a b e, pick-first wins b c f, pick-second wins a b e) refl
      ] refl
      | false ↦ λ e. elim (wins c b) as (λ t. wins c b ≡ t → pick wins (pick wins a b) c ≡ pick wins a (pick wins b c)) [
        | true ↦ λ f. rw (pick-first wins a b e, pick-second wins b c f) refl
        | false ↦ λ f. rw (pick-first wins a b e, pick-first wins b c f, pick-first wins a b e, pick-first wins a c (choice.down a b c na nb nc e f)) refl
      ] refl
    ] refl

pick-number : (wins : Value → Value → Bool) (a b : Value) → IsNumber a → IsNumber b → IsNumber (pick wins a b)
pick-number wins a b na nb = elim (wins b a) as (λ s. IsNumber (cond s b a)) [ true ↦ nb | false ↦ na ]

fold-pick : (wins : Value → Value → Bool) → IsChoice wins → (a b : Value) (vs : List Value) → IsNumber a → IsNumber b → AllByRecursion IsNumber vs
    → fold (pick wins) (pick wins a b) vs ≡ pick wins a (fold (pick wins) b vs)
fold-pick wins choice a b [] na nb all = refl
fold-pick wins choice a b (v ∷ vs) na nb all =
    rw (pick-assoc wins choice a b v na nb all.0) (fold-pick wins choice a (pick wins b v) vs na (pick-number wins b v nb all.0) all.1)

fold-number : (wins : Value → Value → Bool) (a : Value) (vs : List Value) → IsNumber a → AllByRecursion IsNumber vs → IsNumber (fold (pick wins) a vs)
fold-number wins a [] na all = na
fold-number wins a (v ∷ vs) na all = fold-number wins (pick wins a v) vs (pick-number wins a v na all.0) all.1

reduce-append : (wins : Value → Value → Bool) → IsChoice wins → (us vs : List Value) → AllByRecursion IsNumber us → AllByRecursion IsNumber vs
    → reduce (pick wins) (us ++ vs) ≡ join_options (pick wins) (reduce (pick wins) us) (reduce (pick wins) vs)
reduce-append wins choice [] vs all_us all_vs = refl
reduce-append wins choice (u ∷ us) [] all_us all_vs = ap Some (fold-append (pick wins) u us [])
reduce-append wins choice (u ∷ us) (v ∷ vs) all_us all_vs =
    ap Some (fold-append (pick wins) u us (v ∷ vs) ∙ fold-pick wins choice (fold (pick wins) u us) v vs (fold-number wins u us all_us.0 all_us.1) all_vs.0 all_vs.1)

-- what is chosen of numbers is a number
reduce-self : (wins : Value → Value → Bool) (vs : List Value) → AllByRecursion IsNumber vs → option_and_then number_in (reduce (pick wins) vs) ≡ reduce (pick wins) vs
reduce-self wins [] all = refl
reduce-self wins (v ∷ vs) all = number_in-self (fold (pick wins) v vs) (fold-number wins v vs all.0 all.1)

chosen-append : (wins : Value → Value → Bool) → IsChoice wins → (before behind : List Point) (l r s : Option Value)
    → reduce (pick wins) (numbers before) ≡ l → reduce (pick wins) (numbers behind) ≡ r
    → s ≡ join_options (pick wins) (option_and_then number_in l) (option_and_then number_in r) → reduce (pick wins) (numbers (before ++ behind)) ≡ s
chosen-append wins choice before behind l r s is_l is_r is_s =
    rw (is_s, ← is_l, ← is_r, reduce-self wins (numbers before) (numbers-are before), reduce-self wins (numbers behind) (numbers-are behind), filter_map-append)
    (reduce-append wins choice (numbers before) (numbers behind) (numbers-are before) (numbers-are behind))

-- ---- the lesser and the greater

less-is : (a b : Value) (p : IsNumber a) (q : IsNumber b) → is_less a b ≡ int_lt p.n q.n
less-is a b p q = rw (p.is, q.is) refl

int_up : (x y z : ℤ) → int_lt y x ≡ true → int_lt z y ≡ true → int_lt z x ≡ true
int_up x y z e f = grind (arith, ints)

int_down : (x y z : ℤ) → int_lt y x ≡ false → int_lt z y ≡ false → int_lt z x ≡ false
int_down x y z e f = grind (arith, ints)

lesser-choice : IsChoice is_less
lesser-choice = record {
  up = λ a b c p q r e f. less-is c a r p ∙ int_up p.n q.n r.n (sym (less-is b a q p) ∙ e) (sym (less-is c b r q) ∙ f);
  down = λ a b c p q r e f. less-is c a r p ∙ int_down p.n q.n r.n (sym (less-is b a q p) ∙ e) (sym (less-is c b r q) ∙ f);
}

greater-choice : IsChoice (λ a b. is_less b a)
greater-choice = record {
  up = λ a b c p q r e f. less-is a c p r ∙ int_up r.n q.n p.n (sym (less-is b c q r) ∙ f) (sym (less-is a b p q) ∙ e);
  down = λ a b c p q r e f. less-is a c p r ∙ int_down r.n q.n p.n (sym (less-is b c q r) ∙ f) (sym (less-is a b p q) ∙ e);
}

-- ---- the first and the last

slice_get-behind : {A : Type 0} (xs ys : List A) (k : ℕ) → slice_get (xs ++ ys) (length xs + k) ≡ slice_get ys k
slice_get-behind [] ys k =
    let none : 0 + k ≡ k = omega arith in
    ap (slice_get ys) none
slice_get-behind (x ∷ xs) ys k =
    let one : suc (length xs) + k ≡ suc (length xs + k) = omega arith in
    rw one (slice_get-behind xs ys k)

first-append : {B : Type 0} (read : Point → B) (before behind : List Point) (y : B) → option_map read (slice_get before 0) ≡ Some y → option_map read (slice_get (before ++ behind) 0) ≡ Some y
first-append read [] behind y e = absurd cc
first-append read (p ∷ before) behind y e = e

last-append : {B : Type 0} (read : Point → B) (before behind : List Point) (y : B) → option_map read (slice_get behind (length behind - 1)) ≡ Some y
    → option_map read (slice_get (before ++ behind) (length (before ++ behind) - 1)) ≡ Some y
last-append read before [] y e = absurd cc
last-append read before (p ∷ behind) y e =
    let place : length (before ++ p ∷ behind) - 1 ≡ length before + length behind = omega (arith, length-append before (p ∷ behind)) in
    let own : length (p ∷ behind) - 1 ≡ length behind = omega arith in
    rw (place, slice_get-behind before (p ∷ behind) (length behind)) (rw own at e)

-- the sum of both, where it is there
joined-sum : (before behind : List Point) (a b c : Option ℤ) → IfSome a (λ x. sum_of before ≡ Some x) → IfSome b (λ x. sum_of behind ≡ Some x) → IsJoinedSum a b c → IfSome c (λ x. sum_of (before ++ behind) ≡ Some x)
joined-sum before behind None b c is_a is_b is_c = rw is_c tt
joined-sum before behind (Some a) None c is_a is_b is_c = rw is_c tt
joined-sum before behind (Some a) (Some b) None is_a is_b is_c = tt
joined-sum before behind (Some a) (Some b) (Some c) is_a is_b is_c = sum-append before behind a b is_a is_b ∙ ap Some (sym is_c.1)

-- the statistics of both lists
pub stats-append : (before behind : List Point) (l r s : Stats) → AreStatsOf before l → AreStatsOf behind r
    → s.count ≡ l.count + r.count → s.start ≡ l.start → s.end ≡ r.end → s.first ≡ l.first → s.last ≡ r.last
    → s.least ≡ join_options lesser_value (option_and_then number_in l.least) (option_and_then number_in r.least)
    → s.greatest ≡ join_options greater (option_and_then number_in l.greatest) (option_and_then number_in r.greatest)
    → IsJoinedSum l.sum r.sum s.sum → AreStatsOf (before ++ behind) s
stats-append before behind l r s p q count start end first last least greatest sum = record {
  count = omega (arith, count, p.count, q.count, length-append before behind);
  start = rw start (first-append (λ point. value.I64 point.time) before behind (value.I64 l.start) p.start);
  end = rw end (last-append (λ point. value.I64 point.time) before behind (value.I64 r.end) q.end);
  first = rw first (first-append (λ point. point.value) before behind l.first p.first);
  last = rw last (last-append (λ point. point.value) before behind r.last q.last);
  least = chosen-append is_less lesser-choice before behind l.least r.least s.least p.least q.least least;
  greatest = chosen-append (λ a b. is_less b a) greater-choice before behind l.greatest r.greatest s.greatest p.greatest q.greatest greatest;
  sum = joined-sum before behind l.sum r.sum s.sum p.sum q.sum sum;
}
