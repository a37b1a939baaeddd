-- Columns of points, from which a line is taken, and the lines that they have.
use Rattle.std.proofs.Common.{◌≡◌, ℕ, ◌+◌, ◌<◌, ◌≤◌, Bool, true, false, cond, ◌||◌, List, [], ◌∷◌, ◌⊎◌, inl, inr}
use Rattle.std.proofs.Common.{map, length, Option, None, Some, is_some, refl, sym, ap, subst, ◌∙◌, arith}
use Rattle.std.specs.Prelude.{ℤ, ◌<ℤ◌, ◌≤ℤ◌, All, find, ⊤}
use Rattle.std.specs.List.{AllByRecursion as Each, list_any}
use Rattle.std.specs.Option.{option_map}
use Rattle.std.specs.Ordering.{int_eq}
use Rattle.std.proofs.lemmas.Bool.{false≢true}
use Rattle.std.proofs.lemmas.Int.{ints}
use Rattle.std.proofs.lemmas.List.Elements.{All-cons, All-head, All-nil, All-tail, All-weaker}
use Rattle.tsdb_base.specs.declared.point.Point.{Point}
use Rattle.tsdb_base.specs.declared.value.Value.{Value}
use Rattle.tsdb_base.proofs.Lists.{each_weaker}
use Rattle.tsdb_base.specs.Lists.{Among}
use Rattle.tsdb_model.specs.declared.reply.Line.{Line}
use Rattle.tsdb_merge.proofs.MergeLemmas.{AllPairs-head, AllPairs-tail}
use Rattle.tsdb_base.specs.Points.{IsRising}
use Rattle.tsdb_pins.specs.Rows.{AreTakenAt, BeginsAt, BeginsFrom, IsFirstTime, IsTakenAt, OneBeginsAt, TakesLine}

-- the value that the points have at the time, where they have one
abbrev pub value_at : ℤ → List Point → Option Value
value_at time points = option_map (λ point. point.value) (find (λ point. int_eq time point.time) points)

same_time : (a b : ℤ) → int_eq a b ≡ true → a ≡ b
same_time a b h = grind (arith, ints)

time_itself : (a : ℤ) → int_eq a a ≡ true
time_itself a = grind (arith, ints)

other_time : (a b : ℤ) → b <ℤ a → int_eq a b ≡ false
other_time a b h = grind (arith, ints)

later_time : (a b : ℤ) → a <ℤ b → int_eq a b ≡ false
later_time a b h = grind (arith, ints)

abbrev pub Above : ℤ → List Point → Type 0
Above time points = All (λ point. time <ℤ point.time) points

-- ---- the value of one column

value_first : (t : ℤ) (v : Value) (ps : List Point) → value_at t (record { time = t; value = v } ∷ ps) ≡ Some v
value_first t v ps = ap (λ b. option_map (λ (q : Point). q.value)
    (cond b (Some (record { time = t; value = v })) (find (λ (q : Point). int_eq t q.time) ps))) (time_itself t)

value_other : (t u : ℤ) (v : Value) (ps : List Point) → int_eq u t ≡ false → value_at u (record { time = t; value = v } ∷ ps) ≡ value_at u ps
value_other t u v ps h = ap (λ b. option_map (λ (q : Point). q.value)
    (cond b (Some (record { time = t; value = v })) (find (λ (q : Point). int_eq u q.time) ps))) h

value_none : (t : ℤ) (ps : List Point) → Above t ps → value_at t ps ≡ None
value_none t [] above = refl
value_none t (p ∷ ps) above =
    let P : Point → Type 0 = λ point. t <ℤ point.time in
    ap (λ b. option_map (λ (q : Point). q.value) (cond b (Some p) (find (λ (q : Point). int_eq t q.time) ps)))
    (later_time t p.time (All-head P p ps above))
    ∙ value_none t ps (All-tail P p ps above)

value_above : (t u : ℤ) (ps : List Point) → Above t ps → is_some (value_at u ps) ≡ true → t <ℤ u
value_above t u [] above some = absurd (false≢true some)
value_above t u (p ∷ ps) above some =
    by (int_eq u p.time) refl some (value_above t u ps (All-tail (λ (point : Point). t <ℤ point.time) p ps above))
  where
    by : (b : Bool) → int_eq u p.time ≡ b
        → is_some (option_map (λ (q : Point). q.value) (cond b (Some p) (find (λ (q : Point). int_eq u q.time) ps))) ≡ true
        → (is_some (value_at u ps) ≡ true → t <ℤ u) → t <ℤ u
    by true e some rest = subst (λ z. t <ℤ z) (sym (same_time u p.time e)) (All-head (λ (point : Point). t <ℤ point.time) p ps above)
    by false e some rest = rest some

-- ---- one column, of which the first point is taken where it is at the time

above_first : (t : ℤ) (p : Point) (ps : List Point) → IsRising (p ∷ ps) → t ≤ℤ p.time → Above t ps
above_first t p ps rising low = All-weaker (λ (q : Point). p.time <ℤ q.time) (λ (q : Point). t <ℤ q.time)
    (λ q h. omega (arith, ints, h, low)) ps (AllPairs-head (λ (a b : Point). a.time <ℤ b.time) p ps rising)

above_all : (t : ℤ) (ps : List Point) → IsRising ps → BeginsFrom t ps → (BeginsAt t ps → ⊥) → Above t ps
above_all t [] rising from not = All-nil (λ (q : Point). t <ℤ q.time)
above_all t (p ∷ ps) rising from not =
    let above = above_first t p ps rising from in
    All-cons (λ (q : Point). t <ℤ q.time) p ps (by_cases (int_eq p.time t) refl) above
  where
    by_cases : (b : Bool) → int_eq p.time t ≡ b → t <ℤ p.time
    by_cases true e = absurd (not (same_time p.time t e))
    by_cases false e = grind (arith, ints, from, e)

after_above : (t : ℤ) (before after : List Point) (value : Option Value) → IsRising before → BeginsFrom t before → IsTakenAt t before value after → Above t after
after_above t before after None rising from taken = subst (Above t) (sym taken.0) (above_all t before rising from taken.1)
after_above t before after (Some v) rising from taken =
    above_first t (record { time = t; value = v }) after (subst IsRising taken rising) (omega (arith, ints))

taken_value : (t : ℤ) (before after : List Point) (value : Option Value) → IsRising before → BeginsFrom t before → IsTakenAt t before value after → value ≡ value_at t before
taken_value t before after None rising from taken = sym (value_none t before (above_all t before rising from taken.1))
taken_value t before after (Some v) rising from taken = sym (ap (value_at t) taken ∙ value_first t v after)

taken_other : (t u : ℤ) (before after : List Point) (value : Option Value) → int_eq u t ≡ false → IsTakenAt t before value after → value_at u after ≡ value_at u before
taken_other t u before after None h taken = ap (value_at u) taken.0
taken_other t u before after (Some v) h taken = sym (ap (value_at u) taken ∙ value_other t u v after h)

taken_rising : (t : ℤ) (before after : List Point) (value : Option Value) → IsRising before → IsTakenAt t before value after → IsRising after
taken_rising t before after None rising taken = subst IsRising (sym taken.0) rising
taken_rising t before after (Some v) rising taken =
    AllPairs-tail (λ (a b : Point). a.time <ℤ b.time) (record { time = t; value = v }) after (subst IsRising taken rising)

taken_fewer : (t : ℤ) (before after : List Point) (value : Option Value) → IsTakenAt t before value after → length after ≤ length before
taken_fewer t before after None taken = let e = ap length taken.0 in omega (arith, e)
taken_fewer t before after (Some v) taken = let e = ap length taken in omega (arith, e)

taken_one : (t : ℤ) (before after : List Point) (value : Option Value) → BeginsAt t before → IsTakenAt t before value after → (is_some value ≡ true) × (length after < length before)
taken_one t before after None begins taken = absurd (taken.1 begins)
taken_one t before after (Some v) begins taken = let e = ap length taken in (refl, omega (arith, e))

-- ---- all columns

abbrev pub row_at : ℤ → List (List Point) → List (Option Value)
row_at time columns = map (value_at time) columns

abbrev pub has_some : List (Option Value) → Bool
has_some values = list_any is_some values

or_right : (a b : Bool) → b ≡ true → (a || b) ≡ true
or_right true b h = refl
or_right false b h = h

or_cases : (a b : Bool) → (a || b) ≡ true → (a ≡ true) ⊎ (b ≡ true)
or_cases true b h = inl refl
or_cases false b h = inr h

abbrev pub points_in : List (List Point) → ℕ
points_in [] = 0
points_in (column ∷ columns) = length column + points_in columns

module _ (t : ℤ) where
  pub row_here : (befores : List (List Point)) (values : List (Option Value)) (afters : List (List Point)) → Each IsRising befores → Each (BeginsFrom t) befores → AreTakenAt t befores values afters → values ≡ row_at t befores
  row_here [] [] [] rising from taken = refl
  row_here [] [] (a ∷ afters) rising from taken = absurd taken
  row_here [] (v ∷ values) afters rising from taken = absurd taken
  row_here (b ∷ befores) [] afters rising from taken = absurd taken
  row_here (b ∷ befores) (v ∷ values) [] rising from taken = absurd taken
  row_here (b ∷ befores) (v ∷ values) (a ∷ afters) rising from taken =
      let first = taken_value t b a v rising.0 from.0 taken.0 in
      let rest = row_here befores values afters rising.1 from.1 taken.1 in
      ap (λ x. x ∷ values) first ∙ ap (λ l. value_at t b ∷ l) rest

  pub row_other : (u : ℤ) → int_eq u t ≡ false → (befores : List (List Point)) (values : List (Option Value)) (afters : List (List Point)) → AreTakenAt t befores values afters → row_at u afters ≡ row_at u befores
  row_other u h [] [] [] taken = refl
  row_other u h [] [] (a ∷ afters) taken = absurd taken
  row_other u h [] (v ∷ values) afters taken = absurd taken
  row_other u h (b ∷ befores) [] afters taken = absurd taken
  row_other u h (b ∷ befores) (v ∷ values) [] taken = absurd taken
  row_other u h (b ∷ befores) (v ∷ values) (a ∷ afters) taken =
      ap (λ x. x ∷ row_at u afters) (taken_other t u b a v h taken.0) ∙ ap (λ l. value_at u b ∷ l) (row_other u h befores values afters taken.1)

  pub row_later : (u : ℤ) (befores : List (List Point)) (values : List (Option Value)) (afters : List (List Point)) → Each IsRising befores → Each (BeginsFrom t) befores → AreTakenAt t befores values afters → has_some (row_at u afters) ≡ true → t <ℤ u
  row_later u [] [] [] rising from taken some = absurd (false≢true some)
  row_later u [] [] (a ∷ afters) rising from taken some = absurd taken
  row_later u [] (v ∷ values) afters rising from taken some = absurd taken
  row_later u (b ∷ befores) [] afters rising from taken some = absurd taken
  row_later u (b ∷ befores) (v ∷ values) [] rising from taken some = absurd taken
  row_later u (b ∷ befores) (v ∷ values) (a ∷ afters) rising from taken some =
      by (or_cases (is_some (value_at u a)) (has_some (row_at u afters)) some)
      (row_later u befores values afters rising.1 from.1 taken.1)
    where
      by : (is_some (value_at u a) ≡ true) ⊎ (has_some (row_at u afters) ≡ true) → (has_some (row_at u afters) ≡ true → t <ℤ u) → t <ℤ u
      by (inl here) rest = value_above t u a (after_above t b a v rising.0 from.0 taken.0) here
      by (inr there) rest = rest there

  pub rising_after : (befores : List (List Point)) (values : List (Option Value)) (afters : List (List Point)) → Each IsRising befores → AreTakenAt t befores values afters → Each IsRising afters
  rising_after [] [] [] rising taken = tt
  rising_after [] [] (a ∷ afters) rising taken = absurd taken
  rising_after [] (v ∷ values) afters rising taken = absurd taken
  rising_after (b ∷ befores) [] afters rising taken = absurd taken
  rising_after (b ∷ befores) (v ∷ values) [] rising taken = absurd taken
  rising_after (b ∷ befores) (v ∷ values) (a ∷ afters) rising taken = (taken_rising t b a v rising.0 taken.0, rising_after befores values afters rising.1 taken.1)

  no_more : (befores : List (List Point)) (values : List (Option Value)) (afters : List (List Point)) → AreTakenAt t befores values afters → points_in afters ≤ points_in befores
  no_more [] [] [] taken = omega arith
  no_more [] [] (a ∷ afters) taken = absurd taken
  no_more [] (v ∷ values) afters taken = absurd taken
  no_more (b ∷ befores) [] afters taken = absurd taken
  no_more (b ∷ befores) (v ∷ values) [] taken = absurd taken
  no_more (b ∷ befores) (v ∷ values) (a ∷ afters) taken =
      let first = taken_fewer t b a v taken.0 in
      let rest = no_more befores values afters taken.1 in
      let old : points_in (b ∷ befores) ≡ length b + points_in befores = refl in
      let new : points_in (a ∷ afters) ≡ length a + points_in afters = refl in
      omega (arith, first, rest, old, new)

  pub one_taken : (befores : List (List Point)) (values : List (Option Value)) (afters : List (List Point)) → OneBeginsAt t befores → AreTakenAt t befores values afters → (has_some values ≡ true) × (points_in afters < points_in befores)
  one_taken [] [] [] begins taken = absurd begins
  one_taken [] [] (a ∷ afters) begins taken = absurd taken
  one_taken [] (v ∷ values) afters begins taken = absurd taken
  one_taken (b ∷ befores) [] afters begins taken = absurd taken
  one_taken (b ∷ befores) (v ∷ values) [] begins taken = absurd taken
  one_taken (b ∷ befores) (v ∷ values) (a ∷ afters) (inl begins) taken =
      let one = taken_one t b a v begins taken.0 in
      let rest = no_more befores values afters taken.1 in
      let low = one.1 in
      let old : points_in (b ∷ befores) ≡ length b + points_in befores = refl in
      let new : points_in (a ∷ afters) ≡ length a + points_in afters = refl in
      (ap (λ x. x || has_some values) one.0, omega (arith, low, rest, old, new))
  one_taken (b ∷ befores) (v ∷ values) (a ∷ afters) (inr begins) taken =
      let first = taken_fewer t b a v taken.0 in
      let rest = one_taken befores values afters begins taken.1 in
      let low = rest.1 in
      let old : points_in (b ∷ befores) ≡ length b + points_in befores = refl in
      let new : points_in (a ∷ afters) ≡ length a + points_in afters = refl in
      (or_right (is_some v) (has_some values) rest.0, omega (arith, first, low, old, new))

-- ---- the lines that columns have

abbrev pub Rise : List Line → Type 0
Rise [] = ⊤
Rise (line ∷ lines) = Each (λ later. line.time <ℤ later.time) lines × Rise lines

pub record IsLineOf (columns : List (List Point)) (line : Line) : Type 0 where
  pub values : line.values ≡ row_at line.time columns
  pub some : has_some line.values ≡ true

abbrev pub times_in : List Line → List ℤ
times_in lines = map (λ line. line.time) lines

-- a line for each time at which a column has a value, in order of time
pub record AreLinesOf (columns : List (List Point)) (lines : List Line) : Type 0 where
  pub rise : Rise lines
  pub each : Each (IsLineOf columns) lines
  pub complete : (time : ℤ) → has_some (row_at time columns) ≡ true → Among time (times_in lines)

none_in_empty : (time : ℤ) (columns : List (List Point)) → Each (λ column. column ≡ []) columns → has_some (row_at time columns) ≡ false
none_in_empty time [] empty = refl
none_in_empty time (c ∷ columns) empty =
    ap (λ x. is_some x || has_some (row_at time columns)) (ap (value_at time) empty.0) ∙ none_in_empty time columns empty.1

-- no point is left
pub no_lines : (columns : List (List Point)) → Each (λ column. column ≡ []) columns → AreLinesOf columns []
no_lines columns empty = record {
  rise = tt;
  each = tt;
  complete = λ time some. absurd (false≢true (sym (none_in_empty time columns empty) ∙ some));
}

-- one line more
pub line_first : (t : ℤ) (befores : List (List Point)) (line : Line) (afters : List (List Point)) (lines : List Line) → Each IsRising befores → IsFirstTime befores (Some t) → TakesLine t befores line afters → AreLinesOf afters lines
    → AreLinesOf befores (line ∷ lines)
line_first t befores line afters lines rising first taken rest =
    let at : line.time ≡ t = taken.0 in
    let later : (m : Line) → IsLineOf afters m → t <ℤ m.time = λ m is. row_later t m.time befores line.values afters rising first.0 taken.1 (ap has_some (sym is.values) ∙ is.some) in
    record {
      rise = (each_weaker (IsLineOf afters) (λ (m : Line). line.time <ℤ m.time) (λ m is. subst (λ u. u <ℤ m.time) (sym at) (later m is)) lines rest.each, rest.rise);
      each = (
        record {
          values = row_here t befores line.values afters rising first.0 taken.1 ∙ ap (λ u. row_at u befores) (sym at);
          some = (one_taken t befores line.values afters first.1 taken.1).0;
        },
        each_weaker (IsLineOf afters) (IsLineOf befores) (λ m is. record { values = is.values ∙ row_other t m.time (other_time m.time t (later m is)) befores line.values afters taken.1; some = is.some }) lines rest.each,
      );
      complete = λ time some. by time some (int_eq time t) refl at;
    }
  where
    by : (time : ℤ) → has_some (row_at time befores) ≡ true → (b : Bool) → int_eq time t ≡ b → line.time ≡ t → Among time (times_in (line ∷ lines))
    by time some true e at = inl (at ∙ sym (same_time time t e))
    by time some false e at = inr (rest.complete time (ap has_some (row_other t time e befores line.values afters taken.1) ∙ some))
