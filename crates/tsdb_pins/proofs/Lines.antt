-- The lines of columns are the rows of a select.
use Rattle.std.proofs.Common.{◌≡◌, Bool, true, false, cond, ◌||◌, ◌&&◌, List, [], ◌∷◌, inl, inr}
use Rattle.std.proofs.Common.{map, Some, is_some, refl, sym, ap, subst, ◌∙◌, arith}
use Rattle.std.specs.Prelude.{T, ℤ, ◌<ℤ◌, int_lt, find, All}
use Rattle.std.proofs.lemmas.List.Elements.{All-cons, All-nil}
use Rattle.std.proofs.lemmas.List.Kept.{AllPairs-cons}
use Rattle.tsdb_merge.proofs.MergeLemmas.{AllPairs-nil}
use Rattle.tsdb_base.specs.Points.{IsRising}
use Rattle.std.specs.FinMap.{entries, get, keys, from_entries, get-entries, entries_sorted}
use Rattle.std.specs.FinMap.Entries.{find as find_key, below_all, is_sorted}
use Rattle.std.specs.BTreeMap.{is_at}
use Rattle.std.specs.BTreeSet.{BTreeSet}
use Rattle.std.specs.Cmp.{eq_by_cmp_equiv, int_cmp_total}
use Rattle.std.specs.List.{AllByRecursion as Each, flat_map, list_any}
use Rattle.std.specs.List.Sorted.{IsStrictlySortedBy}
use Rattle.std.specs.Option.{option_map}
use Rattle.std.specs.Ordering.{eq_by_cmp, int_cmp, int_eq, is_eq, is_lt}
use Rattle.std.specs.declared.cmp.Ordering.TheVariants.{Less, Equal, Greater}
use Rattle.std.proofs.lemmas.Bool.{false≢true}
use Rattle.std.proofs.lemmas.Int.{ints}
use Rattle.tsdb_base.specs.declared.point.Point.{Point}
use Rattle.tsdb_base.specs.declared.value.Value.{Value}
use Rattle.tsdb_base.specs.Lists.{Among}
use Rattle.tsdb_model.proofs.TimeLemmas.{Entries, has-append, keys-set}
use Rattle.tsdb_model.specs.Folds.{in_order, line_at, rows}
use Rattle.tsdb_model.specs.World.{PointMap}
use Rattle.tsdb_model.specs.declared.reply.Line.{Line}
use Rattle.tsdb_pins.proofs.Columns.{AreLinesOf, IsLineOf, Rise, has_some, row_at, times_in, value_at}

same_time : (a b : ℤ) → int_eq a b ≡ true → a ≡ b
same_time a b h = grind (arith, ints)

-- the tests of two times are one
key_of : (a b : ℤ) → eq_by_cmp int_cmp a b ≡ true → int_eq a b ≡ true
key_of a b h = by (int_lt a b) (int_lt b a) refl refl h
  where
    by : (x y : Bool) → int_lt a b ≡ x → int_lt b a ≡ y → is_eq (cond x Less (cond y Greater Equal)) ≡ true → int_eq a b ≡ true
    by true y e f h = absurd (false≢true h)
    by false true e f h = absurd (false≢true h)
    by false false e f h = grind (arith, ints, e, f)

same_test : (a b : ℤ) → int_eq a b ≡ eq_by_cmp int_cmp a b
same_test a b = by (int_eq a b) (eq_by_cmp int_cmp a b) refl refl
  where
    by : (x y : Bool) → int_eq a b ≡ x → eq_by_cmp int_cmp a b ≡ y → x ≡ y
    by true true e f = refl
    by false false e f = refl
    by true false e f = sym (sym f ∙ ap (λ t. eq_by_cmp int_cmp a t) (sym (same_time a b e)) ∙ (eq_by_cmp_equiv int_cmp_total).refl a)
    by false true e f = sym e ∙ key_of a b f

same_bool : (a b : Bool) → (a ≡ true → b ≡ true) → (b ≡ true → a ≡ true) → a ≡ b
same_bool true true f g = refl
same_bool true false f g = sym (f refl)
same_bool false true f g = g refl
same_bool false false f g = refl

abbrev point_of : ℤ × Value → Point
point_of entry = record { time = entry.0; value = entry.1 }

value_of_entries : (q : ℤ) (es : Entries) → value_at q (map point_of es) ≡ find_key int_cmp q es
value_of_entries q [] = refl
value_of_entries q (e ∷ es) =
    ap (λ b. option_map (λ (p : Point). p.value) (cond b (Some (point_of e)) (find (λ (p : Point). int_eq q p.time) (map point_of es)))) (same_test q e.0)
    ∙ by (eq_by_cmp int_cmp q e.0) (value_of_entries q es)
  where
    by : (b : Bool) → value_at q (map point_of es) ≡ find_key int_cmp q es → option_map (λ (p : Point). p.value) (cond b (Some (point_of e)) (find (λ (p : Point). int_eq q p.time) (map point_of es))) ≡ cond b (Some e.1) (find_key int_cmp q es)
    by true rest = refl
    by false rest = rest

-- the values of the columns at a time
pub value_is : (q : ℤ) (points : PointMap) → value_at q (in_order points) ≡ get points q
value_is q points = value_of_entries q (entries points) ∙ sym (get-entries points q)

row_is : (q : ℤ) (columns : List PointMap) → row_at q (map in_order columns) ≡ map (λ points. get points q) columns
row_is q [] = refl
row_is q (points ∷ columns) = ap (λ v. v ∷ row_at q (map in_order columns)) (value_is q points) ∙ ap (λ l. get points q ∷ l) (row_is q columns)

has_is : (q : ℤ) (columns : List PointMap) → has_some (row_at q (map in_order columns)) ≡ is_some (find_key int_cmp q (flat_map entries columns))
has_is q [] = refl
has_is q (points ∷ columns) =
    ap (λ v. is_some v || has_some (row_at q (map in_order columns))) (value_of_entries q (entries points))
    ∙ ap (λ b. is_some (find_key int_cmp q (entries points)) || b) (has_is q columns)
    ∙ sym (has-append (entries points) (flat_map entries columns) q)

-- the times

true_of : (b : Bool) → T b → b ≡ true
true_of true h = refl
true_of false h = absurd h

less_of : (a b : ℤ) → a <ℤ b → int_cmp a b ≡ Less
less_of a b h = ap (λ t. cond t Less (cond (int_lt b a) Greater Equal)) (true_of (int_lt a b) h.lt)

sorted_first : (t : ℤ) (lines : List Line) → Each (λ later. t <ℤ later.time) lines → Each (λ u. int_cmp t u ≡ Less) (times_in lines)
sorted_first t [] each = tt
sorted_first t (line ∷ lines) each = (less_of t line.time each.0, sorted_first t lines each.1)

sorted_of : (lines : List Line) → Rise lines → IsStrictlySortedBy int_cmp (times_in lines)
unfolding IsStrictlySortedBy
sorted_of [] rise = tt
sorted_of (line ∷ lines) rise = (sorted_first line.time lines rise.0, sorted_of lines rise.1)

or_right : (a b : Bool) → b ≡ true → (a || b) ≡ true
or_right true b h = refl
or_right false b h = h

among_any : (q : ℤ) (times : List ℤ) → Among q times → list_any (is_at (int_cmp q)) times ≡ true
among_any q [] among = absurd among
among_any q (t ∷ times) (inl is) = ap (λ b. b || list_any (is_at (int_cmp q)) times) (ap (is_at (int_cmp q)) is ∙ (eq_by_cmp_equiv int_cmp_total).refl q)
among_any q (t ∷ times) (inr among) = or_right (is_at (int_cmp q) t) (list_any (is_at (int_cmp q)) times) (among_any q times among)

any_some : (q : ℤ) (columns : List (List Point)) (lines : List Line) → Each (IsLineOf columns) lines → list_any (is_at (int_cmp q)) (times_in lines) ≡ true → has_some (row_at q columns) ≡ true
any_some q columns [] each any = absurd (false≢true any)
any_some q columns (line ∷ lines) each any = by (is_at (int_cmp q) line.time) refl any (λ a. any_some q columns lines each.1 a)
  where
    by : (b : Bool) → is_at (int_cmp q) line.time ≡ b → (b || list_any (is_at (int_cmp q)) (times_in lines)) ≡ true
        → (list_any (is_at (int_cmp q)) (times_in lines) ≡ true → has_some (row_at q columns) ≡ true) → has_some (row_at q columns) ≡ true
    by true e any rest = subst (λ t. has_some (row_at t columns) ≡ true) (sym (same_time q line.time (key_of q line.time e))) (ap has_some (sym each.0.values) ∙ each.0.some)
    by false e any rest = rest any

times_are : (columns : List PointMap) (lines : List Line) → AreLinesOf (map in_order columns) lines → times_in lines ≡ keys (from_entries {R = int_cmp} (flat_map entries columns))
times_are columns lines are =
    let seen : BTreeSet ℤ = record { keys = times_in lines } in
    keys-set seen (flat_map entries columns) (sorted_of lines are.rise) (λ q.
    same_bool (list_any (is_at (int_cmp q)) (times_in lines)) (has_some (row_at q (map in_order columns)))
    (any_some q (map in_order columns) lines are.each) (λ some. among_any q (times_in lines) (are.complete q some))
    ∙ has_is q columns)

lines_at : (columns : List PointMap) (lines : List Line) → Each (IsLineOf (map in_order columns)) lines → lines ≡ map (line_at columns) (times_in lines)
lines_at columns [] each = refl
lines_at columns (line ∷ lines) each =
    ap (λ v. record { time = line.time; values = v } ∷ lines) (each.0.values ∙ row_is line.time columns)
    ∙ ap (λ l. line_at columns line.time ∷ l) (lines_at columns lines each.1)

pub are_rows : (columns : List PointMap) (lines : List Line) → AreLinesOf (map in_order columns) lines → lines ≡ rows columns
are_rows columns lines are = lines_at columns lines are.each ∙ ap (map (line_at columns)) (times_are columns lines are)

-- the points of columns rise

first_part : (a b : Bool) → T (a && b) → T a
first_part true b h = tt
first_part false b h = absurd h

second_part : (a b : Bool) → T (a && b) → T b
second_part true b h = h
second_part false b h = absurd h

of_less : (a b : ℤ) → T (is_lt (int_cmp a b)) → a <ℤ b
of_less a b h = by (int_lt a b) (int_lt b a) refl h
  where
    by : (x y : Bool) → int_lt a b ≡ x → T (is_lt (cond x Less (cond y Greater Equal))) → a <ℤ b
    by true y e h = record { lt = subst T (sym e) tt }
    by false true e h = absurd h
    by false false e h = absurd h

entries_above : (t : ℤ) (es : Entries) → T (below_all int_cmp t es) → All (λ (p : Point). t <ℤ p.time) (map point_of es)
entries_above t [] h = All-nil (λ (p : Point). t <ℤ p.time)
entries_above t (e ∷ es) h =
    All-cons (λ (p : Point). t <ℤ p.time) (point_of e) (map point_of es)
    (of_less t e.0 (first_part (is_lt (int_cmp t e.0)) (below_all int_cmp t es) h)) (entries_above t es (second_part (is_lt (int_cmp t e.0)) (below_all int_cmp t es) h))

entries_rise : (es : Entries) → T (is_sorted int_cmp es) → IsRising (map point_of es)
entries_rise [] h = AllPairs-nil (λ (a b : Point). a.time <ℤ b.time)
entries_rise (e ∷ es) h = AllPairs-cons (λ (a b : Point). a.time <ℤ b.time) (point_of e) (map point_of es)
    (entries_above e.0 es (first_part (below_all int_cmp e.0 es) (is_sorted int_cmp es) h)) (entries_rise es (second_part (below_all int_cmp e.0 es) (is_sorted int_cmp es) h))

pub in_order_rising : (points : PointMap) → IsRising (in_order points)
in_order_rising points = entries_rise (entries points) (entries_sorted points)

pub in_order_rise : (columns : List PointMap) → Each IsRising (map in_order columns)
in_order_rise [] = tt
in_order_rise (points ∷ columns) = (in_order_rising points, in_order_rise columns)
