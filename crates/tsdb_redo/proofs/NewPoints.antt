-- Whether a series has a point at a time, and the loop that counts those without one.
use Rattle.std.proofs.Common.{◌≡◌, ℕ, suc, ℤ, ◌+◌, ◌<◌, ◌≤◌, Bool, true, false, cond, ◌&&◌, ◌==◌, List, [], ◌∷◌, length}
use Rattle.std.proofs.Common.{Option, Some, None, find, is_some, drop, get_or, refl, sym, ap, ◌∙◌, arith, add-one}
use Rattle.std.proofs.Math.Seq.{drop-cons}
use Rattle.std.proofs.lemmas.Bool.{false≢true}
use Rattle.std.proofs.lemmas.Int.{ints}
use Rattle.std.proofs.lemmas.List.{drop_all}
use Rattle.std.specs.List.{filter}
use Rattle.std.specs.Option.{option_map}
use Rattle.std.specs.Ordering.{int_eq}
use Rattle.std.specs.Prelude.{◌↔◌, IsTrue, int_le}
use Rattle.tsdb_base.specs.declared.ids.Space.{Space}
use Rattle.tsdb_base.specs.declared.point.Point.{Point}
use Rattle.tsdb_base.specs.declared.point.Range.{Range}
use Rattle.tsdb_base.specs.declared.value.Value.{Value}
use Rattle.tsdb_log.specs.declared.record.CellRecord.{CellRecord}
use Rattle.tsdb_memory.specs.StateOfMemory.{point_value_at}
use Rattle.tsdb_memtable.specs.Pairs.{Pair, points_of}
use Rattle.tsdb_memtable.specs.Points.{is_point_within}
use Rattle.tsdb_redo.specs.Rows.{new_points}

at_one_time : (t p : ℤ) → (int_le t p && int_le p t) ≡ int_eq t p
at_one_time t p = by (int_eq t p) refl
  where
    by : (b : Bool) → int_eq t p ≡ b → (int_le t p && int_le p t) ≡ b
    by true e = grind (arith, ints, e)
    by false e = grind (arith, ints, e)

-- no point is at the one time of a range exactly where there is no value at the time
none_at : (time : ℤ) (range : Range) → range.from ≡ time → range.to ≡ time → (points : List Point)
    → (length (filter (is_point_within range) points) ≡ 0) ↔ (point_value_at time points ≡ None)
none_at time range from to [] = (λ e. refl, λ e. refl)
none_at time range from to (point ∷ points) = by (is_point_within range point) (int_eq time point.time) same (none_at time range from to points)
  where
    same : is_point_within range point ≡ int_eq time point.time
    same = ap (λ t. int_le t point.time && int_le point.time range.to) from
        ∙ ap (λ t. int_le time point.time && int_le point.time t) to ∙ at_one_time time point.time

    by : (a b : Bool) → a ≡ b
        → (length (filter (is_point_within range) points) ≡ 0) ↔ (point_value_at time points ≡ None)
        → (length (cond a (point ∷ filter (is_point_within range) points) (filter (is_point_within range) points)) ≡ 0)
        ↔ (option_map (λ (p : Point). p.value) (cond b (Some point) (find (λ (p : Point). int_eq time p.time) points)) ≡ None)
    by true true e rest = (λ zero. absurd (omega (arith, zero)), λ none. absurd cc)
    by false false e rest = rest
    by true false e rest = absurd (false≢true (sym e))
    by false true e rest = absurd (false≢true e)

zero_by : (n : ℕ) → IsTrue (n == 0) ↔ (n ≡ 0)
zero_by n = (λ e. grind (arith, e), λ e. grind (arith, e))

pub is_new_by : (time : ℤ) (range : Range) (points slice : List Point) → range.from ≡ time → range.to ≡ time
    → slice ≡ filter (is_point_within range) points → (b : Bool) → b ≡ (length slice == 0)
    → IsTrue b ↔ (point_value_at time points ≡ None)
is_new_by time range points slice from to is b e =
    let none = none_at time range from to points in
    let zero = zero_by (length slice) in (
      λ yes. none.0 (ap length (sym is) ∙ zero.0 (sym e ∙ yes)),
      λ no_value. e ∙ zero.1 (ap length is ∙ none.1 no_value),
    )

-- the loop over the cells
module _ (space : Space) (time : ℤ) (pair : Pair) (cells : List CellRecord) (i : ℕ) (cell : CellRecord)
    (below : i < length cells) (is : cell ≡ get_or cells i cell) where
  next : new_points space time pair (drop i cells)
      ≡ cond (is_some (point_value_at time (points_of space cell.series.0 pair))) 0 1 + new_points space time pair (drop (i + 1) cells)
  next = ap (new_points space time pair)
      (drop-cons cells i cell below ∙ ap (λ c. c ∷ drop (suc i) cells) (sym is) ∙ ap (λ n. cell ∷ drop n cells) (sym (add-one i)))

  one_if : (o : Option Value) → o ≡ None → ◌≡◌ {A = ℕ} (cond (is_some o) 0 1) 1
  one_if None e = refl
  one_if (Some v) e = absurd cc

  none_if : (o : Option Value) → (o ≡ None → ⊥) → ◌≡◌ {A = ℕ} (cond (is_some o) 0 1) 0
  none_if None e = absurd (e refl)
  none_if (Some v) e = refl

  pub counted : (count next_count all : ℕ) → next_count ≡ count + 1 → point_value_at time (points_of space cell.series.0 pair) ≡ None
      → count + new_points space time pair (drop i cells) ≡ all
      → next_count + new_points space time pair (drop (i + 1) cells) ≡ all
  counted count next_count all one_more none so_far = omega (arith, one_more, so_far, next, one_if (point_value_at time (points_of space cell.series.0 pair)) none)

  pub not_counted : (count next_count all : ℕ) → next_count ≡ count → (point_value_at time (points_of space cell.series.0 pair) ≡ None → ⊥)
      → count + new_points space time pair (drop i cells) ≡ all
      → next_count + new_points space time pair (drop (i + 1) cells) ≡ all
  not_counted count next_count all same some so_far = omega (arith, same, so_far, next, none_if (point_value_at time (points_of space cell.series.0 pair)) some)

pub all_counted : (space : Space) (time : ℤ) (pair : Pair) (cells : List CellRecord) (i count all : ℕ) → length cells ≤ i
    → count + new_points space time pair (drop i cells) ≡ all → count ≡ all
all_counted space time pair cells i count all end so_far =
    let none : new_points space time pair (drop i cells) ≡ 0 = ap (new_points space time pair) (drop_all i cells end) in
    omega (arith, none, so_far)
