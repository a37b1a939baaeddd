-- Each point keeps the type of its series.
use Rattle.std.proofs.Common.{◌≡◌, ℕ, ℤ, ◌<◌, ◌≤◌, Bool, true, false, cond, ⊎_elim, List, [], ◌∷◌, ◌++◌}
use Rattle.std.proofs.Common.{length, Some, refl, sym, ap, subst, ◌∙◌, arith, slice_get}
use Rattle.std.specs.Prelude.{All, AllPairs}
use Rattle.std.specs.List.{AllByRecursion as Each, filter}
use Rattle.std.specs.Ordering.{eq_by_cmp, nat_cmp}
use Rattle.std.proofs.lemmas.Bool.{false≢true}
use Rattle.std.proofs.lemmas.List.Elements.{All-cons, All-head, All-nil, All-tail}
use Rattle.tsdb_base.specs.Values.{type_of}
use Rattle.tsdb_base.specs.declared.ids.Space.{Space}
use Rattle.tsdb_base.specs.declared.point.Point.{Point}
use Rattle.tsdb_base.specs.declared.point.Range.{Range}
use Rattle.tsdb_base.proofs.Lists.{each_append, each_filter}
use Rattle.tsdb_log.specs.declared.record.CellRecord.{CellRecord}
use Rattle.tsdb_model.specs.declared.command.Schema.{Schema}
use Rattle.tsdb_memory.proofs.Numbers.{get_push, some_same}
use Rattle.tsdb_memory.proofs.Putting.{put_here, put_there}
use Rattle.tsdb_memory.specs.Changes.{is_space}
use Rattle.tsdb_memory.proofs.RowCells.{Differs, HasRoom, IsThere, at_number, pairs_first, pairs_rest, room_left}
use Rattle.tsdb_memory.proofs.Series.{erased_here, erased_there, itself, one_number}
use Rattle.tsdb_memory.specs.Model.{HasKnownSeries, HasTypedPoints, IsFitting}
use Rattle.tsdb_memory.specs.Rows.{put_row_cells}
use Rattle.tsdb_memtable.specs.Pairs.{Pair, change_points, points_of, put_in, spare_of, without_range}
use Rattle.tsdb_memtable.specs.Points.{is_after, is_before, is_outside, with_point}

abbrev IsOfType : Schema → Point → Type 0
IsOfType schema point = type_of point.value ≡ schema.data_type

-- what follows of each element from two facts
pub all_both : {X : Type 0} (P Q R : X → Type 0) → ((x : X) → P x → Q x → R x) → (xs : List X) → All P xs → All Q xs
    → All R xs
all_both P Q R both [] ps qs = All-nil R
all_both P Q R both (x ∷ xs) ps qs = All-cons R x xs (both x (All-head P x xs ps) (All-head Q x xs qs))
    (all_both P Q R both xs (All-tail P x xs ps) (All-tail Q x xs qs))

at_least : (n m : ℕ) → n ≡ m → m ≤ n
at_least n m same = omega (arith, same)

-- a series that joins has no point yet
pub typed_push : (series : List Schema) (schema : Schema) (pair : Pair) → HasKnownSeries series pair
    → HasTypedPoints series pair → HasTypedPoints (series ++ schema ∷ []) pair
typed_push series schema pair known typed space number other at =
    ⊎_elim (λ there. typed space number other there)
    (λ last. subst (Each (IsOfType other)) (sym (known space number (at_least number (length series) last.0))) tt)
    (get_push series schema other number at)

-- after a deletion
pub typed_cut : (series : List Schema) (pair : Pair) (n : ℕ) (range : Range) → HasTypedPoints series pair
    → HasTypedPoints series (change_points n (without_range range) pair)
typed_cut series pair n range typed space number schema at = by (eq_by_cmp nat_cmp n number) refl
  where
    by : (b : Bool) → eq_by_cmp nat_cmp n number ≡ b
        → Each (IsOfType schema) (points_of space number (change_points n (without_range range) pair))
    by true e =
        let same = one_number n number e in
        subst (λ k. Each (IsOfType schema) (points_of space k (change_points n (without_range range) pair))) same
        (subst (Each (IsOfType schema)) (sym (erased_here space n range pair))
        (each_filter (IsOfType schema) (is_outside range) (points_of space n pair)
        (subst (λ k. Each (IsOfType schema) (points_of space k pair)) (sym same) (typed space number schema at))))
    by false e =
        subst (Each (IsOfType schema))
        (sym (erased_there space n range pair number
        (λ same. false≢true (sym e ∙ ap (eq_by_cmp nat_cmp n) (sym same) ∙ itself n))))
        (typed space number schema at)

with_point_typed : (schema : Schema) (point : Point) (points : List Point) → IsOfType schema point
    → Each (IsOfType schema) points → Each (IsOfType schema) (with_point point points)
with_point_typed schema point points one all =
    each_append (IsOfType schema) (filter (is_before point.time) points) (point ∷ filter (is_after point.time) points)
    (each_filter (IsOfType schema) (is_before point.time) points all)
    (one, each_filter (IsOfType schema) (is_after point.time) points all)

-- after a put of a point of the series' type
typed_put : (series : List Schema) (space : Space) (n : ℕ) (point : Point) (pair : Pair) (schema : Schema)
    → 0 < spare_of n pair → slice_get series n ≡ Some schema → IsOfType schema point
    → HasTypedPoints series pair → HasTypedPoints series (change_points n (put_in space point) pair)
typed_put series space n point pair schema room there one typed other number found at =
    by (eq_by_cmp nat_cmp n number) refl
  where
    chosen : (b : Bool) → slice_get series n ≡ Some found
        → Each (IsOfType found) (cond b (with_point point (points_of other n pair)) (points_of other n pair))
    chosen true here = with_point_typed found point (points_of other n pair)
        (subst (λ s. IsOfType s point) (some_same schema found (sym there ∙ here)) one) (typed other n found here)
    chosen false here = typed other n found here

    by : (b : Bool) → eq_by_cmp nat_cmp n number ≡ b
        → Each (IsOfType found) (points_of other number (change_points n (put_in space point) pair))
    by true e =
        let same = one_number n number e in
        subst (λ k. Each (IsOfType found) (points_of other k (change_points n (put_in space point) pair))) same
        (subst (Each (IsOfType found)) (sym (put_here space other n point pair room))
        (chosen (is_space space other) (subst (λ k. slice_get series k ≡ Some found) (sym same) at)))
    by false e =
        subst (Each (IsOfType found))
        (sym (put_there space other n point pair number room
        (λ same. false≢true (sym e ∙ ap (eq_by_cmp nat_cmp n) (sym same) ∙ itself n))))
        (typed other number found at)

-- after a row
pub typed_row : (series : List Schema) (device : List ℕ) (space : Space) (time : ℤ) (cells : List CellRecord) (pair : Pair)
    → All (IsThere series device) cells → AllPairs Differs cells → All (HasRoom pair) cells → HasTypedPoints series pair
    → HasTypedPoints series (put_row_cells space time cells pair)
typed_row series device space time [] pair there differ room typed = typed
typed_row series device space time (cell ∷ cells) pair there differ room typed =
    let here = All-head (HasRoom pair) cell cells room in
    let point : Point = record { time = time; value = cell.value } in
    let at = at_number series cell.series.0 (IsFitting device cell)
    (All-head (IsThere series device) cell cells there) in
    typed_row series device space time cells (change_points cell.series.0 (put_in space point) pair)
    (All-tail (IsThere series device) cell cells there) (pairs_rest Differs cell cells differ)
    (room_left space point cell.series.0 pair here cells (pairs_first Differs cell cells differ)
    (All-tail (HasRoom pair) cell cells room))
    (typed_put series space cell.series.0 point pair at.schema here at.at at.holds.type typed)
