-- Of two points at one place the one written last wins, and every other place is as it was.
use Rattle.std.proofs.Common.{◌≡◌, ℕ, zero, suc, ℤ, Bool, true, false, cond, List, [], ◌∷◌, inl, inr, refl, sym, ap}
use Rattle.std.proofs.Common.{◌∙◌}
use Rattle.std.proofs.Common.{subst}
use Rattle.std.specs.Prelude.{◌≢◌, Option, Some, slice_get}
use Rattle.std.specs.List.{AllByRecursion as Each}
use Rattle.std.specs.Option.{IsSomeAnd}
use Rattle.std.specs.Ordering.{eq_by_cmp}
use Rattle.tsdb_base.specs.declared.value.Value.{Value}
use Rattle.tsdb_base.proofs.Lists.{each_among, each_both}
use Rattle.tsdb_state.proofs.LayerLemmas.Places.{is_place, place_itself}
use Rattle.tsdb_base.specs.Lists.{Among, EachPair}
use Rattle.tsdb_state.specs.Places.{PointPlace, place_cmp}
use Rattle.tsdb_log.specs.declared.record.CellRecord.{CellRecord}
use Rattle.tsdb_state.proofs.Inserting.{Found, IsReady, Theres, cell_type, found_in, inserted_value, ready_state}
use Rattle.tsdb_state.proofs.Inserting.{value_ready}
use Rattle.tsdb_state.proofs.Inserting.{with_row, with_value}
use Rattle.tsdb_state.proofs.Putting.{put_value}
use Rattle.tsdb_state.proofs.Series.{ArePathsApart, among_at, path_at}
use Rattle.tsdb_state.specs.Records.{CanInsert, IsOfDevice, inserted, cell_place}
use Rattle.tsdb_state.specs.State.{SeriesEntry, StoreState, ToldContents}
use Rattle.tsdb_state.specs.StoreOrder.{StoreInOrder}
use Rattle.tsdb_state.specs.Worlds.{value_at_place}

-- series that are there, of one path, have one number
one_number : (schemas : List SeriesEntry) (n m : ℕ) (a b : SeriesEntry) → EachPair ArePathsApart schemas
    → slice_get schemas n ≡ Some a → slice_get schemas m ≡ Some b → a.live ≡ true → b.live ≡ true
    → a.schema.path ≡ b.schema.path → n ≡ m
one_number [] n m a b once at bt al bl same = absurd (cc)
one_number (first ∷ schemas) zero zero a b once at bt al bl same = refl
one_number (first ∷ schemas) zero (suc m) a b once at bt al bl same =
    let is : first ≡ a = cc in
    absurd (each_among _ _ b once.0 (among_at _ m b bt) (ap (λ (s : SeriesEntry). s.live) is ∙ al) bl
    (ap (λ (s : SeriesEntry). s.schema.path) is ∙ same))
one_number (first ∷ schemas) (suc n) zero a b once at bt al bl same =
    let is : first ≡ b = cc in
    absurd (each_among _ _ a once.0 (among_at _ n a at) (ap (λ (s : SeriesEntry). s.live) is ∙ bl) al
    (ap (λ (s : SeriesEntry). s.schema.path) is ∙ sym same))
one_number (first ∷ schemas) (suc n) (suc m) a b once at bt al bl same = ap suc
    (one_number schemas n m a b once.1 at bt al bl same)

-- cells of different series have different places
places_apart : (device : List ℕ) (schemas : List SeriesEntry) (time : ℤ) (cell other : CellRecord)
    → EachPair ArePathsApart schemas → Found device schemas cell → Found device schemas other
    → cell.series.0 ≢ other.series.0 → cell_place schemas time other ≢ cell_place schemas time cell
places_apart device schemas time cell other once a b apart same =
    apart (one_number _ _ _ _ _ once a.at b.at a.of.live b.of.live
    (sym (path_at schemas cell.series.0 _ a.at) ∙ ap (λ (p : PointPlace). p.path) (sym same) ∙ path_at schemas other.series.0
    _ b.at))

not_there : (q place : PointPlace) → place ≢ q → eq_by_cmp place_cmp q place ≡ false
not_there q place apart = by (eq_by_cmp place_cmp q place) refl
  where
    by : (b : Bool) → eq_by_cmp place_cmp q place ≡ b → eq_by_cmp place_cmp q place ≡ false
    by true e = absurd (apart (sym (is_place q _ e)))
    by false e = e

abbrev value_after : ToldContents → StoreState → PointPlace → CellRecord → ℤ → Option Value
value_after told state q cell time = value_at_place told (with_value (cell_place state.schemas time cell) cell.value state) q

one_step : (told : ToldContents) (state : StoreState) (time : ℤ) (cell : CellRecord) (q : PointPlace) → IsReady told state
    → value_after told state q cell time
    ≡ cond (eq_by_cmp place_cmp q (cell_place state.schemas time cell)) (Some cell.value) (value_at_place told state q)
one_step told state time cell q is_ready = put_value _ state _ _ is_ready.layers is_ready.reached q

next_ready : (told : ToldContents) (device : List ℕ) (state : StoreState) (time : ℤ) (cell : CellRecord) → IsReady told state
    → IsSomeAnd (slice_get state.schemas cell.series.0) (IsOfDevice device cell)
    → IsReady told (with_value (cell_place state.schemas time cell) cell.value state)
next_ready told device state time cell is_ready there =
    value_ready _ _ _ _ is_ready (cell_type _ state _ is_ready.once (found_in _ _ _ there))

pub others_stay : (told : ToldContents) (device : List ℕ) (time : ℤ) (cells : List CellRecord) (state : StoreState) (q : PointPlace)
    → IsReady told state → Theres device state cells → Each (λ cell. cell_place state.schemas time cell ≢ q) cells
    → value_at_place told (with_row time cells state) q ≡ value_at_place told state q
others_stay told device time [] state q is_ready there apart = refl
others_stay told device time (cell ∷ cells) state q is_ready there apart =
    others_stay told device time cells (with_value (cell_place state.schemas time cell) cell.value state) q
    (next_ready _ _ _ _ _ is_ready there.0) there.1 apart.1
    ∙ one_step _ _ _ _ q is_ready
    ∙ ap (λ b. cond b (Some cell.value) (value_at_place told state q)) (not_there q _ apart.0)

pub cells_win : (told : ToldContents) (device : List ℕ) (time : ℤ) (cells : List CellRecord) (state : StoreState)
    (cell : CellRecord)
    → IsReady told state → Theres device state cells
    → EachPair (λ (a b : CellRecord). a.series.0 ≢ b.series.0) cells → Among cell cells
    → value_at_place told (with_row time cells state) (cell_place state.schemas time cell) ≡ Some cell.value
cells_win told device time [] state cell is_ready there differ among = absurd among
cells_win told device time (first ∷ cells) state cell is_ready there differ (inl is) =
    subst (λ (c : CellRecord). value_at_place told (with_row time (first ∷ cells) state) (cell_place state.schemas time c) ≡
    Some c.value) is (others_stay _ _ _ _ _ _ (next_ready _ _ _ _ _ is_ready there.0) there.1
    (each_both _ _ _ (λ other t apart. places_apart _ _ _ _ _ is_ready.once (found_in _ _ _ there.0) (found_in _ _ _ t)
    apart) _ there.1 differ.0) ∙ one_step _ _ _ _ _ is_ready
    ∙ ap (λ b. cond b (Some first.value) (value_at_place told state (cell_place state.schemas time first))) (place_itself _))
cells_win told device time (first ∷ cells) state cell is_ready there differ (inr among) = cells_win told device time
    cells (with_value (cell_place state.schemas time first) first.value state) cell
    (next_ready _ _ _ _ _ is_ready there.0) there.1 differ.1 among

module _ (told : ToldContents) (time : ℤ) (cells : List CellRecord) (state : StoreState) (order : StoreInOrder told state)
    (can : CanInsert time cells state) where
  pub last_wins : (cell : CellRecord) → Among cell cells
      → value_at_place told (inserted time cells state) (cell_place state.schemas time cell) ≡ Some cell.value
  last_wins cell among =
      inserted_value _ _ _ _ order can _
      ∙ cells_win _ _ _ _ _ _ (ready_state _ _ _ _ order can) can.there can.differ among

  pub rest_stays : (place : PointPlace) → Each (λ cell. cell_place state.schemas time cell ≢ place) cells
      → value_at_place told (inserted time cells state) place ≡ value_at_place told state place
  rest_stays place apart =
      inserted_value _ _ _ _ order can _
      ∙ others_stay _ _ _ _ _ _ (ready_state _ _ _ _ order can) can.there apart
