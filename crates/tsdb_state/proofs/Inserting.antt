-- A row: the order stays, its places have its values, and the state stands for the plain map's world after it.
use Rattle.std.proofs.Common.{◌≡◌, ℕ, ℤ, ◌≤◌, Bool, true, false, cond, List, [], ◌∷◌, ◌++◌, map, inl, inr, refl, sym}
use Rattle.std.proofs.Common.{ap}
use Rattle.std.proofs.Common.{◌∙◌, subst}
use Rattle.std.specs.Prelude.{◌⊎◌, ◌&&◌, Option, Some, None, is_some, slice_get}
use Rattle.std.specs.FinMap.{get, insert}
use Rattle.std.specs.List.{AllByRecursion as Each}
use Rattle.std.specs.Option.{IsSomeAnd}
use Rattle.std.specs.Ordering.{eq_by_cmp}
use Rattle.tsdb_base.specs.Values.{type_of}
use Rattle.tsdb_base.specs.declared.answers.Answer.TheVariants.{Done, NoPath, WrongType}
use Rattle.tsdb_base.specs.declared.value.DataType.{DataType}
use Rattle.tsdb_base.specs.declared.value.Value.{Value}
use Rattle.tsdb_base.proofs.Lists.{each_weaker}
use Rattle.tsdb_state.proofs.LayerLemmas.Places.{is_place}
use Rattle.tsdb_state.specs.Layers.{HasPoint}
use Rattle.tsdb_base.specs.Lists.{EachPair}
use Rattle.tsdb_state.specs.Places.{PointPlace, place_cmp}
use Rattle.tsdb_log.specs.declared.record.CellRecord.{CellRecord}
use Rattle.tsdb_model.specs.Apply.{accepted, all_fit, are_there, fits_series, put_cells as map_cells, put_literal}
use Rattle.tsdb_model.specs.Apply.{put_value as put_in, reply_of, value_of as literal_value}
use Rattle.tsdb_model.specs.World.{Series, World, change, change_series, put, value_at}
use Rattle.tsdb_model.specs.declared.command.Cell.{Cell}
use Rattle.tsdb_model.specs.declared.command.Command.TheVariants.{Insert}
use Rattle.tsdb_model.specs.declared.command.Row.{Row}
use Rattle.tsdb_model.specs.declared.reply.Reply.TheVariants.{Plain}
use Rattle.tsdb_path.specs.Nodes.{child_of, device_of}
use Rattle.tsdb_state.proofs.Putting.{pair_holds, put_in_order, put_value}
use Rattle.tsdb_state.proofs.Series.{ArePathsApart, among_at, path_at, series_at, type_of_live}
use Rattle.tsdb_state.proofs.Stamps.{stamps_up, value_stamp}
use Rattle.tsdb_state.proofs.Values.{AreReached, none_in_pair}
use Rattle.tsdb_state.proofs.Worlds.{change_type, put_at, type_in}
use Rattle.tsdb_state.specs.Commands.{AreCells, IsRowCell, KeepsBytes}
use Rattle.tsdb_state.specs.Limit.{IsEmptyPair, IsOneRow, IsWithinPairLimit, empty_pair, point_count}
use Rattle.tsdb_base.specs.Limits.{max_pair_points}
use Rattle.tsdb_state.specs.Records.{CanInsert, IsOfDevice, inserted, path_of, cell_place, put_record_cells, put_in_pair}
use Rattle.tsdb_state.specs.State.{PairContent, SeriesEntry, StoreState, ToldContents}
use Rattle.tsdb_state.specs.StoreOrder.{HasLiveValues, IsOfSeries, LayersInOrder, StoreInOrder, unordered_layers}
use Rattle.tsdb_state.specs.Views.{file_layers, pair_layers, sequence_layer, unsequence_layer}
use Rattle.tsdb_state.specs.Worlds.{StandsFor, type_at, value_at_place}
use Rattle.tsdb_state.proofs.Typed.{AreTyped, typed_append, typed_left, typed_right}

-- what holds of the points of a pair, and of the cells of a row
pub cells_hold : (P : PointPlace → Value → Type 0) (schemas : List SeriesEntry) (state : StoreState) (time : ℤ)
    (cells : List CellRecord) (pair : PairContent)
    → ((q : PointPlace) (w : Value) → HasPoint (pair_layers pair) q w → P q w)
    → Each (λ cell. P (cell_place schemas time cell) cell.value) cells
    → (q : PointPlace) (w : Value) → HasPoint (pair_layers (put_record_cells schemas state.watermarks time cells pair)) q w → P q w
cells_hold P schemas state time [] pair all each = all
cells_hold P schemas state time (cell ∷ cells) pair all each = cells_hold P schemas state time cells
    (put_in_pair state.watermarks (cell_place schemas time cell) cell.value pair) (pair_holds P _ _ _ _ all each.0) each.1

-- a series with the number, which is there
pub record Found (device : List ℕ) (schemas : List SeriesEntry) (cell : CellRecord) : Type 0 where
  pub series : SeriesEntry
  pub at : slice_get schemas cell.series.0 ≡ Some series
  pub of : IsOfDevice device cell series

pub found_in : (device : List ℕ) (schemas : List SeriesEntry) (cell : CellRecord)
    → IsSomeAnd (slice_get schemas cell.series.0) (IsOfDevice device cell) → Found device schemas cell
found_in device schemas cell there = by (slice_get schemas cell.series.0) refl there
  where
    by : (o : Option SeriesEntry) → slice_get schemas cell.series.0 ≡ o → IsSomeAnd o (IsOfDevice device cell)
        → Found device schemas cell
    by None e h = absurd h
    by (Some series) e h = record { series = series; at = e; of = h }

-- what steps of a row keep: all of the order but the limit
pub record IsReady (told : ToldContents) (state : StoreState) : Type 0 where
  pub layers : LayersInOrder told state.watermarks state.sequence state.unsequence state.frozen state.working
  pub reached : AreReached state.marks state.stamp
  pub once : EachPair ArePathsApart state.schemas
  pub live : HasLiveValues told state

abbrev pub Theres : List ℕ → StoreState → List CellRecord → Type 0
Theres device state cells =
    Each (λ cell. IsSomeAnd (slice_get state.schemas cell.series.0) (IsOfDevice device cell)) cells

-- the state with one value more, and with those of a row
abbrev pub with_value : PointPlace → Value → StoreState → StoreState
with_value place value state = record state { working = put_in_pair state.watermarks place value state.working }

abbrev pub with_row : ℤ → List CellRecord → StoreState → StoreState
with_row time cells state = record state { working = put_record_cells state.schemas state.watermarks time cells state.working }

pub cell_type : (device : List ℕ) (state : StoreState) (cell : CellRecord)
    → EachPair ArePathsApart state.schemas → Found device state.schemas cell
    → type_at state.schemas (path_of state.schemas cell.series.0) ≡ Some (type_of cell.value)
cell_type device state cell once found =
    ap (type_at state.schemas) (path_at state.schemas cell.series.0 _ found.at)
    ∙ type_of_live _ _ once (among_at state.schemas cell.series.0 _ found.at) found.of.live
    ∙ ap Some (sym found.of.type)

pub value_ready : (told : ToldContents) (state : StoreState) (place : PointPlace) (value : Value) → IsReady told state
    → type_at state.schemas place.path ≡ Some (type_of value) → IsReady told (with_value place value state)
value_ready told state place value ready typed = record {
  layers = put_in_order told state.watermarks _ _ _ _ place value ready.layers;
  reached = ready.reached;
  once = ready.once;
  live = λ q w is. by q w (eq_by_cmp place_cmp q place) refl
      (sym (put_value told state place value ready.layers ready.reached q) ∙ is);
}
  where
    by : (q : PointPlace) (w : Value) (b : Bool) → eq_by_cmp place_cmp q place ≡ b
        → cond b (Some value) (value_at_place told state q) ≡ Some w → type_at state.schemas q.path ≡ Some (type_of w)
    by q w true e is =
        let same : value ≡ w = cc in
        ap (λ (p : PointPlace). type_at state.schemas p.path) (is_place q place e) ∙ typed ∙ ap (λ v. Some (type_of v)) same
    by q w false e is = ready.live q w is

pub row_ready : (told : ToldContents) (device : List ℕ) (time : ℤ) (cells : List CellRecord) (state : StoreState)
    → IsReady told state → Theres device state cells → IsReady told (with_row time cells state)
row_ready told device time [] state ready there = ready
row_ready told device time (cell ∷ cells) state ready there = row_ready told device time cells
    (with_value (cell_place state.schemas time cell) cell.value state)
    (value_ready told state _ _ ready (cell_type device state _ ready.once (found_in _ _ _ there.0))) there.1

empty_holds : (P : PointPlace → Value → Type 0) (pair : PairContent) → IsEmptyPair pair
    → (q : PointPlace) (w : Value) → HasPoint (pair_layers pair) q w → P q w
empty_holds P pair none q w has = absurd (none_in_pair q w (subst (λ pair. HasPoint (pair_layers pair) q w) same has))
  where
    same : pair ≡ empty_pair
    same = λ i. record { sequence = none.0 i; unsequence = none.1 i }

module _ (told : ToldContents) (time : ℤ) (cells : List CellRecord) (state : StoreState) (order : StoreInOrder told state)
    (can : CanInsert time cells state) where
  pub ready_state : IsReady told state
  ready_state = record {
    layers = order.layers;
    reached = order.stamps.versions;
    once = order.series.once;
    live = order.live;
  }

  abbrev row_state : StoreState
  row_state = with_row time cells state

  pub inserted_value : (place : PointPlace) → value_at_place told (inserted time cells state) place ≡ value_at_place told row_state place
  inserted_value place = value_stamp told row_state place order.stamps.versions

  abbrev IsOfRow : PointPlace → Value → Type 0
  IsOfRow place value = (device_of place.path ≡ can.device) × (place.time ≡ time)

  of_row : (cell : CellRecord) → IsSomeAnd (slice_get state.schemas cell.series.0) (IsOfDevice can.device cell)
      → IsOfRow (cell_place state.schemas time cell) cell.value
  of_row cell there =
      let f = found_in can.device state.schemas cell there in
      (ap device_of (path_at state.schemas cell.series.0 f.series f.at) ∙ f.of.of_device, refl)

  row_of : IsEmptyPair state.working → IsOneRow row_state.working
  row_of none = record {
    device = can.device;
    time = time;
    points = cells_hold IsOfRow state.schemas state time cells state.working (empty_holds IsOfRow state.working none)
        (each_weaker _ _ of_row cells can.there);
  }

  limit : KeepsBytes time cells state → IsWithinPairLimit row_state.working
  limit bytes = by can.fits bytes
    where
      by : IsEmptyPair state.working ⊎ (point_count row_state.working ≤ max_pair_points)
          → KeepsBytes time cells state → IsWithinPairLimit row_state.working
      by (inl none) bytes = inr (inl (row_of none))
      by (inr points) (inl none) = inr (inl (row_of none))
      by (inr points) (inr few) = inr (inr (record { points = points; bytes = few }))

  abbrev IsTyped : PointPlace → Value → Type 0
  IsTyped place value = IsOfSeries state.schemas place.path (type_of value)

  cell_typed : (cell : CellRecord) → IsSomeAnd (slice_get state.schemas cell.series.0) (IsOfDevice can.device cell)
      → IsTyped (cell_place state.schemas time cell) cell.value
  cell_typed cell there =
      let f = found_in can.device state.schemas cell there in
      subst (λ (p : List ℕ). IsOfSeries state.schemas p (type_of cell.value))
      (sym (path_at state.schemas cell.series.0 _ f.at)) (subst (IsOfSeries state.schemas f.series.schema.path)
      (sym f.of.type) (series_at _ cell.series.0 _ f.at))

  typed : AreTyped state.schemas
      (unordered_layers told state.sequence state.unsequence state.frozen row_state.working)
  typed =
      let files = file_layers told state.sequence ++ file_layers told state.unsequence in
      let pairs = map sequence_layer state.frozen ++ map unsequence_layer state.frozen in
      let all = order.series.typed in
      let behind = typed_right state.schemas files (pairs ++ pair_layers state.working) all in
      typed_append _ files _ (typed_left _ files _ all) (typed_append _ pairs _ (typed_left _ pairs _ behind)
      (cells_hold IsTyped state.schemas state time cells state.working (typed_right _ pairs _ behind)
      (each_weaker _ _ cell_typed cells can.there)))

  pub inserted_in_order : KeepsBytes time cells state → StoreInOrder told (inserted time cells state)
  inserted_in_order bytes =
      let row = row_ready _ _ _ _ _ ready_state can.there in
      record {
        layers = row.layers;
        stamps = stamps_up _ _ _ _ _ _ _ order.stamps;
        series = record { formed = order.series.formed; once = order.series.once; typed = typed };
        live = λ place value is. row.live place value (sym (inserted_value _) ∙ is);
        limit = limit bytes;
      }

-- the map's world after a row

record MapSeries (world : World) (path : List ℕ) (type : DataType) : Type 0 where
  series : Series
  is : get world path ≡ Some series
  type_is : series.data_type ≡ type

map_series : (world : World) (path : List ℕ) (type : DataType) → type_in (get world path) ≡ Some type
    → MapSeries world path type
map_series world path type typed = by (get world path) refl typed
  where
    same : (a b : DataType) → Some a ≡ Some b → a ≡ b
    same a b e = cc

    by : (o : Option Series) → get world path ≡ o → type_in o ≡ Some type → MapSeries world path type
    by None e t = absurd (cc)
    by (Some s) e t = record { series = s; is = e; type_is = same s.data_type type t }

record IsMatched (state : StoreState) (device : List ℕ) (world : World) (cell : Cell) (item : CellRecord) : Type 0 where
  path : path_of state.schemas item.series.0 ≡ child_of device cell.measurement
  there : MapSeries world (child_of device cell.measurement) (type_of item.value)
  value : literal_value cell.value there.series.data_type ≡ Some item.value

matched : (told : ToldContents) (state : StoreState) (world : World) (device other : List ℕ) (cell : Cell) (item : CellRecord)
    → EachPair ArePathsApart state.schemas → StandsFor told state world
    → IsRowCell state.schemas device cell item
    → IsSomeAnd (slice_get state.schemas item.series.0) (IsOfDevice other item)
    → IsMatched state device world cell item
matched told state world device other cell item once stands is there =
    let found = found_in other state.schemas item there in
    let same : is.series ≡ found.series = one is.series found.series (sym is.at ∙ found.at) in
    let path : path_of state.schemas item.series.0 ≡ child_of device cell.measurement = path_at state.schemas
    item.series.0 _ is.at
    ∙ is.of_path in
    let typed = map_series world (child_of device cell.measurement) (type_of item.value)
    (stands.types (child_of device cell.measurement) ∙ ap (type_at state.schemas) (sym path) ∙ cell_type other state
    item once found) in
    record {
      path = path;
      there = typed;
      value =
          ap (literal_value cell.value) (typed.type_is ∙ found.of.type ∙ ap (λ (s : SeriesEntry). s.schema.data_type)
          (sym same))
          ∙ is.value;
    }
  where
    one : (a b : SeriesEntry) → Some a ≡ Some b → a ≡ b
    one a b e = cc

keeps_type : (time : ℤ) (value : Option Value) (s : Series) → (put_in time value s).data_type ≡ s.data_type
keeps_type time None s = refl
keeps_type time (Some v) s = refl

cell_stands : (told : ToldContents) (state : StoreState) (world : World) (device : List ℕ) (time : ℤ) (cell : Cell)
    (item : CellRecord)
    → IsReady told state → StandsFor told state world → IsMatched state device world cell item
    → StandsFor told (with_value (cell_place state.schemas time item) item.value state)
    (change world (child_of device cell.measurement) (put_literal time cell.value))
cell_stands told state world device time cell item ready stands m = record {
  types = λ path. change_type _ _ _ _ (λ s. keeps_type _ _ s) ∙ stands.types path;
  values =
      λ q. ap (λ w. value_at w q.path q.time) changed
      ∙ put_at _ _ q _ _ m.there.is
      ∙ (λ i. cond (eq_by_cmp place_cmp q (record { path = sym m.path i; time = time })) (Some item.value)
      (stands.values q i))
      ∙ sym (put_value told state (cell_place state.schemas time item) item.value ready.layers ready.reached q);
}
  where
    changed : change world (child_of device cell.measurement) (put_literal time cell.value)
        ≡ insert world (child_of device cell.measurement) (put time item.value m.there.series)
    changed =
        ap (change_series world (child_of device cell.measurement) (put_literal time cell.value)) m.there.is
        ∙ ap (λ v. insert world (child_of device cell.measurement) (put_in time v m.there.series)) m.value

row_stands : (told : ToldContents) (device other : List ℕ) (time : ℤ) (cells : List Cell) (items : List CellRecord)
    (state : StoreState) (world : World)
    → IsReady told state → StandsFor told state world → AreCells state.schemas device cells items
    → Theres other state items
    → StandsFor told (with_row time items state) (map_cells world device time cells)
row_stands told device other time [] [] state world ready stands are there = stands
row_stands told device other time [] (item ∷ items) state world ready stands are there = absurd are
row_stands told device other time (cell ∷ cells) [] state world ready stands are there = absurd are
row_stands told device other time (cell ∷ cells) (item ∷ items) state world ready stands are there =
    let m = matched told state world device other cell item ready.once stands are.0 there.0 in
    row_stands told device other time cells items (with_value (cell_place state.schemas time item) item.value state)
    (change world (child_of device cell.measurement) (put_literal time cell.value))
    (value_ready told state _ _ ready (cell_type other state item ready.once (found_in _ _ _ there.0)))
    (cell_stands _ _ _ _ _ _ _ ready stands m) are.1 there.1

-- the map accepts the row

row_fits : (told : ToldContents) (device other : List ℕ) (cells : List Cell) (items : List CellRecord) (state : StoreState)
    (world : World)
    → EachPair ArePathsApart state.schemas → StandsFor told state world → AreCells state.schemas device cells items
    → Theres other state items
    → (are_there world device (map (λ cell. cell.measurement) cells) ≡ true) × (all_fit world device cells ≡ true)
row_fits told device other [] [] state world once stands are there = (refl, refl)
row_fits told device other [] (item ∷ items) state world once stands are there = absurd are
row_fits told device other (cell ∷ cells) [] state world once stands are there = absurd are
row_fits told device other (cell ∷ cells) (item ∷ items) state world once stands are there =
    let m = matched _ _ _ _ _ _ _ once stands are.0 there.0 in
    let rest = row_fits told device other cells items state world once stands are.1 there.1 in (
      (λ i. is_some (m.there.is i) && rest.0 i),
      (λ i. fits_series cell.value (m.there.is i) && rest.1 i) ∙ ap (λ o. is_some o && true) m.value,
    )

module _ (told : ToldContents) (device : List ℕ) (row : Row) (items : List CellRecord) (state : StoreState)
    (order : StoreInOrder told state) (can : CanInsert row.time items state) (world : World)
    (stands : StandsFor told state world) (are : AreCells state.schemas device row.cells items) where
  pub inserted_reply : reply_of world (Insert device row) ≡ Plain Done
  inserted_reply =
      let fits = row_fits _ _ _ _ _ _ _ order.series.once stands are can.there in
      λ i. Plain (cond (fits.0 i) (cond (fits.1 i) Done WrongType) NoPath)

  pub inserted_stands : StandsFor told (inserted row.time items state) (accepted world (Insert device row))
  inserted_stands =
      let after = row_stands _ _ _ _ _ _ _ _ (ready_state _ _ _ _ order can) stands are can.there in
      record { types = after.types; values = λ place. after.values place ∙ sym (inserted_value _ _ _ _ order can _) }
