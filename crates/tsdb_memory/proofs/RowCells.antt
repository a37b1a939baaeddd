-- The cells of a row, one after another.
use Rattle.std.proofs.Common.{◌≡◌, ◌≢◌, ℕ, ℤ, zero, suc, ◌+◌, ◌<◌, ◌≤◌, Bool, true, false, cond, inl, inr, ⊎_elim, List}
use Rattle.std.proofs.Common.{[], ◌∷◌}
use Rattle.std.proofs.Common.{length, map, take, get_or, Option, Some, None, refl, sym, ap, subst, ◌∙◌, arith, slice_get}
use Rattle.std.specs.Prelude.{◌&&◌, All, AllPairs}
use Rattle.std.proofs.lemmas.Bool.{false≢true}
use Rattle.std.specs.FinMap.{get}
use Rattle.std.specs.Option.{IsSomeAnd, option_map, unwrap_or}
use Rattle.std.proofs.lemmas.List.Elements.{All-cons, All-from_get_or, All-head, All-more, All-nil, All-tail, All-weaker}
use Rattle.tsdb_base.specs.declared.ids.Space.{Space}
use Rattle.tsdb_base.specs.declared.point.Point.{Point}
use Rattle.tsdb_state.specs.LayerOrder.{WatermarkMap}
use Rattle.tsdb_log.specs.declared.record.CellRecord.{CellRecord}
use Rattle.tsdb_model.specs.declared.command.Schema.{Schema}
use Rattle.tsdb_memory.proofs.InTurn.{later_in_turn}
use Rattle.tsdb_memory.proofs.Putting.{in_pair, pair_put, put_here, put_there, rising_put}
use Rattle.tsdb_memory.proofs.Series.{changed_there, itself, one_number}
use Rattle.tsdb_memory.specs.Changes.{is_space, points_with_row}
use Rattle.tsdb_memory.specs.Model.{HasKnownSeries, HasRisingPoints, HasTypedPoints, IsFitting, IsSoundMemory}
use Rattle.tsdb_memory.specs.Rows.{put_row_cells}
use Rattle.tsdb_memory.specs.StateOfMemory.{IsMemoryOf, IsPairOf, series_entry, number_of}
use Rattle.tsdb_memory.specs.Store.{MemoryState}
use Rattle.tsdb_memtable.specs.Pairs.{Pair, SeriesPoints, UsesSpareRoom, change_points, is_series, points_in, points_of}
use Rattle.tsdb_memtable.specs.Pairs.{put_in, spare_of}
use Rattle.tsdb_memtable.specs.Points.{with_point}
use Rattle.tsdb_memtable.specs.Watermarks.{space_by, watermark}
use Rattle.tsdb_path.specs.Nodes.{device_of}
use Rattle.tsdb_base.specs.Limits.{end_of_numbers}
use Rattle.tsdb_state.specs.Records.{inserted, path_of, put_record_cells, put_in_space}
use Rattle.tsdb_state.specs.State as state

abbrev pub HasRoom : Pair → CellRecord → Type 0
HasRoom pair cell = 0 < spare_of cell.series.0 pair

abbrev pub Differs : CellRecord → CellRecord → Type 0
Differs cell other = cell.series.0 ≢ other.series.0

abbrev pub IsThere : List Schema → List ℕ → CellRecord → Type 0
IsThere series device cell = IsSomeAnd (slice_get series cell.series.0) (IsFitting device cell)

pub pairs_first : {X : Type 0} (R : X → X → Type 0) (x : X) (xs : List X) → AllPairs R (x ∷ xs) → All (R x) xs
pairs_first R x xs pairs = All-from_get_or (R x) xs x
    (λ i lt. pairs 0 (suc i) x (omega arith) (omega arith))

pub pairs_rest : {X : Type 0} (R : X → X → Type 0) (x : X) (xs : List X) → AllPairs R (x ∷ xs) → AllPairs R xs
pairs_rest R x xs pairs = λ i j d lt within. pairs (suc i) (suc j) d (omega arith) (omega arith)

-- after a put the other cells still have room
pub room_left : (space : Space) (point : Point) (n : ℕ) (pair : Pair) → 0 < spare_of n pair → (cells : List CellRecord)
    → All (λ cell. n ≢ cell.series.0) cells → All (HasRoom pair) cells
    → All (HasRoom (change_points n (put_in space point) pair)) cells
room_left space point n pair room [] differ all = All-nil (HasRoom (change_points n (put_in space point) pair))
room_left space point n pair room (cell ∷ cells) differ all =
    All-cons (HasRoom (change_points n (put_in space point) pair)) cell cells
    (subst (λ (s : SeriesPoints). 0 < s.spare)
    (sym (changed_there n (put_in space point) pair cell.series.0 (in_pair pair n room)
    (All-head (λ (c : CellRecord). n ≢ c.series.0) cell cells differ)))
    (All-head (HasRoom pair) cell cells all))
    (room_left space point n pair room cells (All-tail (λ (c : CellRecord). n ≢ c.series.0) cell cells differ)
    (All-tail (HasRoom pair) cell cells all))

-- the points of each series after a row, where there is room for its cells
pub row_points : (into : Space) (time : ℤ) (cells : List CellRecord) (pair : Pair) → All (HasRoom pair) cells
    → AllPairs Differs cells → (space : Space) (number : ℕ)
    → points_of space number (put_row_cells into time cells pair)
    ≡ points_with_row into time cells space number (points_of space number pair)
row_points into time [] pair room differ space number = refl
row_points into time (cell ∷ cells) pair room differ space number =
    row_points into time cells (change_points n (put_in into point) pair)
    (room_left into point n pair here cells (pairs_first Differs cell cells differ)
    (All-tail (HasRoom pair) cell cells room)) (pairs_rest Differs cell cells differ) space number
    ∙ ap (points_with_row into time cells space number) (by (is_series n number) refl)
  where
    n : ℕ
    n = cell.series.0

    point : Point
    point = record { time = time; value = cell.value }

    here : HasRoom pair cell
    here = All-head (HasRoom pair) cell cells room

    by : (b : Bool) → is_series n number ≡ b → points_of space number (change_points n (put_in into point) pair)
        ≡ cond (b && is_space into space) (with_point point (points_of space number pair))
        (points_of space number pair)
    by true e = subst (λ k. points_of space k (change_points n (put_in into point) pair)
        ≡ cond (is_space into space) (with_point point (points_of space k pair)) (points_of space k pair))
        (one_number n number e) (put_here into space n point pair here)
    by false e = put_there into space n point pair number here
        (λ same. false≢true (sym e ∙ ap (is_series n) (sym same) ∙ itself n))

-- the path of a series that is there

pub record AtNumber (series : List Schema) (n : ℕ) (P : Schema → Type 0) : Type 0 where
  pub schema : Schema
  pub at : slice_get series n ≡ Some schema
  pub holds : P schema

pub at_number : (series : List Schema) (n : ℕ) (P : Schema → Type 0) → IsSomeAnd (slice_get series n) P
    → AtNumber series n P
at_number series n P h = by (slice_get series n) refl h
  where
    by : (o : Option Schema) → slice_get series n ≡ o → IsSomeAnd o P → AtNumber series n P
    by None e k = absurd k
    by (Some s) e k = record { schema = s; at = e; holds = k }

pub path_at : (series : List Schema) (n : ℕ) (schema : Schema) → slice_get series n ≡ Some schema
    → path_of (map series_entry series) n ≡ schema.path
path_at [] n schema e = absurd (none e)
  where
    none : None ≡ Some schema → ⊥
    none h = cc
path_at (s ∷ series) zero schema e = ap (λ (o : Option Schema). unwrap_or (option_map (λ (x : Schema). x.path) o) []) e
path_at (s ∷ series) (suc n) schema e = path_at series n schema e

module _ (series : List Schema) (watermarks : WatermarkMap) (space : Space) (device : List ℕ) (time : ℤ)
    (once : (number : ℕ) (schema : Schema) → slice_get series number ≡ Some schema
    → number_of series schema.path ≡ Some number)
    (is_space : space ≡ space_by (get watermarks device) time) where
  put_first : (cell : CellRecord) (pair : Pair) (shown : state.PairContent) → IsThere series device cell
      → HasRoom pair cell → IsPairOf series pair shown
      → IsPairOf series (change_points cell.series.0 (put_in space (record { time = time; value = cell.value })) pair)
      (put_record_cells (map series_entry series) watermarks time (cell ∷ []) shown)
  put_first cell pair shown there room is =
      let at = at_number series cell.series.0 (IsFitting device cell) there in
      let path = path_at series cell.series.0 at.schema at.at in
      let same : space ≡ space_by (get watermarks (device_of (path_of (map series_entry series) cell.series.0))) time =
      is_space ∙ ap (λ d. space_by (get watermarks d) time) (sym (ap device_of path ∙ at.holds.of_device)) in
      subst (λ s. IsPairOf series
      (change_points cell.series.0 (put_in space (record { time = time; value = cell.value })) pair)
      (put_in_space s (record { path = path_of (map series_entry series) cell.series.0; time = time }) cell.value shown)) same
      (pair_put series space pair shown cell.series.0 (path_of (map series_entry series) cell.series.0)
      (record { time = time; value = cell.value }) room
      (ap (number_of series) path ∙ once cell.series.0 at.schema at.at) is)

  pub put_row : (cells : List CellRecord) (pair : Pair) (shown : state.PairContent) → All (IsThere series device) cells
      → AllPairs Differs cells → All (HasRoom pair) cells → IsPairOf series pair shown
      → IsPairOf series (put_row_cells space time cells pair) (put_record_cells (map series_entry series) watermarks time cells shown)
  put_row [] pair shown there differ room is = is
  put_row (cell ∷ cells) pair shown there differ room is =
      let here = All-head (HasRoom pair) cell cells room in
      put_row cells (change_points cell.series.0 (put_in space (record { time = time; value = cell.value })) pair)
      (put_record_cells (map series_entry series) watermarks time (cell ∷ []) shown)
      (All-tail (IsThere series device) cell cells there) (pairs_rest Differs cell cells differ)
      (room_left space (record { time = time; value = cell.value }) cell.series.0 pair here cells
      (pairs_first Differs cell cells differ) (All-tail (HasRoom pair) cell cells room))
      (put_first cell pair shown (All-head (IsThere series device) cell cells there) here is)

-- no other series has points after a row

within : (n m : ℕ) (series : List Schema) (s : Schema) → slice_get series n ≡ Some s → length series ≤ m → n ≢ m
within n m [] s e h = absurd (none e)
  where
    none : None ≡ Some s → ⊥
    none k = cc
within zero m (x ∷ series) s e h = λ same. absurd (omega (arith, h, same))
within (suc n) zero (x ∷ series) s e h = λ same. absurd (omega (arith, h))
within (suc n) (suc m) (x ∷ series) s e h = λ same. within n m series s e (omega (arith, h)) (omega (arith, same))

pub known_row : (series : List Schema) (device : List ℕ) (space : Space) (time : ℤ) (cells : List CellRecord) (pair : Pair)
    → All (IsThere series device) cells → AllPairs Differs cells → All (HasRoom pair) cells → HasKnownSeries series pair
    → HasKnownSeries series (put_row_cells space time cells pair)
known_row series device space time [] pair there differ room known = known
known_row series device space time (cell ∷ cells) pair there differ room known =
    let here = All-head (HasRoom pair) cell cells room in
    let point : Point = record { time = time; value = cell.value } in
    let at = at_number series cell.series.0 (IsFitting device cell)
    (All-head (IsThere series device) cell cells there) in
    known_row series device space time cells (change_points cell.series.0 (put_in space point) pair)
    (All-tail (IsThere series device) cell cells there) (pairs_rest Differs cell cells differ)
    (room_left space point cell.series.0 pair here cells (pairs_first Differs cell cells differ)
    (All-tail (HasRoom pair) cell cells room))
    (λ s n beyond. ap (points_in s) (changed_there cell.series.0 (put_in space point) pair n
    (in_pair pair cell.series.0 here) (within cell.series.0 n series at.schema at.at beyond))
    ∙ known s n beyond)

rising_row : (space : Space) (time : ℤ) (cells : List CellRecord) (pair : Pair) → AllPairs Differs cells
    → All (HasRoom pair) cells → HasRisingPoints pair → HasRisingPoints (put_row_cells space time cells pair)
rising_row space time [] pair differ room rising = rising
rising_row space time (cell ∷ cells) pair differ room rising =
    let here = All-head (HasRoom pair) cell cells room in
    let point : Point = record { time = time; value = cell.value } in
    rising_row space time cells (change_points cell.series.0 (put_in space point) pair)
    (pairs_rest Differs cell cells differ)
    (room_left space point cell.series.0 pair here cells (pairs_first Differs cell cells differ)
    (All-tail (HasRoom pair) cell cells room))
    (rising_put space cell.series.0 point pair here rising)

next_within : (n : ℕ) → n < end_of_numbers → n + 1 ≤ end_of_numbers
next_within n h = omega (arith, h)

at_most_next : (a n : ℕ) → a ≤ n → a ≤ n + 1
at_most_next a n h = omega (arith, h)

module _ (store : MemoryState) (device : List ℕ) (space : Space) (time : ℤ) (cells : List CellRecord)
    (there : All (IsThere store.series device) cells) (differ : AllPairs Differs cells)
    (room : All (HasRoom store.working) cells) (sound : IsSoundMemory store) where
  pub inserted_shown : (shown : state.StoreState) → space ≡ space_by (watermark store.watermarks device) time
      → IsMemoryOf store shown
      → IsMemoryOf (record store { stamp = store.stamp + 1; working = put_row_cells space time cells store.working })
      (inserted time cells shown)
  inserted_shown shown rule is = record {
    schemas = is.schemas;
    stamp = ap (λ n. n + 1) is.stamp;
    watermarks = is.watermarks;
    marks = is.marks;
    frozen = is.frozen;
    working = subst (λ schemas. IsPairOf store.series (put_row_cells space time cells store.working)
        (put_record_cells schemas shown.watermarks time cells shown.working)) (sym is.schemas)
        (put_row store.series shown.watermarks space device time sound.once
        (rule ∙ ap (λ o. space_by o time) (sym (is.watermarks device))) cells store.working shown.working
        there differ room is.working);
  }

  pub inserted_sound : store.stamp < end_of_numbers
      → HasTypedPoints store.series (put_row_cells space time cells store.working)
      → IsSoundMemory (record store { stamp = store.stamp + 1; working = put_row_cells space time cells store.working })
  inserted_sound stamp typed = record {
    formed = sound.formed;
    once = sound.once;
    known = known_row store.series device space time cells store.working there differ room sound.known;
    rising = rising_row space time cells store.working differ room sound.rising;
    frozen_known = sound.frozen_known;
    typed = typed;
    frozen_typed = sound.frozen_typed;
    frozen_rising = sound.frozen_rising;
    two = sound.two;
    in_turn = later_in_turn store.stamp store.frozen sound.in_turn;
    versions = All-weaker (λ mark. mark.version.0 ≤ store.stamp) (λ mark. mark.version.0 ≤ store.stamp + 1)
        (λ m h. at_most_next m.version.0 store.stamp h) store.marks.marks sound.versions;
    ends = next_within store.stamp stamp;
  }

-- room

pub room_stays : (old new : Pair) (cell : CellRecord) → UsesSpareRoom old new → HasRoom old cell → HasRoom new cell
room_stays old new cell uses room = ⊎_elim
    (λ e. subst (λ n. 0 < n) (sym e) room)
    (λ both. absurd (none (subst (λ n. 0 < n) both.0 room)))
    (uses cell.series.0)
  where
    none : 0 < 0 → ⊥
    none h = omega (arith, h)

pub uses_both : (old mid new : Pair) → UsesSpareRoom old mid → UsesSpareRoom mid new → UsesSpareRoom old new
uses_both old mid new first second number = ⊎_elim
    (λ e. ⊎_elim (λ f. inl (f ∙ e)) (λ f. inr (sym e ∙ f.0, f.1)) (second number))
    (λ e. ⊎_elim (λ f. inr (e.0, f ∙ e.1)) (λ f. absurd (one (sym e.1 ∙ f.0))) (second number))
    (first number)
  where
    one : ◌≡◌ {A = ℕ} 1 0 → ⊥
    one e = absurd (omega (arith, e))

pub room_more : (cells : List CellRecord) (i : ℕ) (cell : CellRecord) (old new : Pair) → i < length cells
    → cell ≡ get_or cells i cell → All (HasRoom old) (take i cells) → UsesSpareRoom old new → HasRoom new cell
    → All (HasRoom new) (take (i + 1) cells)
room_more cells i cell old new within is all uses here =
    All-more (HasRoom new) cells i cell within
    (All-weaker (HasRoom old) (HasRoom new) (λ other h. room_stays old new other uses h) (take i cells) all)
    (subst (HasRoom new) is here)

pub no_length : {A : Type 0} (xs : List A) → length xs ≡ 0 → xs ≡ []
no_length [] e = refl
no_length (x ∷ xs) e = absurd (omega arith)
