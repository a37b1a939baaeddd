-- Cells that were read and fit can be put: what a row adds to the counts of the working pair.
use Rattle.std.proofs.Common.{◌≡◌, ◌⊎◌, inl, inr, ⊎_elim, ℕ, ℤ, ◌+◌, ◌<◌, ◌≤◌, Bool, true, false, cond, List, [], ◌∷◌}
use Rattle.std.proofs.Common.{length, map, Option, Some, None, is_some, refl, sym, ap, subst, ◌∙◌, arith, slice_get}
use Rattle.std.specs.Prelude.{All, AllPairs, sum_by}
use Rattle.std.specs.FinMap.{insert, get, len, len-insert}
use Rattle.std.specs.List.{AllByRecursion as Each}
use Rattle.std.specs.Option.{IsSomeAnd, option_map}
use Rattle.std.proofs.lemmas.List.Elements.{All-head, All-tail}
use Rattle.std.proofs.lemmas.List.Sums.{sum_by-cons}
use Rattle.tsdb_base.specs.declared.ids.Space.{Space}
use Rattle.tsdb_base.specs.declared.ids.Space.TheVariants.{Sequence, Unsequence}
use Rattle.tsdb_base.specs.declared.value.Value.{Value}
use Rattle.tsdb_state.proofs.LayerLemmas.Places.{place_cmp_total}
use Rattle.tsdb_base.specs.Lists.{EachPair}
use Rattle.tsdb_state.specs.LayerOrder.{WatermarkMap}
use Rattle.tsdb_state.specs.Places.{Content, PointPlace}
use Rattle.tsdb_log.specs.declared.record.CellRecord.{CellRecord}
use Rattle.tsdb_model.specs.declared.command.Cell.{Cell}
use Rattle.tsdb_model.specs.declared.command.Row.{Row}
use Rattle.tsdb_model.specs.declared.command.Schema.{Schema}
use Rattle.tsdb_memory.proofs.Numbers.{at_map, some_same}
use Rattle.tsdb_memory.proofs.RowCells.{pairs_first, pairs_rest}
use Rattle.tsdb_memory.specs.Model.{IsFitting}
use Rattle.tsdb_memory.specs.StateOfMemory.{IsMemoryOf, series_entry}
use Rattle.tsdb_memory.specs.Store.{MemoryState}
use Rattle.tsdb_memory.proofs.RowLemmas.Cells.{type_fits}
use Rattle.tsdb_memory.proofs.RowLemmas.Counts.{empty_pair, weight}
use Rattle.tsdb_memory.proofs.RowLemmas.Weights.{total_put}
use Rattle.tsdb_memory.specs.Fits.{FitsPair, HasCounts, cell_bytes, row_bytes}
use Rattle.tsdb_memory.specs.RowReading.{AreOfDifferentSeries, AreOfDevice}
use Rattle.tsdb_memtable.specs.Watermarks.{space_by}
use Rattle.tsdb_path.specs.Nodes.{device_of}
use Rattle.tsdb_state.specs.Commands.{AreCells, KeepsBytes}
use Rattle.tsdb_state.specs.Limit.{IsEmptyPair, content_byte_count, point_count}
use Rattle.tsdb_base.specs.Limits.{end_of_numbers, max_pair_bytes, max_pair_points}
use Rattle.tsdb_state.specs.Records.{CanInsert, IsOfDevice, inserted, cell_place, put_record_cells, put_in_pair, put_in_space}
use Rattle.tsdb_state.specs.State.{PairContent, SeriesEntry, StoreState}

-- the counts after a value

len_put : (content : Content) (place : PointPlace) (value : Value) → len (insert content place value) ≤ len content + 1
len_put content place value = subst (λ n. n ≤ len content + 1) (sym (len-insert place_cmp_total content place value))
    (by (is_some (get content place)) (len content))
  where
    by : (b : Bool) (n : ℕ) → cond b n (n + 1) ≤ n + 1
    by true n = omega arith
    by false n = omega arith

count_put : (space : Space) (place : PointPlace) (value : Value) (pair : PairContent)
    → point_count (put_in_space space place value pair) ≤ point_count pair + 1
count_put Sequence place value pair = omega (arith, len_put pair.sequence place value)
count_put Unsequence place value pair = omega (arith, len_put pair.unsequence place value)

bytes_put : (space : Space) (place : PointPlace) (value : Value) (pair : PairContent)
    → content_byte_count (put_in_space space place value pair) ≤ content_byte_count pair + weight value
bytes_put Sequence place value pair = omega (arith, total_put weight pair.sequence place value)
bytes_put Unsequence place value pair = omega (arith, total_put weight pair.unsequence place value)

-- the counts after a row

abbrev item_bytes : CellRecord → ℕ
item_bytes item = weight item.value

count_after : (schemas : List SeriesEntry) (watermarks : WatermarkMap) (time : ℤ) (items : List CellRecord) (pair : PairContent)
    → point_count (put_record_cells schemas watermarks time items pair) ≤ point_count pair + length items
count_after schemas watermarks time [] pair = omega arith
count_after schemas watermarks time (item ∷ items) pair =
    let place = cell_place schemas time item in
    omega (
      arith,
      count_after schemas watermarks time items (put_in_pair watermarks place item.value pair),
      count_put (space_by (get watermarks (device_of place.path)) place.time) place item.value pair,
    )

bytes_after : (schemas : List SeriesEntry) (watermarks : WatermarkMap) (time : ℤ) (items : List CellRecord) (pair : PairContent)
    → content_byte_count (put_record_cells schemas watermarks time items pair) ≤ content_byte_count pair + sum_by item_bytes items
bytes_after schemas watermarks time [] pair = omega arith
bytes_after schemas watermarks time (item ∷ items) pair =
    let place = cell_place schemas time item in
    omega (
      arith,
      bytes_after schemas watermarks time items (put_in_pair watermarks place item.value pair),
      bytes_put (space_by (get watermarks (device_of place.path)) place.time) place item.value pair,
      sum_by-cons item_bytes item items,
    )

-- the cells of a record are as many as those of the row, and count no more bytes

as_many : (schemas : List SeriesEntry) (device : List ℕ) (cells : List Cell) (items : List CellRecord)
    → AreCells schemas device cells items → length items ≡ length cells
as_many schemas device [] [] are = refl
as_many schemas device [] (item ∷ items) are = absurd are
as_many schemas device (cell ∷ cells) [] are = absurd are
as_many schemas device (cell ∷ cells) (item ∷ items) are = omega (arith, as_many schemas device cells items are.1)

bytes_within : (schemas : List SeriesEntry) (device : List ℕ) (cells : List Cell) (items : List CellRecord)
    → AreCells schemas device cells items → sum_by item_bytes items ≤ row_bytes cells
bytes_within schemas device [] [] are = omega arith
bytes_within schemas device [] (item ∷ items) are = absurd are
bytes_within schemas device (cell ∷ cells) [] are = absurd are
bytes_within schemas device (cell ∷ cells) (item ∷ items) are =
    let first = (type_fits cell.value are.0.series.schema.data_type item.value are.0.value).bytes in
    omega (
      arith,
      first,
      bytes_within schemas device cells items are.1,
      sum_by-cons item_bytes item items,
      sum_by-cons cell_bytes cell cells,
    )

-- what the record needs

pub is_live_entry : (series : List Schema) (number : ℕ) (entry : SeriesEntry)
    → slice_get (map series_entry series) number ≡ Some entry → entry.live ≡ true
is_live_entry series number entry at = by (slice_get series number) (sym (at_map series_entry series number) ∙ at)
  where
    by : (o : Option Schema) → option_map series_entry o ≡ Some entry → entry.live ≡ true
    by None e = absurd (cc)
    by (Some schema) e = sym (ap (λ (s : SeriesEntry). s.live) (some_same (series_entry schema) entry e))

is_of_device : (series : List Schema) (device : List ℕ) (item : CellRecord)
    → IsSomeAnd (slice_get series item.series.0) (IsFitting device item)
    → IsSomeAnd (slice_get (map series_entry series) item.series.0) (IsOfDevice device item)
is_of_device series device item there =
    subst (λ o. IsSomeAnd o (IsOfDevice device item)) (sym (at_map series_entry series item.series.0))
    (by (slice_get series item.series.0) there)
  where
    by : (o : Option Schema) → IsSomeAnd o (IsFitting device item)
        → IsSomeAnd (option_map series_entry o) (IsOfDevice device item)
    by None h = h
    by (Some schema) h = record { live = refl; of_device = h.of_device; type = h.type }

all_of_device : (series : List Schema) (device : List ℕ) (items : List CellRecord) → AreOfDevice series device items
    → Each (λ item. IsSomeAnd (slice_get (map series_entry series) item.series.0) (IsOfDevice device item)) items
all_of_device series device [] there = tt
all_of_device series device (item ∷ items) there = (
  is_of_device series device item
      (All-head (λ (item : CellRecord). IsSomeAnd (slice_get series item.series.0) (IsFitting device item)) item items
      there),
  all_of_device series device items
      (All-tail (λ (item : CellRecord). IsSomeAnd (slice_get series item.series.0) (IsFitting device item)) item items
      there),
)

each_of : {X : Type 0} (P : X → Type 0) (xs : List X) → All P xs → Each P xs
each_of P [] all = tt
each_of P (x ∷ xs) all = (All-head P x xs all, each_of P xs (All-tail P x xs all))

each_pair : {X : Type 0} (R : X → X → Type 0) (xs : List X) → AllPairs R xs → EachPair R xs
each_pair R [] all = tt
each_pair R (x ∷ xs) all = (each_of (R x) xs (pairs_first R x xs all), each_pair R xs (pairs_rest R x xs all))

fewer : (a b c d e : ℕ) → b ≤ a + c → a + d ≤ e → c ≤ d → b ≤ e
fewer a b c d e h k l = omega (arith, h, k, l)

at_most_cells : (n m : ℕ) → n ≡ m → n ≤ m
at_most_cells n m e = omega (arith, e)

through : (a b c : ℕ) → a ≤ b → b ≤ c → a ≤ c
through a b c h k = omega (arith, h, k)

module _ (memory : MemoryState) (state : StoreState) (device : List ℕ) (row : Row) (items : List CellRecord)
    (is : IsMemoryOf memory state) (are : AreCells (map series_entry memory.series) device row.cells items)
    (apart : AreOfDifferentSeries items) (there : AreOfDevice memory.series device items)
    (stamp : state.stamp < end_of_numbers) where
  can_insert : IsEmptyPair state.working ⊎ (point_count (inserted row.time items state).working ≤ max_pair_points)
      → CanInsert row.time items state
  can_insert fits = record {
    device = device;
    there = subst (λ l. Each (λ item. IsSomeAnd (slice_get l item.series.0) (IsOfDevice device item)) items)
        (sym is.schemas) (all_of_device memory.series device items there);
    differ = each_pair (λ (item other : CellRecord). item.series.0 ≡ other.series.0 → ⊥) items apart;
    fits = fits;
    stamp = stamp;
  }

  pub put_alone : IsEmptyPair state.working → CanInsert row.time items state × KeepsBytes row.time items state
  put_alone none = (can_insert (inl none), inl none)

  pub put_within : (limit : ℕ) → HasCounts memory.working state.working → limit ≤ max_pair_points
      → FitsPair limit row memory.working → CanInsert row.time items state × KeepsBytes row.time items state
  put_within limit counts most fits = ⊎_elim
      (λ none. put_alone ((empty_pair memory.working state.working counts).0 none))
      (λ few. (
        can_insert (inr (through (point_count (inserted row.time items state).working) limit max_pair_points
            (fewer (point_count state.working) (point_count (inserted row.time items state).working) (length items)
            (length row.cells) limit (count_after state.schemas state.watermarks row.time items state.working)
            (subst (λ n. n + length row.cells ≤ limit) (sym counts.points) few.0)
            (at_most_cells (length items) (length row.cells)
            (as_many (map series_entry memory.series) device row.cells items are))) most)),
        inr (fewer (content_byte_count state.working) (content_byte_count (inserted row.time items state).working)
            (sum_by item_bytes items) (row_bytes row.cells) max_pair_bytes
            (bytes_after state.schemas state.watermarks row.time items state.working)
            (subst (λ n. n + row_bytes row.cells ≤ max_pair_bytes) (sym counts.bytes) few.1)
            (bytes_within (map series_entry memory.series) device row.cells items are)),
      ))
      fits
