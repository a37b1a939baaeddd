-- How many points a pair has after the cells of a row were put.
use Rattle.std.proofs.Common.{◌≡◌, ◌≢◌, ℕ, suc, ℤ, ◌+◌, ◌≤◌, Bool, true, false, cond, List, [], ◌∷◌, length}
use Rattle.std.proofs.Common.{Some, refl, sym, ap, ◌∙◌, arith, is_some}
use Rattle.std.specs.FinMap.{get, len, len-insert}
use Rattle.std.specs.List.{AllByRecursion as Each}
use Rattle.std.specs.Ordering.{eq_by_cmp}
use Rattle.tsdb_base.specs.declared.ids.Space.{Space}
use Rattle.tsdb_base.specs.declared.ids.Space.TheVariants.{Sequence, Unsequence}
use Rattle.tsdb_base.specs.declared.value.Value.{Value}
use Rattle.tsdb_state.proofs.LayerLemmas.Places.{get_put, is_place, place_cmp_total}
use Rattle.tsdb_base.specs.Lists.{EachPair}
use Rattle.tsdb_state.specs.LayerOrder.{WatermarkMap}
use Rattle.tsdb_state.specs.Places.{Content, PointPlace, place_cmp, put_content}
use Rattle.tsdb_log.specs.declared.record.CellRecord.{CellRecord}
use Rattle.tsdb_memory.specs.StateOfMemory.{part_of}
use Rattle.tsdb_memtable.specs.Watermarks.{space_by}
use Rattle.tsdb_path.specs.Nodes.{device_of}
use Rattle.tsdb_state.specs.Limit.{point_count}
use Rattle.tsdb_state.specs.Records.{path_of, cell_place, put_record_cells, put_in_pair, put_in_space}
use Rattle.tsdb_state.specs.State.{PairContent, SeriesEntry}

-- the cells without a point
abbrev pub fresh : (CellRecord → Bool) → List CellRecord → ℕ
fresh has [] = 0
fresh has (cell ∷ cells) = cond (has cell) 0 1 + fresh has cells

pub few_fresh : (has : CellRecord → Bool) (cells : List CellRecord) → fresh has cells ≤ length cells
few_fresh has [] = omega arith
few_fresh has (cell ∷ cells) = by (has cell) (few_fresh has cells)
  where
    by : (b : Bool) → fresh has cells ≤ length cells → cond b 0 1 + fresh has cells ≤ suc (length cells)
    by true rest = omega (arith, rest)
    by false rest = omega (arith, rest)

-- one point is put
len_put : (content : Content) (place : PointPlace) (value : Value) (b : Bool) → b ≡ is_some (get content place)
    → len (put_content place value content) ≡ len content + cond b 0 1
len_put content place value b is = len-insert place_cmp_total content place value ∙ by b is
  where
    by : (b : Bool) → b ≡ is_some (get content place)
        → cond (is_some (get content place)) (len content) (len content + 1) ≡ len content + cond b 0 1
    by true e = ap (λ t. cond t (len content) (len content + 1)) (sym e) ∙ omega arith
    by false e = ap (λ t. cond t (len content) (len content + 1)) (sym e)

count_put : (space : Space) (pair : PairContent) (place : PointPlace) (value : Value) (b : Bool)
    → b ≡ is_some (get (part_of space pair) place)
    → point_count (put_in_space space place value pair) ≡ point_count pair + cond b 0 1
count_put Sequence pair place value b is = omega (arith, len_put pair.sequence place value b is)
count_put Unsequence pair place value b is = omega (arith, len_put pair.unsequence place value b is)

part_put : (space : Space) (pair : PairContent) (place other : PointPlace) (value : Value) → place ≢ other
    → is_some (get (part_of space (put_in_space space place value pair)) other) ≡ is_some (get (part_of space pair) other)
part_put space pair place other value apart = by space
  where
    elsewhere : (content : Content) → is_some (get (put_content place value content) other) ≡ is_some (get content other)
    elsewhere content = ap is_some (get_put content place value other) ∙ choose (eq_by_cmp place_cmp other place) refl
      where
        choose : (b : Bool) → eq_by_cmp place_cmp other place ≡ b
            → is_some (cond b (Some value) (get content other)) ≡ is_some (get content other)
        choose true e = absurd (apart (sym (is_place other place e)))
        choose false e = refl

    by : (space : Space) → is_some (get (part_of space (put_in_space space place value pair)) other)
        ≡ is_some (get (part_of space pair) other)
    by Sequence = elsewhere pair.sequence
    by Unsequence = elsewhere pair.unsequence

module _ (schemas : List SeriesEntry) (watermarks : WatermarkMap) (space : Space) (time : ℤ) (has : CellRecord → Bool) where
  IsAt : CellRecord → Type 0
  IsAt cell = space_by (get watermarks (device_of (path_of schemas cell.series.0))) time ≡ space

  Holds : PairContent → CellRecord → Type 0
  Holds pair cell = has cell ≡ is_some (get (part_of space pair) (cell_place schemas time cell))

  Apart : CellRecord → CellRecord → Type 0
  Apart cell other = path_of schemas cell.series.0 ≢ path_of schemas other.series.0

  step : (cell : CellRecord) (pair : PairContent) → IsAt cell
      → put_in_pair watermarks (cell_place schemas time cell) cell.value pair
      ≡ put_in_space space (cell_place schemas time cell) cell.value pair
  unfolding IsAt
  step cell pair at = ap (λ s. put_in_space s (cell_place schemas time cell) cell.value pair) at

  held : (cell : CellRecord) (pair : PairContent) (cells : List CellRecord) → Each (Apart cell) cells
      → Each (Holds pair) cells
      → Each (Holds (put_in_space space (cell_place schemas time cell) cell.value pair)) cells
  unfolding Apart Holds
  held cell pair [] apart holds = tt
  held cell pair (other ∷ cells) apart holds = (
    holds.0 ∙ sym (part_put space pair (cell_place schemas time cell) (cell_place schemas time other) cell.value
        (λ same. apart.0 (ap (λ (place : PointPlace). place.path) same))),
    held cell pair cells apart.1 holds.1,
  )

  -- each cell without a point is one point more
  pub count_cells : (cells : List CellRecord) (pair : PairContent)
      → Each (λ cell. space_by (get watermarks (device_of (path_of schemas cell.series.0))) time ≡ space) cells
      → EachPair (λ cell other. path_of schemas cell.series.0 ≢ path_of schemas other.series.0) cells
      → Each (λ cell. has cell ≡ is_some (get (part_of space pair) (cell_place schemas time cell))) cells
      → point_count (put_record_cells schemas watermarks time cells pair) ≡ point_count pair + fresh has cells
  unfolding IsAt Apart Holds
  count_cells [] pair at apart holds = omega arith
  count_cells (cell ∷ cells) pair at apart holds =
      let next = put_in_space space (cell_place schemas time cell) cell.value pair in
      let one = count_put space pair (cell_place schemas time cell) cell.value (has cell) holds.0 in
      let rest = count_cells cells next at.1 apart.1 (held cell pair cells apart.0 holds.1) in
      let whole : point_count (put_record_cells schemas watermarks time (cell ∷ cells) pair)
      ≡ point_count (put_record_cells schemas watermarks time cells next) =
      ap (λ p. point_count (put_record_cells schemas watermarks time cells p)) (step cell pair at.0) in
      omega (arith, whole, rest, one)
