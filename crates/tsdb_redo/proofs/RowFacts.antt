-- What is decided of a row over memory is what each state that it shows needs.
use Rattle.std.proofs.Common.{◌≡◌, ◌≢◌, ◌⊎◌, inl, inr, ⊎_elim, ℕ, zero, suc, ℤ, ◌+◌, ◌<◌, ◌≤◌, Bool, true, false, cond, List, [], ◌∷◌, length}
use Rattle.std.proofs.Common.{map, Option, Some, None, refl, sym, ap, subst, ◌∙◌, arith, is_some, slice_get, get_or}
use Rattle.std.proofs.Common.{◌-◌, ◌&&◌, drop, nat_eq, take, add-one}
use Rattle.std.proofs.Math.Seq.{drop-cons, take-append_seam}
use Rattle.std.proofs.lemmas.Bool.{eq-eqb, eqb-true, false≢true}
use Rattle.std.proofs.lemmas.List.{drop_all, length-append}
use Rattle.std.specs.Cmp.Lexicographic.{pointwise}
use Rattle.std.specs.FinMap.{get}
use Rattle.std.specs.List.{AllByRecursion as Each, AllPairs}
use Rattle.std.specs.Option.{IsSomeAnd, option_and_then, option_map}
use Rattle.std.proofs.lemmas.Bool.Decides.{nat_tests}
use Rattle.std.specs.Prelude.{◌↔◌, IsTrue, nat_le}
use Rattle.tsdb_base.specs.declared.ids.Space.{Space}
use Rattle.tsdb_base.specs.declared.ids.Space.TheVariants.{Sequence, Unsequence}
use Rattle.tsdb_base.proofs.Lists.{each_weaker}
use Rattle.tsdb_base.specs.Lists.{EachPair}
use Rattle.tsdb_log.specs.declared.record.CellRecord.{CellRecord}
use Rattle.tsdb_model.specs.declared.command.Schema.{Schema}
use Rattle.tsdb_memory.proofs.Numbers.{at_map, some_same}
use Rattle.tsdb_memory.proofs.RowCells.{at_number, path_at}
use Rattle.tsdb_memory.specs.Model.{IsFitting, IsSoundMemory}
use Rattle.tsdb_memory.specs.StateOfMemory.{IsMemoryOf, series_entry, number_of, part_of, point_value_at, value_found}
use Rattle.tsdb_memory.specs.Store.{MemoryState}
use Rattle.tsdb_memtable.specs.Pairs.{Pair, points_of}
use Rattle.tsdb_memtable.specs.Watermarks.{space_by, watermark}
use Rattle.tsdb_redo.proofs.Counting.{count_cells, few_fresh, fresh}
use Rattle.tsdb_redo.specs.Rows.{DifferInSeries, HasNoInsert, TellsRoomFor, IsCellOf, IsDeviceOf, IsRowOf, LacksItsSeries, new_points}
use Rattle.tsdb_path.specs.Nodes.{child_of, device_of, dot}
use Rattle.tsdb_state.specs.Limit.{IsEmptyPair, point_count}
use Rattle.tsdb_base.specs.Limits.{end_of_numbers, max_pair_points}
use Rattle.tsdb_state.specs.Records.{CanInsert, IsOfDevice, inserted, path_of, cell_place}
use Rattle.tsdb_state.specs.State.{StoreState}

-- lists by recursion and by places

pub all_pairs : {X : Type 0} (R : X → X → Type 0) (xs : List X) → EachPair R xs → AllPairs R xs
all_pairs R [] each i j d lt within = absurd (omega (arith, within))
all_pairs R (x ∷ xs) each i zero d lt within = absurd (omega (arith, lt))
all_pairs {X = X} R (x ∷ xs) each zero (suc j) d lt within = at xs each.0 j (omega (arith, within))
  where
    at : (ys : List X) → Each (R x) ys → (j : ℕ) → j < length ys → R x (get_or ys j d)
    at [] all j lt = absurd (omega (arith, lt))
    at (y ∷ ys) all zero lt = all.0
    at (y ∷ ys) all (suc j) lt = at ys all.1 j (omega (arith, lt))
all_pairs R (x ∷ xs) each (suc i) (suc j) d lt within =
    all_pairs R xs each.1 i j d (omega (arith, lt)) (omega (arith, within))

-- a cell of a row, in memory and in the state

record CellAt (series : List Schema) (device : List ℕ) (cell : CellRecord) : Type 0 where
  schema : Schema
  at : slice_get series cell.series.0 ≡ Some schema
  fits : IsFitting device cell schema

cell_at : (series : List Schema) (device : List ℕ) (cell : CellRecord) → IsCellOf series device cell → CellAt series device cell
cell_at series device cell there =
    let at = at_number series cell.series.0 (IsFitting device cell) there in
    record { schema = at.schema; at = at.at; fits = at.holds }

in_state : (series : List Schema) (device : List ℕ) (cell : CellRecord) → IsCellOf series device cell
    → IsSomeAnd (slice_get (map series_entry series) cell.series.0) (IsOfDevice device cell)
in_state series device cell there = subst (λ o. IsSomeAnd o (IsOfDevice device cell)) (sym (at_map series_entry series cell.series.0))
    (by (slice_get series cell.series.0) there)
  where
    by : (o : Option Schema) → IsSomeAnd o (IsFitting device cell) → IsSomeAnd (option_map series_entry o) (IsOfDevice device cell)
    by None none = absurd none
    by (Some schema) fits = record { live = refl; of_device = fits.of_device; type = fits.type }

in_memory : (series : List Schema) (device : List ℕ) (cell : CellRecord)
    → IsSomeAnd (slice_get (map series_entry series) cell.series.0) (IsOfDevice device cell) → IsCellOf series device cell
in_memory series device cell there =
    by (slice_get series cell.series.0)
    (subst (λ o. IsSomeAnd o (IsOfDevice device cell)) (at_map series_entry series cell.series.0) there)
  where
    by : (o : Option Schema) → IsSomeAnd (option_map series_entry o) (IsOfDevice device cell) → IsSomeAnd o (IsFitting device cell)
    by None none = absurd none
    by (Some schema) fits = record { of_device = fits.of_device; type = fits.type }

-- the device of a row is that of its first cell
own_device : (series : List Schema) (device other : List ℕ) (cells : List CellRecord) → IsDeviceOf series cells device
    → Each (IsCellOf series other) cells → (cells ≡ []) ⊎ (other ≡ device)
own_device series device other [] is there = inl refl
own_device series device other (first ∷ cells) is there = inr (by (slice_get series first.series.0) is there.0)
  where
    by : (o : Option Schema) → IsSomeAnd o (λ schema. device_of schema.path ≡ device) → IsSomeAnd o (IsFitting other first)
        → other ≡ device
    by None none fits = absurd none
    by (Some schema) same fits = sym fits.of_device ∙ same

module _ (store : MemoryState) (device : List ℕ) (time : ℤ) (cells : List CellRecord) (state : StoreState)
    (is : IsMemoryOf store state) where
  pub can_insert : IsRowOf store device cells → TellsRoomFor store time cells true → CanInsert time cells state
  can_insert row room = record {
    device = device;
    there = subst (λ l. Each (λ cell. IsSomeAnd (slice_get l cell.series.0) (IsOfDevice device cell)) cells) (sym is.schemas)
        (each_weaker (IsCellOf store.series device)
        (λ cell. IsSomeAnd (slice_get (map series_entry store.series) cell.series.0) (IsOfDevice device cell))
        (in_state store.series device) cells row.there);
    differ = row.differ;
    fits = (room state is).0 refl;
    stamp = subst (λ n. n < end_of_numbers) (sym is.stamp) row.stamp;
  }

  pub is_row_of : IsDeviceOf store.series cells device → CanInsert time cells state → IsRowOf store device cells
  is_row_of own can =
      let there = each_weaker
      (λ cell. IsSomeAnd (slice_get (map series_entry store.series) cell.series.0) (IsOfDevice can.device cell))
      (IsCellOf store.series can.device) (in_memory store.series can.device) cells
      (subst (λ l. Each (λ cell. IsSomeAnd (slice_get l cell.series.0) (IsOfDevice can.device cell)) cells) is.schemas can.there) in
      record {
        there = ⊎_elim
            (λ none. subst (Each (IsCellOf store.series device)) (sym none) tt)
            (λ same. subst (λ d. Each (IsCellOf store.series d) cells) same there)
            (own_device store.series device can.device cells own there);
        differ = can.differ;
        stamp = subst (λ n. n < end_of_numbers) is.stamp can.stamp;
      }

  pub lacks_series : LacksItsSeries store.series cells → CanInsert time cells state → ⊥
  lacks_series lacks can = by cells lacks (each_weaker
      (λ cell. IsSomeAnd (slice_get (map series_entry store.series) cell.series.0) (IsOfDevice can.device cell))
      (IsCellOf store.series can.device) (in_memory store.series can.device) cells
      (subst (λ l. Each (λ cell. IsSomeAnd (slice_get l cell.series.0) (IsOfDevice can.device cell)) cells) is.schemas can.there))
    where
      by : (cells : List CellRecord) → LacksItsSeries store.series cells → Each (IsCellOf store.series can.device) cells → ⊥
      by [] lacks there = lacks
      by (first ∷ cells) lacks there =
          subst (λ o. IsSomeAnd o (IsFitting can.device first)) lacks there.0

-- the points that a row adds

has_point : Space → ℤ → Pair → CellRecord → Bool
has_point space time pair cell = is_some (point_value_at time (points_of space cell.series.0 pair))

pub as_fresh : (space : Space) (time : ℤ) (pair : Pair) (cells : List CellRecord)
    → new_points space time pair cells ≡ fresh (λ cell. is_some (point_value_at time (points_of space cell.series.0 pair))) cells
as_fresh space time pair [] = refl
as_fresh space time pair (cell ∷ cells) =
    ap (λ n. cond (is_some (point_value_at time (points_of space cell.series.0 pair))) 0 1 + n) (as_fresh space time pair cells)

module _ (store : MemoryState) (device : List ℕ) (time : ℤ) (sound : IsSoundMemory store) (state : StoreState)
    (is : IsMemoryOf store state) (space : Space) (rule : space ≡ space_by (watermark store.watermarks device) time) where
  path_is : (cell : CellRecord) (there : IsCellOf store.series device cell)
      → path_of state.schemas cell.series.0 ≡ (cell_at store.series device cell there).schema.path
  path_is cell there =
      let at = cell_at store.series device cell there in
      ap (λ l. path_of l cell.series.0) is.schemas ∙ path_at store.series cell.series.0 at.schema at.at

  space_at : (cell : CellRecord) → IsCellOf store.series device cell
      → space_by (get state.watermarks (device_of (path_of state.schemas cell.series.0))) time ≡ space
  space_at cell there =
      ap (λ d. space_by (get state.watermarks d) time)
      (ap device_of (path_is cell there) ∙ (cell_at store.series device cell there).fits.of_device)
      ∙ ap (λ o. space_by o time) (is.watermarks device) ∙ sym rule

  part_is : (space : Space) → (path : List ℕ)
      → get (part_of space state.working) (record { path = path; time = time })
      ≡ value_found store.series space store.working (record { path = path; time = time })
  part_is Sequence path = is.working.sequence (record { path = path; time = time })
  part_is Unsequence path = is.working.unsequence (record { path = path; time = time })

  number_is : (cell : CellRecord) → IsCellOf store.series device cell
      → number_of store.series (path_of state.schemas cell.series.0) ≡ Some cell.series.0
  number_is cell there =
      let at = cell_at store.series device cell there in
      ap (number_of store.series) (path_is cell there) ∙ sound.once cell.series.0 at.schema at.at

  point_is : (cell : CellRecord) → IsCellOf store.series device cell
      → is_some (point_value_at time (points_of space cell.series.0 store.working))
      ≡ is_some (get (part_of space state.working) (cell_place state.schemas time cell))
  point_is cell there = ap is_some (sym (part_is space (path_of state.schemas cell.series.0)
      ∙ ap (option_and_then (λ number. point_value_at time (points_of space number store.working))) (number_is cell there)))

  apart : (cells : List CellRecord) → Each (IsCellOf store.series device) cells → DifferInSeries cells
      → EachPair (λ cell other. path_of state.schemas cell.series.0 ≢ path_of state.schemas other.series.0) cells
  apart [] there differ = tt
  apart (cell ∷ cells) there differ = (first cells there.1 differ.0, apart cells there.1 differ.1)
    where
      first : (cells : List CellRecord) → Each (IsCellOf store.series device) cells
          → Each (λ other. cell.series.0 ≢ other.series.0) cells
          → Each (λ other. path_of state.schemas cell.series.0 ≢ path_of state.schemas other.series.0) cells
      first [] there differ = tt
      first (other ∷ cells) rest differ = (
        λ same. differ.0 (some_same cell.series.0 other.series.0 (sym (number_is cell there.0)
            ∙ ap (number_of store.series) same ∙ number_is other rest.0)),
        first cells rest.1 differ.1,
      )

  pub points_after : (cells : List CellRecord) → IsRowOf store device cells
      → point_count (inserted time cells state).working
      ≡ point_count state.working + new_points space time store.working cells
  points_after cells row =
      count_cells state.schemas state.watermarks space time
      (λ cell. is_some (point_value_at time (points_of space cell.series.0 store.working))) cells state.working
      (each_weaker (IsCellOf store.series device)
      (λ cell. space_by (get state.watermarks (device_of (path_of state.schemas cell.series.0))) time ≡ space)
      space_at cells row.there)
      (apart cells row.there row.differ)
      (each_weaker (IsCellOf store.series device)
      (λ cell. is_some (point_value_at time (points_of space cell.series.0 store.working))
      ≡ is_some (get (part_of space state.working) (cell_place state.schemas time cell))) point_is cells row.there)
      ∙ ap (λ n. point_count state.working + n) (sym (as_fresh space time store.working cells))

pub few_new : (space : Space) (time : ℤ) (pair : Pair) (cells : List CellRecord)
    → new_points space time pair cells ≤ length cells
few_new space time pair cells = subst (λ n. n ≤ length cells) (sym (as_fresh space time pair cells))
    (few_fresh (λ cell. is_some (point_value_at time (points_of space cell.series.0 pair))) cells)

module _ (store : MemoryState) (device : List ℕ) (time : ℤ) (cells : List CellRecord) (sound : IsSoundMemory store)
    (row : IsRowOf store device cells) (points : ℕ)
    (total : (state : StoreState) → IsMemoryOf store state → point_count state.working ≡ points) where
  -- the working pair keeps to its points, whichever of the cells have one
  pub room_for_all : points + length cells ≤ max_pair_points → TellsRoomFor store time cells true
  room_for_all few state is =
      let space = space_by (watermark store.watermarks device) time in (
        λ yes. inr (omega (
          arith,
          few,
          points_after store device time sound state is space refl cells row,
          total state is,
          few_new space time store.working cells,
        )),
        λ either. refl,
      )

  pub room_by_count : (space : Space) → space ≡ space_by (watermark store.watermarks device) time
      → ((state : StoreState) → IsMemoryOf store state → ¬ IsEmptyPair state.working) → (b : Bool)
      → IsTrue b ↔ (points + new_points space time store.working cells ≤ max_pair_points) → TellsRoomFor store time cells b
  room_by_count space rule some b few state is =
      let after = points_after store device time sound state is space rule cells row in (
        λ yes. inr (omega (arith, few.0 yes, after, total state is)),
        λ either. ⊎_elim (λ empty. absurd (some state is empty))
            (λ within. few.1 (omega (arith, within, after, total state is))) either,
      )

-- a row that does not fit

pub no_room : (store : MemoryState) (time : ℤ) (cells : List CellRecord) (b : Bool) → b ≡ false → TellsRoomFor store time cells b
    → HasNoInsert store time cells
no_room store time cells b none room = λ state is can. false≢true (sym none ∙ (room state is).1 can.fits)

pub no_row : (store : MemoryState) (device : List ℕ) (time : ℤ) (cells : List CellRecord) (b : Bool) → b ≡ false
    → IsDeviceOf store.series cells device → (IsTrue b ↔ IsRowOf store device cells) → HasNoInsert store time cells
no_row store device time cells b none own row = λ state is can.
    false≢true (sym none ∙ row.1 (is_row_of store device time cells state is own can))

le_by : (a b : ℕ) → IsTrue (nat_le a b) ↔ (a ≤ b)
le_by a b = (λ yes. grind (arith, nat_tests), λ le. grind (arith, nat_tests))

pub le_at : (points new count most : ℕ) → new ≡ count → IsTrue (nat_le (points + new) most) ↔ (points + count ≤ most)
le_at points new count most same = subst (λ n. IsTrue (nat_le (points + new) most) ↔ (points + n ≤ most)) same (le_by (points + new) most)

-- what the effect of a row needs, once memory was taken for it
pub row_differs : (store : MemoryState) (device : List ℕ) (cells : List CellRecord) → IsRowOf store device cells
    → AllPairs (λ cell other. cell.series.0 ≢ other.series.0) cells
row_differs store device cells row = all_pairs (λ (cell other : CellRecord). cell.series.0 ≢ other.series.0) cells row.differ

-- the bytes before a path's last name are its device

pub before_name : (series name : List ℕ) → child_of (device_of series) name ≡ series
    → take (length series - length name - 1) series ≡ device_of series
before_name series name again =
    let d = device_of series in
    let long : length series ≡ length d + (1 + length name) =
    ap length (sym again) ∙ length-append d (dot ∷ name) ∙ omega arith in
    let end : length series - length name - 1 ≡ length d = omega (arith, long) in
    ap (λ n. take n series) end ∙ ap (take (length d)) (sym again) ∙ take-append_seam d (dot ∷ name)

pub same_bytes : (x y : List ℕ) → IsTrue (pointwise nat_eq x y) ↔ (x ≡ y)
same_bytes x y = (path_exact x y, λ same. subst (λ l. IsTrue (pointwise nat_eq x l)) same (path_itself x))
  where
    both : (a b : Bool) → (a && b) ≡ true → (a ≡ true) × (b ≡ true)
    both true b e = (refl, e)
    both false b e = absurd (false≢true e)

    path_exact : (x y : List ℕ) → pointwise nat_eq x y ≡ true → x ≡ y
    path_exact [] [] e = refl
    path_exact [] (b ∷ y) e = absurd (false≢true e)
    path_exact (a ∷ x) [] e = absurd (false≢true e)
    path_exact (a ∷ x) (b ∷ y) e =
        let parts = both (nat_eq a b) (pointwise nat_eq x y) e in
        let first : a ≡ b = eqb-true a b parts.0 in
        let rest : x ≡ y = path_exact x y parts.1 in
        cc

    path_itself : (x : List ℕ) → pointwise nat_eq x x ≡ true
    path_itself [] = refl
    path_itself (a ∷ x) = ap (λ b. b && pointwise nat_eq x x) (eq-eqb a a refl) ∙ path_itself x

-- the loops over the cells of a row

pub cells_next : {X : Type 0} (P : X → Type 0) (xs : List X) (i : ℕ) (x : X) → i < length xs → x ≡ get_or xs i x → P x
    → (Each P xs ↔ Each P (drop i xs)) → Each P xs ↔ Each P (drop (i + 1) xs)
cells_next P xs i x below is holds rest =
    let split = drop-cons xs i x below ∙ ap (λ y. y ∷ drop (suc i) xs) (sym is) ∙ ap (λ n. x ∷ drop n xs) (sym (add-one i)) in (
      λ all. (subst (Each P) split (rest.0 all)).1,
      λ all. rest.1 (subst (Each P) (sym split) (holds, all)),
    )

pub cells_fail : {X : Type 0} (P : X → Type 0) (xs : List X) (i : ℕ) (x : X) → i < length xs → x ≡ get_or xs i x
    → (P x → ⊥) → (Each P xs ↔ Each P (drop i xs)) → Each P xs → ⊥
cells_fail P xs i x below is fails rest all =
    let split = drop-cons xs i x below ∙ ap (λ y. y ∷ drop (suc i) xs) (sym is) in
    fails (subst (Each P) split (rest.0 all)).0

pub cells_end : {X : Type 0} (P : X → Type 0) (xs : List X) (i : ℕ) → length xs ≤ i → (Each P xs ↔ Each P (drop i xs))
    → Each P xs
cells_end P xs i end rest = rest.1 (subst (Each P) (sym (drop_all i xs end)) tt)
