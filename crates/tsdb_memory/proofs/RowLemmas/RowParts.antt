-- What a look-up of a cell's series finds, and what is known of a row after some of its cells.
use Rattle.std.proofs.Common.{◌≡◌, inl, ⊎_elim, ℕ, ◌+◌, ◌<◌, ◌≤◌, Bool, true, false, List, [], ◌∷◌, ◌++◌}
use Rattle.std.proofs.Common.{length, map, take, get_or, Option, Some, None, refl, sym, ap, subst, ◌∙◌, slice_get}
use Rattle.std.specs.Option.{IsSomeAnd, option_map}
use Rattle.std.proofs.lemmas.Bool.{false≢true}
use Rattle.std.proofs.lemmas.List.{take_all, take_more}
use Rattle.tsdb_base.specs.declared.answers.Answer.TheVariants.{NoPath, WrongType}
use Rattle.tsdb_base.specs.declared.value.DataType.{DataType}
use Rattle.tsdb_base.specs.declared.value.Encoding.{Encoding}
use Rattle.tsdb_base.specs.declared.value.Value.{Value}
use Rattle.tsdb_base.proofs.Lists.{among_left, among_right}
use Rattle.tsdb_base.specs.Lists.{Among}
use Rattle.tsdb_log.specs.declared.record.CellRecord.{CellRecord}
use Rattle.tsdb_model.specs.Apply.{value_of}
use Rattle.tsdb_model.specs.Commands.{IsRow}
use Rattle.tsdb_base.specs.Limits.{max_names}
use Rattle.tsdb_model.specs.declared.command.Cell.{Cell}
use Rattle.tsdb_model.specs.declared.command.Row.{Row}
use Rattle.tsdb_model.specs.declared.command.Schema.{Schema}
use Rattle.tsdb_memory.proofs.Types.{type_found, type_of_number}
use Rattle.tsdb_memory.specs.StateOfMemory.{series_entry, number_of}
use Rattle.tsdb_path.specs.Nodes.{IsName, child_of}
use Rattle.tsdb_memory.proofs.RowLemmas.Cells.{as_many, cells_of_items, items_differ, items_of_device, items_push}
use Rattle.tsdb_memory.proofs.RowLemmas.Lists as lists
use Rattle.tsdb_memory.proofs.RowLemmas.Lists.{among_get, any_of, either_push, some_of}
use Rattle.tsdb_memory.specs.RowReading.{AreOfDifferentSeries, AreOfDevice, IsMissingSeries, IsRowRefused, IsUnfitCell}
use Rattle.tsdb_memory.specs.RowSteps.{AreRowItems, IsCellFound, IsRowItem}
use Rattle.tsdb_memory.specs.declared.cells.CellFound.{CellFound}
use Rattle.tsdb_memory.specs.declared.cells.CellFound.TheVariants.{Missing, Unfit, Item}
use Rattle.tsdb_state.specs.Commands.{AreCells}
use Rattle.tsdb_state.specs.Worlds.{type_at}

-- the series of a path that was looked up
abbrev pub looked_up : List ℕ → DataType → Encoding → Schema
looked_up path data_type encoding = record { path = path; data_type = data_type; encoding = encoding }

not_found : (series : List Schema) (path : List ℕ) → number_of series path ≡ None
    → type_at (map series_entry series) path ≡ None
not_found series path none = type_found series path ∙ ap (type_of_number series) none

pub not_found_at : (series : List Schema) (device path : List ℕ) (cell : Cell) → path ≡ child_of device cell.measurement
    → number_of series path ≡ None → IsMissingSeries (map series_entry series) device cell
not_found_at series device path cell is none =
    ap (type_at (map series_entry series)) (sym is) ∙ not_found series path none

type_there : (series : List Schema) (path : List ℕ) (number : ℕ) (data_type : DataType) (encoding : Encoding)
    → number_of series path ≡ Some number → slice_get series number ≡ Some (looked_up path data_type encoding)
    → type_at (map series_entry series) path ≡ Some data_type
type_there series path number data_type encoding numbered at =
    type_found series path ∙ ap (type_of_number series) numbered ∙ ap (option_map (λ (s : Schema). s.data_type)) at

pub item_of : (series : List Schema) (device path : List ℕ) (cell : Cell) (number : ℕ) (data_type : DataType)
    (encoding : Encoding) (value : Value) → path ≡ child_of device cell.measurement → IsName cell.measurement
    → number_of series path ≡ Some number → slice_get series number ≡ Some (looked_up path data_type encoding)
    → value_of cell.value data_type ≡ Some value
    → IsRowItem series device cell (record { series = record { 0 = number }; value = value })
item_of series device path cell number data_type encoding value is name numbered at fits = record {
  schema = looked_up path data_type encoding;
  at = at;
  of_path = is;
  type = ap (type_at (map series_entry series)) (sym is)
      ∙ type_there series path number data_type encoding numbered at;
  value = fits;
  name = name;
}

pub unfit : (series : List Schema) (device path : List ℕ) (cell : Cell) (number : ℕ) (data_type : DataType)
    (encoding : Encoding) → path ≡ child_of device cell.measurement
    → number_of series path ≡ Some number → slice_get series number ≡ Some (looked_up path data_type encoding)
    → value_of cell.value data_type ≡ None → IsUnfitCell (map series_entry series) device cell
unfit series device path cell number data_type encoding is numbered at none =
    subst (λ o. IsSomeAnd o (λ (t : DataType). value_of cell.value t ≡ None))
    (sym (ap (type_at (map series_entry series)) (sym is) ∙ type_there series path number data_type encoding numbered at))
    none

-- a row, cell by cell

-- the cells that were read are there; if all fit so far they are the items, and if not some did not
pub record IsReadPart (series : List Schema) (device : List ℕ) (read : List Cell) (fit : Bool) (items : List CellRecord)
    : Type 0 where
  pub there : (cell : Cell) → Among cell read → ¬ IsMissingSeries (map series_entry series) device cell
  pub fits : fit ≡ true → AreRowItems series device read items
  pub unfit : fit ≡ false → lists.Some (IsUnfitCell (map series_entry series) device) read

pub nothing_read : (series : List Schema) (device : List ℕ) (items : List CellRecord) → items ≡ []
    → IsReadPart series device [] true items
nothing_read series device items none = record {
  there = λ cell among. absurd among;
  fits = λ e. subst (AreRowItems series device []) (sym none) tt;
  unfit = λ e. absurd (false≢true (sym e));
}

not_both : (o : Option DataType) (P : DataType → Type 0) → IsSomeAnd o P → o ≡ None → ⊥
not_both None P h e = h
not_both (Some t) P h e = cc

-- one cell more, which is an item
pub item_read : (series : List Schema) (device : List ℕ) (read : List Cell) (fit : Bool) (items : List CellRecord)
    (cell : Cell) (item : CellRecord) → IsReadPart series device read fit items → IsRowItem series device cell item
    → IsReadPart series device (read ++ cell ∷ []) fit (items ++ item ∷ [])
item_read series device read fit items cell item part is = record {
  there = λ other among. ⊎_elim (λ h. part.there other h)
      (λ same missing. none_there item (sym (subst (λ (c : Cell). type_at (map series_entry series)
      (child_of device c.measurement) ≡ Some is.schema.data_type) same is.type) ∙ missing))
      (either_push read cell other among);
  fits = λ e. items_push series device read items cell item (part.fits e) is;
  unfit = λ e. let one = part.unfit e in
      record { element = one.element; among = among_left read (cell ∷ []) one.element one.among; holds = one.holds };
}
  where
    none_there : (item : CellRecord) → Some is.schema.data_type ≡ None → ⊥
    none_there item e = cc

-- one cell more, whose literal does not fit
pub unfit_read : (series : List Schema) (device : List ℕ) (read : List Cell) (fit : Bool) (items : List CellRecord)
    (cell : Cell) → IsReadPart series device read fit items → IsUnfitCell (map series_entry series) device cell
    → IsReadPart series device (read ++ cell ∷ []) false items
unfit_read series device read fit items cell part unfit = record {
  there = λ other among. ⊎_elim (λ h. part.there other h)
      (λ same missing. not_both (type_at (map series_entry series) (child_of device other.measurement))
      (λ (t : DataType). value_of other.value t ≡ None)
      (subst (λ (c : Cell). IsUnfitCell (map series_entry series) device c) same unfit) missing)
      (either_push read cell other among);
  fits = λ e. absurd (false≢true e);
  unfit = λ e. record { element = cell; among = among_right read (cell ∷ []) cell (inl refl); holds = unfit };
}

-- the loop over a row

abbrev pub IsReadTo : List Schema → List ℕ → List Cell → ℕ → Bool → List CellRecord → Type 0
IsReadTo series device cells i fit items = IsReadPart series device (take i cells) fit items

pub read_item : (series : List Schema) (device : List ℕ) (cells : List Cell) (i : ℕ) (fit : Bool)
    (old new : List CellRecord) (cell : Cell) (found : CellFound) (item : CellRecord) → i < length cells
    → cell ≡ get_or cells i cell → IsReadTo series device cells i fit old → IsCellFound series device cell found
    → found ≡ Item item → new ≡ old ++ item ∷ [] → IsReadTo series device cells (i + 1) fit new
read_item series device cells i fit old new cell found item within at part is one push =
    subst (λ l. IsReadPart series device l fit new) (sym (take_more cells i cell within
    ∙ ap (λ (c : Cell). take i cells ++ c ∷ []) (sym at)))
    (subst (IsReadPart series device (take i cells ++ cell ∷ []) fit) (sym push)
    (item_read series device (take i cells) fit old cell item part (subst (IsCellFound series device cell) one is)))

pub read_unfit : (series : List Schema) (device : List ℕ) (cells : List Cell) (i : ℕ) (fit : Bool)
    (items : List CellRecord) (cell : Cell) (found : CellFound) → i < length cells
    → cell ≡ get_or cells i cell → IsReadTo series device cells i fit items → IsCellFound series device cell found
    → found ≡ Unfit → IsReadTo series device cells (i + 1) false items
read_unfit series device cells i fit items cell found within at part is one =
    subst (λ l. IsReadPart series device l false items) (sym (take_more cells i cell within
    ∙ ap (λ (c : Cell). take i cells ++ c ∷ []) (sym at)))
    (unfit_read series device (take i cells) fit items cell part (subst (IsCellFound series device cell) one is))

pub read_missing : (series : List Schema) (device : List ℕ) (cells row : List Cell) (i : ℕ) (cell : Cell)
    (found : CellFound) → cells ≡ row → i < length cells → cell ≡ get_or cells i cell
    → IsCellFound series device cell found → found ≡ Missing → IsRowRefused (map series_entry series) device row NoPath
read_missing series device cells row i cell found same within at is one =
    subst (λ l. IsRowRefused (map series_entry series) device l NoPath) same
    (any_of (IsMissingSeries (map series_entry series) device) cells (record {
      element = cell;
      among = subst (λ (c : Cell). Among c cells) (sym at) (among_get cells i cell within);
      holds = subst (IsCellFound series device cell) one is;
    }))

pub row_unfit : (series : List Schema) (device : List ℕ) (cells row : List Cell) (i : ℕ) (fit : Bool)
    (items : List CellRecord) → cells ≡ row → length cells ≤ i → fit ≡ false → IsReadTo series device cells i fit items
    → IsRowRefused (map series_entry series) device row WrongType
row_unfit series device cells row i fit items same end no_fit part =
    let whole : IsReadPart series device row fit items =
    subst (λ l. IsReadPart series device l fit items) (take_all i cells end ∙ same) part in (
      λ missing. let one = some_of (IsMissingSeries (map series_entry series) device) row missing in
          whole.there one.element one.among one.holds,
      any_of (IsUnfitCell (map series_entry series) device) row (whole.unfit no_fit),
    )

-- a row that was read as cells
pub record IsRowRead (series : List Schema) (device : List ℕ) (row : Row) (items : List CellRecord) : Type 0 where
  pub cells : AreCells (map series_entry series) device row.cells items
  pub few : length items ≤ max_names
  pub differ : AreOfDifferentSeries items
  pub there : AreOfDevice series device items

few_of : (n m : ℕ) → n ≡ m → m ≤ max_names → n ≤ max_names
few_of n m e h = subst (λ k. k ≤ max_names) (sym e) h

pub row_cells : (series : List Schema) (device : List ℕ) (cells : List Cell) (row : Row) (i : ℕ) (fit : Bool)
    (items result : List CellRecord) → result ≡ items → cells ≡ row.cells → length cells ≤ i → fit ≡ true → IsRow row
    → IsReadTo series device cells i fit items → IsRowRead series device row result
row_cells series device cells row i fit items result is same end all formed part =
    let are : AreRowItems series device row.cells result =
    subst (AreRowItems series device row.cells) (sym is)
    ((subst (λ l. IsReadPart series device l fit items) (take_all i cells end ∙ same) part).fits all) in
    record {
      cells = cells_of_items series device row.cells result are;
      few = few_of (length result) (length row.cells) (as_many series device row.cells result are) formed.few;
      differ = items_differ series device row.cells result formed.different are;
      there = items_of_device series device row.cells result are;
    }
