-- What the plain map answers to a row is how the row was read.
use Rattle.std.proofs.Common.{◌≡◌, ℕ, Bool, true, false, cond, List, [], ◌∷◌, map, inl, inr}
use Rattle.std.proofs.Common.{Option, Some, None, is_some}
use Rattle.std.proofs.Common.{Result, Ok, Err, refl, sym, ap, subst, ◌∙◌}
use Rattle.std.specs.List.{list_all}
use Rattle.std.specs.Option.{IsSomeAnd, option_map}
use Rattle.tsdb_base.specs.declared.answers.Answer.{Answer}
use Rattle.tsdb_base.specs.declared.answers.Answer.TheVariants.{Done, NoPath, WrongType, Exists, Device, Memory, Full}
use Rattle.tsdb_base.specs.declared.value.DataType.{DataType}
use Rattle.tsdb_base.specs.declared.value.Value.{Value}
use Rattle.tsdb_base.specs.Lists.{Among, EachPair}
use Rattle.tsdb_log.specs.declared.record.CellRecord.{CellRecord}
use Rattle.tsdb_model.specs.Apply.{all_fit, are_there, fits_series, reply_of, series_of, value_of}
use Rattle.tsdb_model.specs.World.{Series, World}
use Rattle.tsdb_model.specs.declared.command.Cell.{Cell}
use Rattle.tsdb_model.specs.declared.command.Command.TheVariants.{Insert}
use Rattle.tsdb_model.specs.declared.command.Row.{Row}
use Rattle.tsdb_model.specs.declared.command.Schema.{Schema}
use Rattle.tsdb_model.specs.declared.reply.Reply.TheVariants.{Plain}
use Rattle.tsdb_memory.specs.StateOfMemory.{IsMemoryOf, series_entry}
use Rattle.tsdb_memory.specs.Store.{MemoryState}
use Rattle.tsdb_path.specs.Nodes.{child_of}
use Rattle.tsdb_memory.proofs.RowLemmas.Lists as lists
use Rattle.tsdb_memory.proofs.RowLemmas.Lists.{all_of_map, all_pass, one_fails, some_of}
use Rattle.tsdb_memory.proofs.RowLemmas.Putting.{is_live_entry}
use Rattle.tsdb_memory.specs.RowReading.{IsMissingSeries, IsRowRead, IsRowRefused, IsUnfitCell, row_answer}
use Rattle.tsdb_state.proofs.Series.{ArePathsApart, among_at, type_of_live}
use Rattle.tsdb_state.specs.Commands.{AreCells, IsRowCell}
use Rattle.tsdb_state.specs.State.{SeriesEntry, StoreState, ToldContents}
use Rattle.tsdb_state.specs.StoreOrder.{StoreInOrder}
use Rattle.tsdb_state.specs.Worlds.{StandsFor, type_at}

-- the type of a series of the map, where it is there
abbrev type_in : Option Series → Option DataType
type_in o = option_map (λ (s : Series). s.data_type) o

is_there : (o : Option Series) (t : Option DataType) → type_in o ≡ t → (t ≡ None → ⊥) → is_some o ≡ true
is_there None t e some = absurd (some (sym e))
is_there (Some s) t e some = refl

is_not_there : (o : Option Series) → type_in o ≡ None → is_some o ≡ false
is_not_there None e = refl
is_not_there (Some s) e = cc

does_not_fit : (cell : Cell) (o : Option Series) (t : Option DataType) → type_in o ≡ t
    → IsSomeAnd t (λ data_type. value_of cell.value data_type ≡ None) → fits_series cell.value o ≡ false
does_not_fit cell None t e unfit = refl
does_not_fit cell (Some s) t e unfit =
    ap is_some (subst (λ o. IsSomeAnd o (λ (t : DataType). value_of cell.value t ≡ None)) (sym e) unfit)

does_fit : (cell : Cell) (o : Option Series) (t : DataType) (value : Value) → type_in o ≡ Some t
    → value_of cell.value t ≡ Some value → fits_series cell.value o ≡ true
does_fit cell None t value e fits = cc
does_fit cell (Some s) t value e fits = ap is_some (ap (value_of cell.value) (same s.data_type t e) ∙ fits)
  where
    same : (a b : DataType) → Some a ≡ Some b → a ≡ b
    same a b e = cc

module _ (told : ToldContents) (state : StoreState) (world : World) (stands : StandsFor told state world)
    (device : List ℕ) where
  abbrev at : Cell → Option Series
  at cell = series_of world device cell.measurement

  abbrev type : Cell → Option DataType
  type cell = type_at state.schemas (child_of device cell.measurement)

  there_in : (cells : List Cell) → are_there world device (map (λ (cell : Cell). cell.measurement) cells)
      ≡ list_all (λ (cell : Cell). is_some (at cell)) cells
  there_in cells = all_of_map (λ name. is_some (series_of world device name)) (λ (cell : Cell). cell.measurement) cells

  says : (row : Row) (there fit : Bool)
      → are_there world device (map (λ (cell : Cell). cell.measurement) row.cells) ≡ there
      → all_fit world device row.cells ≡ fit
      → reply_of world (Insert device row) ≡ Plain (cond there (cond fit Done WrongType) NoPath)
  says row there fit e f = λ i. Plain (cond (e i) (cond (f i) Done WrongType) NoPath)

  pub refused : (row : Row) (answer : Answer) → IsRowRefused state.schemas device row.cells answer
      → reply_of world (Insert device row) ≡ Plain answer
  refused row NoPath missing =
      let one = some_of (IsMissingSeries state.schemas device) row.cells missing in
      says row false (all_fit world device row.cells)
      (there_in row.cells ∙ one_fails (λ (cell : Cell). is_some (at cell)) row.cells one.element one.among
      (is_not_there (at one.element) (stands.types (child_of device one.element.measurement) ∙ one.holds))) refl
  refused row WrongType h =
      let one = some_of (IsUnfitCell state.schemas device) row.cells h.1 in
      says row true false
      (there_in row.cells ∙ all_pass (λ (cell : Cell). is_some (at cell)) row.cells (λ cell among.
      is_there (at cell) (type cell) (stands.types (child_of device cell.measurement))
      (λ missing. h.0 (lists.any_of (IsMissingSeries state.schemas device) row.cells
      (record { element = cell; among = among; holds = missing })))))
      (one_fails (λ (cell : Cell). fits_series cell.value (at cell)) row.cells one.element one.among
      (does_not_fit one.element (at one.element) (type one.element)
      (stands.types (child_of device one.element.measurement)) one.holds))
  refused row Done h = absurd h
  refused row Exists h = absurd h
  refused row Device h = absurd h
  refused row Memory h = absurd h
  refused row (Full counter) h = absurd h

-- the series of a cell, and its type
record Fits (schemas : List SeriesEntry) (device : List ℕ) (cell : Cell) : Type 0 where
  data_type : DataType
  value : Value
  is : type_at schemas (child_of device cell.measurement) ≡ Some data_type
  fits : value_of cell.value data_type ≡ Some value

cell_fits : (series : List Schema) (device : List ℕ) (cell : Cell) (item : CellRecord)
    → EachPair ArePathsApart (map series_entry series)
    → IsRowCell (map series_entry series) device cell item → Fits (map series_entry series) device cell
cell_fits series device cell item once is = record {
  data_type = is.series.schema.data_type;
  value = item.value;
  is = ap (type_at (map series_entry series)) (sym is.of_path)
      ∙ type_of_live (map series_entry series) is.series once
      (among_at (map series_entry series) item.series.0 is.series is.at)
      (is_live_entry series item.series.0 is.series is.at);
  fits = is.value;
}

cells_fit : (series : List Schema) (device : List ℕ) (cells : List Cell) (items : List CellRecord)
    → EachPair ArePathsApart (map series_entry series) → AreCells (map series_entry series) device cells items
    → (cell : Cell) → Among cell cells → Fits (map series_entry series) device cell
cells_fit series device [] items once are cell among = absurd among
cells_fit series device (first ∷ cells) [] once are cell among = absurd are
cells_fit series device (first ∷ cells) (item ∷ items) once are cell (inl is) =
    subst (Fits (map series_entry series) device) is (cell_fits series device first item once are.0)
cells_fit series device (first ∷ cells) (item ∷ items) once are cell (inr among) =
    cells_fit series device cells items once are.1 cell among

none_there : (t : DataType) → Some t ≡ None → ⊥
none_there t e = cc

pub follows : (told : ToldContents) (memory : MemoryState) (state : StoreState) (world : World) (device : List ℕ) (row : Row)
    (read : Result (List CellRecord) Answer)
    → IsMemoryOf memory state → StoreInOrder told state → StandsFor told state world
    → IsRowRead (map series_entry memory.series) device row.cells read
    → reply_of world (Insert device row) ≡ Plain (row_answer read)
follows told memory state world device row (Err answer) is order stands h =
    refused told state world stands device row answer
    (subst (λ l. IsRowRefused l device row.cells answer) (sym is.schemas) h)
follows told memory state world device row (Ok items) is order stands are =
    says told state world stands device row true true
    (there_in told state world stands device row.cells
    ∙ all_pass (λ (cell : Cell). is_some (series_of world device cell.measurement)) row.cells (λ cell among.
    let fit = fits cell among in
    is_there (series_of world device cell.measurement) (Some fit.data_type) (typed cell among)
    (none_there fit.data_type)))
    (all_pass (λ (cell : Cell). fits_series cell.value (series_of world device cell.measurement)) row.cells
    (λ cell among.
    let fit = fits cell among in
    does_fit cell (series_of world device cell.measurement) fit.data_type fit.value (typed cell among) fit.fits))
  where
    fits : (cell : Cell) → Among cell row.cells → Fits (map series_entry memory.series) device cell
    fits cell among = cells_fit memory.series device row.cells items
        (subst (EachPair ArePathsApart) is.schemas order.series.once) are cell among

    typed : (cell : Cell) (among : Among cell row.cells)
        → type_in (series_of world device cell.measurement) ≡ Some (fits cell among).data_type
    typed cell among = stands.types (child_of device cell.measurement)
        ∙ ap (λ l. type_at l (child_of device cell.measurement)) is.schemas ∙ (fits cell among).is
