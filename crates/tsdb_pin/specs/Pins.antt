-- The pin of items, by what is kept of files and what is in memory.
use Rattle.std.specs.Prelude.{◌≡◌, ℕ, List, [], ◌∷◌, ◌++◌, map, Result, Some, slice_get}
use Rattle.std.specs.List.{AllByRecursion as Each, AllZip, filter}
use Rattle.std.specs.declared.result.Result.TheVariants.{Ok, Err}
use Rattle.tsdb_base.specs.declared.point.Range.{Range}
use Rattle.tsdb_fileset.specs.Files.{KeptFiles}
use Rattle.tsdb_model.specs.declared.command.Item.{Item}
use Rattle.tsdb_marks.specs.Lists.{is_of}
use Rattle.tsdb_fileset.specs.StateOfMemory.{series_entry, number_of}
use Rattle.tsdb_fileset.specs.Store.{MemoryState}
use Rattle.tsdb_outside.specs.Files.{NamedFile}
use Rattle.tsdb_path.specs.Nodes.{child_of}
use Rattle.tsdb_pin.specs.Items.{AreFit, AreItemsRefused}
use Rattle.tsdb_pin.specs.Changes.{ChangesNoFile, TakesRights, column_numbers}
use Rattle.tsdb_pin.specs.Sources.{AreHeldIn, AreSourcesOf}
use Rattle.tsdb_pin.specs.declared.items.AskedSeries.{AskedSeries}
use Rattle.tsdb_pin.specs.declared.pin.Column.{Column}
use Rattle.tsdb_pin.specs.declared.pin.Pin.{Pin}
use Rattle.tsdb_pin.specs.declared.pin.PinFault.{PinFault}

-- what is answered to items: they are refused as the plain map does it, or a pin is taken
abbrev pub IsPinAnswer : {T : Type 0} → MemoryState → List ℕ → List Item → Result T PinFault → Type 0
IsPinAnswer store device items (Ok pin) = AreFit (map series_entry store.series) device items
IsPinAnswer store device items (Err fault) = AreItemsRefused (map series_entry store.series) device items fault

module _ {F S R P : Type 0} where
  -- the paths of the columns
  abbrev pub column_paths : List (Column F S R P) → List (List ℕ)
  column_paths columns = map (λ column. column.schema.path) columns

module _ {F S R P : Type 0} (name : R → NamedFile) where
  -- the column of a series that is asked for
  pub record IsColumn (files : KeptFiles) (store : MemoryState) (range : Range) (asked : AskedSeries)
      (column : Column F S R P)
      : Type 0 where
    pub schema : column.schema ≡ asked.schema
    pub aggregate : column.aggregate ≡ asked.aggregate
    pub sources : AreSourcesOf name files store asked.schema.path asked.id.0 range column.sources

  -- the column of an item: its series, its aggregate, and the sources of the series
  pub record IsColumnFor (files : KeptFiles) (store : MemoryState) (device : List ℕ) (range : Range) (item : Item)
      (column : Column F S R P)
      : Type 0 where
    pub number : ℕ
    pub at : slice_get store.series number ≡ Some column.schema
    pub of_path : column.schema.path ≡ child_of device item.measurement
    pub numbered : number_of store.series column.schema.path ≡ Some number
    pub aggregate : column.aggregate ≡ item.aggregate
    pub sources : AreSourcesOf name files store column.schema.path number range column.sources

  -- The pin has the stamp, the range, the marks of its series, and a column for each item, in their order.
  pub record IsPinFor (files : KeptFiles) (store : MemoryState) (device : List ℕ) (items : List Item) (range : Range)
      (pin : Pin F S R P)
      : Type 0 where
    pub stamp : pin.stamp.0 ≡ store.stamp
    pub range_is : pin.range ≡ range
    pub marks : pin.marks.marks ≡ filter (is_of (column_paths pin.columns)) store.marks.marks
    pub columns : AllZip (IsColumnFor files store device range) items pin.columns

  -- the rights of the columns are such to read files that are kept
  abbrev pub AreColumnsHeld : KeptFiles → List (Column F S R P) → Type 0
  AreColumnsHeld files columns = Each (λ column. AreHeldIn name files column.sources) columns

  -- these columns came behind the others, with the rights that they have
  pub record TakesColumns (old new : KeptFiles) (before after more : List (Column F S R P)) : Type 0 where
    pub are : after ≡ before ++ more
    pub rights : TakesRights (column_numbers more) old new
    pub held : AreColumnsHeld old more

  abbrev pub TakesSomeColumns : KeptFiles → KeptFiles → List (Column F S R P) → List (Column F S R P) → Type 0
  TakesSomeColumns old new before after = (more : List (Column F S R P)) × TakesColumns old new before after more

  -- a pin was taken: it has its rights; or none was, and nothing has changed
  abbrev pub IsPinTakenOrNot : KeptFiles → KeptFiles → Result (Pin F S R P) PinFault → Type 0
  IsPinTakenOrNot old new (Ok pin) = TakesRights (column_numbers pin.columns) old new × AreColumnsHeld old pin.columns
  IsPinTakenOrNot old new (Err fault) = ChangesNoFile old new

  -- the column of the series came behind the others, and it has its rights
  abbrev pub IsColumnTaken : MemoryState → Range → AskedSeries → KeptFiles → KeptFiles → List (Column F S R P)
      → List (Column F S R P) → Type 0
  IsColumnTaken store range asked old new before after =
      (column : Column F S R P) × TakesColumns old new before after (column ∷ [])
      × IsColumn old store range asked column

  -- the columns of these series came behind the others
  abbrev pub AreColumnsTaken : MemoryState → Range → List AskedSeries → KeptFiles → KeptFiles → List (Column F S R P)
      → List (Column F S R P) → Type 0
  AreColumnsTaken store range all old new before after =
      (more : List (Column F S R P)) × TakesColumns old new before after more
      × AllZip (IsColumn old store range) all more

  -- the pin of these series was taken, with its rights
  pub record IsPinOver (store : MemoryState) (range : Range) (all : List AskedSeries) (old new : KeptFiles)
      (pin : Pin F S R P)
      : Type 0 where
    pub stamp : pin.stamp.0 ≡ store.stamp
    pub range_is : pin.range ≡ range
    pub marks : pin.marks.marks ≡ filter (is_of (map (λ asked. asked.schema.path) all)) store.marks.marks
    pub columns : AllZip (IsColumn old store range) all pin.columns
    pub rights : TakesRights (column_numbers pin.columns) old new
    pub held : AreColumnsHeld old pin.columns
