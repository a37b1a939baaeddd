-- The cells of a row as items of its record: of different series of the device, each with a value of its type.
use Rattle.std.proofs.Common.{◌≡◌, ◌≢◌, ℕ, suc, ◌<◌, ◌≤◌, List, [], ◌∷◌, ◌++◌, length, map, Some, None, cond}
use Rattle.std.proofs.Common.{Bool, true, false, refl, sym, ap, subst, ◌∙◌, arith, slice_get}
use Rattle.std.specs.Prelude.{All}
use Rattle.std.specs.Option.{IsSomeAnd, option_map}
use Rattle.std.proofs.lemmas.List.Elements.{All-cons, All-nil}
use Rattle.std.proofs.lemmas.List.Kept.{AllPairs-cons}
use Rattle.tsdb_base.specs.Values.{type_of}
use Rattle.tsdb_base.specs.declared.value.DataType.{DataType}
use Rattle.tsdb_base.specs.declared.value.DataType.TheVariants.{Boolean, Int32, Int64, Text}
use Rattle.tsdb_base.specs.declared.value.Value.{Value}
use Rattle.tsdb_base.specs.declared.value.Value.TheVariants as value
use Rattle.tsdb_log.specs.declared.record.CellRecord.{CellRecord}
use Rattle.tsdb_model.specs.Apply.{is_int32, value_of}
use Rattle.tsdb_model.specs.Commands.{AreDifferent}
use Rattle.tsdb_model.specs.declared.command.Cell.{Cell}
use Rattle.tsdb_model.specs.declared.command.Literal.{Literal}
use Rattle.tsdb_model.specs.declared.command.Literal.TheVariants as literal
use Rattle.tsdb_model.specs.declared.command.Schema.{Schema}
use Rattle.tsdb_memory.proofs.Numbers.{at_map, some_same}
use Rattle.tsdb_memory.specs.Model.{IsFitting}
use Rattle.tsdb_memory.specs.StateOfMemory.{series_entry}
use Rattle.tsdb_memtable.specs.Points.{value_bytes}
use Rattle.tsdb_path.proofs.Bytes.{IsNode-dotless}
use Rattle.tsdb_path.proofs.Parts.{device_of-child, measurement_of-child}
use Rattle.tsdb_path.specs.Nodes.{child_of, device_of, measurement_of}
use Rattle.tsdb_memory.specs.Fits.{literal_bytes}
use Rattle.tsdb_memory.specs.RowReading.{AreOfDifferentSeries, AreOfDevice}
use Rattle.tsdb_memory.specs.RowSteps.{AreRowItems, IsRowItem}
use Rattle.tsdb_state.specs.Commands.{AreCells}

pub as_many : (series : List Schema) (device : List ℕ) (cells : List Cell) (items : List CellRecord)
    → AreRowItems series device cells items → length items ≡ length cells
as_many series device [] [] are = refl
as_many series device [] (item ∷ items) are = absurd are
as_many series device (cell ∷ cells) [] are = absurd are
as_many series device (cell ∷ cells) (item ∷ items) are = ap (λ n. suc n) (as_many series device cells items are.1)

pub items_push : (series : List Schema) (device : List ℕ) (cells : List Cell) (items : List CellRecord) (cell : Cell)
    (item : CellRecord) → AreRowItems series device cells items → IsRowItem series device cell item
    → AreRowItems series device (cells ++ cell ∷ []) (items ++ item ∷ [])
items_push series device [] [] cell item are is = (is, tt)
items_push series device [] (first ∷ items) cell item are is = absurd are
items_push series device (first ∷ cells) [] cell item are is = absurd are
items_push series device (first ∷ cells) (one ∷ items) cell item are is =
    (are.0, items_push series device cells items cell item are.1 is)

-- they are the cells of a record
pub cells_of_items : (series : List Schema) (device : List ℕ) (cells : List Cell) (items : List CellRecord)
    → AreRowItems series device cells items → AreCells (map series_entry series) device cells items
cells_of_items series device [] [] are = tt
cells_of_items series device [] (item ∷ items) are = absurd are
cells_of_items series device (cell ∷ cells) [] are = absurd are
cells_of_items series device (cell ∷ cells) (item ∷ items) are = (
  record {
    series = series_entry are.0.schema;
    at = at_map series_entry series item.series.0 ∙ ap (option_map series_entry) are.0.at;
    of_path = are.0.of_path;
    value = are.0.value;
  },
  cells_of_items series device cells items are.1,
)

-- a value of a type, and the bytes that it counts
pub record IsTyped (literal : Literal) (data_type : DataType) (value : Value) : Type 0 where
  pub type : type_of value ≡ data_type
  pub bytes : value_bytes value ≤ literal_bytes literal

none_is : {X : Type 0} (x : X) {A : Type 0} → None ≡ Some x → A
none_is x e = cc

of_value : (literal : Literal) (data_type : DataType) (is value : Value) → IsTyped literal data_type is
    → Some is ≡ Some value → IsTyped literal data_type value
of_value literal data_type is value typed e = subst (IsTyped literal data_type) (some_same is value e) typed

pub type_fits : (literal : Literal) (data_type : DataType) (value : Value) → value_of literal data_type ≡ Some value
    → IsTyped literal data_type value
type_fits (literal.Bool b) Boolean v e = of_value (literal.Bool b) Boolean (value.Bool b) v
    (record { type = refl; bytes = omega arith }) e
type_fits (literal.Bool b) Int32 v e = none_is v e
type_fits (literal.Bool b) Int64 v e = none_is v e
type_fits (literal.Bool b) Text v e = none_is v e
type_fits (literal.Int number) Boolean v e = none_is v e
type_fits (literal.Int number) Int32 v e = cases (is_int32 number) e
  where
    cases : (b : Bool) → cond b (Some (value.I32 number)) None ≡ Some v → IsTyped (literal.Int number) Int32 v
    cases true e = of_value (literal.Int number) Int32 (value.I32 number) v
        (record { type = refl; bytes = omega arith }) e
    cases false e = none_is v e
type_fits (literal.Int number) Int64 v e = of_value (literal.Int number) Int64 (value.I64 number) v
    (record { type = refl; bytes = omega arith }) e
type_fits (literal.Int number) Text v e = none_is v e
type_fits (literal.Text bytes) Boolean v e = none_is v e
type_fits (literal.Text bytes) Int32 v e = none_is v e
type_fits (literal.Text bytes) Int64 v e = none_is v e
type_fits (literal.Text bytes) Text v e = of_value (literal.Text bytes) Text (value.Text bytes) v
    (record { type = refl; bytes = omega arith }) e

-- they are of the device, and have the types of their series

abbrev IsOf : List Schema → List ℕ → CellRecord → Type 0
IsOf series device item = IsSomeAnd (slice_get series item.series.0) (IsFitting device item)

pub items_of_device : (series : List Schema) (device : List ℕ) (cells : List Cell) (items : List CellRecord)
    → AreRowItems series device cells items → AreOfDevice series device items
items_of_device series device [] [] are = All-nil (IsOf series device)
items_of_device series device [] (item ∷ items) are = absurd are
items_of_device series device (cell ∷ cells) [] are = absurd are
items_of_device series device (cell ∷ cells) (item ∷ items) are =
    All-cons (IsOf series device) item items
    (subst (λ o. IsSomeAnd o (IsFitting device item)) (sym are.0.at) (record {
      of_device = ap device_of are.0.of_path ∙ device_of-child device cell.measurement
          (IsNode-dotless cell.measurement are.0.name.node);
      type = (type_fits cell.value are.0.schema.data_type item.value are.0.value).type;
    }))
    (items_of_device series device cells items are.1)

-- they are of different series

same_measurement : (series : List Schema) (device : List ℕ) (cell other : Cell) (item later : CellRecord)
    → IsRowItem series device cell item → IsRowItem series device other later → item.series.0 ≡ later.series.0
    → cell.measurement ≡ other.measurement
same_measurement series device cell other item later is are same =
    let one : is.schema ≡ are.schema =
    some_same is.schema are.schema (sym is.at ∙ ap (slice_get series) same ∙ are.at) in
    let path : child_of device cell.measurement ≡ child_of device other.measurement =
    sym is.of_path ∙ ap (λ (s : Schema). s.path) one ∙ are.of_path in
    sym (measurement_of-child device cell.measurement (IsNode-dotless cell.measurement is.name.node))
    ∙ ap measurement_of path
    ∙ measurement_of-child device other.measurement (IsNode-dotless other.measurement are.name.node)

abbrev names_of : List Cell → List (List ℕ)
names_of cells = map (λ (cell : Cell). cell.measurement) cells

abbrev IsAbsent : List ℕ → List (List ℕ) → Type 0
IsAbsent name names = (i : ℕ) → slice_get names i ≢ Some name

next_apart : (i : ℕ) → 0 ≡ suc i → ⊥
next_apart i e = cc

one_less : (i j : ℕ) → suc i ≡ suc j → i ≡ j
one_less i j e = cc

first_absent : (name : List ℕ) (names : List (List ℕ)) → AreDifferent (name ∷ names) → IsAbsent name names
first_absent name names differ i at = next_apart i (differ 0 (suc i) name refl at)

others_different : (name : List ℕ) (names : List (List ℕ)) → AreDifferent (name ∷ names) → AreDifferent names
others_different name names differ i j other at there = one_less i j (differ (suc i) (suc j) other at there)

abbrev OfOthers : CellRecord → CellRecord → Type 0
OfOthers item other = item.series.0 ≢ other.series.0

item_apart : (series : List Schema) (device : List ℕ) (cell : Cell) (item : CellRecord) (cells : List Cell)
    (items : List CellRecord) → IsRowItem series device cell item → IsAbsent cell.measurement (names_of cells)
    → AreRowItems series device cells items → All (OfOthers item) items
item_apart series device cell item [] [] is absent are = All-nil (OfOthers item)
item_apart series device cell item [] (other ∷ items) is absent are = absurd are
item_apart series device cell item (next ∷ cells) [] is absent are = absurd are
item_apart series device cell item (next ∷ cells) (other ∷ items) is absent are =
    All-cons (OfOthers item) other items
    (λ same. absent 0 (ap Some (sym (same_measurement series device cell next item other is are.0 same))))
    (item_apart series device cell item cells items is (λ i. absent (suc i)) are.1)

pub items_differ : (series : List Schema) (device : List ℕ) (cells : List Cell) (items : List CellRecord)
    → AreDifferent (map (λ (cell : Cell). cell.measurement) cells) → AreRowItems series device cells items → AreOfDifferentSeries items
items_differ series device [] [] differ are = λ i j d lt within. absurd (none j within)
  where
    none : (k : ℕ) → k < 0 → ⊥
    none k h = omega (arith, h)
items_differ series device [] (item ∷ items) differ are = absurd are
items_differ series device (cell ∷ cells) [] differ are = absurd are
items_differ series device (cell ∷ cells) (item ∷ items) differ are =
    AllPairs-cons OfOthers item items
    (item_apart series device cell item cells items are.0 (first_absent cell.measurement (names_of cells) differ) are.1)
    (items_differ series device cells items (others_different cell.measurement (names_of cells) differ) are.1)
