-- Which commands are well-formed. A script is read as such commands alone.
use Rattle.std.specs.Prelude.{◌≡◌, ◌⊎◌, ℕ, ◌≤◌, List, None, Some, IsTrue, All, length, map, slice_get}
use Rattle.std.specs.Option.{IsSome}
use Rattle.tsdb_base.specs.Values.{is_suitable}
use Rattle.tsdb_model.specs.declared.command.Command.{Command}
use Rattle.tsdb_model.specs.declared.command.Command.TheVariants.{Create, Insert, Delete, Select, Flush, CompactInner}
use Rattle.tsdb_model.specs.declared.command.Command.TheVariants.{CompactCross, ShowFiles}
use Rattle.tsdb_model.specs.declared.command.Item.{Item}
use Rattle.tsdb_model.specs.declared.command.Row.{Row}
use Rattle.tsdb_model.specs.declared.command.Schema.{Schema}
use Rattle.tsdb_base.specs.Limits.{max_names}
use Rattle.tsdb_path.specs.Nodes.{node_count}

-- a path of a device: at least 2 nodes
abbrev pub IsDevice : List ℕ → Type 0
IsDevice path = 2 ≤ node_count path

-- a path of a series: a device, and a measurement
abbrev pub IsSeries : List ℕ → Type 0
IsSeries path = 3 ≤ node_count path

-- a series with an encoding that suits its type
pub record IsSchema (schema : Schema) : Type 0 where
  pub series : IsSeries schema.path
  pub suits : IsTrue (is_suitable schema.data_type schema.encoding)

-- nothing stands at two places
abbrev pub AreDifferent : {A : Type 0} → List A → Type 0
AreDifferent {A} list = (i j : ℕ) (x : A) → slice_get list i ≡ Some x → slice_get list j ≡ Some x → i ≡ j

-- 1 to 1,000 cells of different measurements
pub record IsRow (row : Row) : Type 0 where
  pub some : 1 ≤ length row.cells
  pub few : length row.cells ≤ max_names
  pub different : AreDifferent (map (λ cell. cell.measurement) row.cells)

-- 1 to 1,000 items, all with or all without an aggregate
pub record AreItems (items : List Item) : Type 0 where
  pub some : 1 ≤ length items
  pub few : length items ≤ max_names
  pub alike : All (λ item. item.aggregate ≡ None) items ⊎ All (λ item. IsSome item.aggregate) items

-- what every call that takes a command asks of it
abbrev pub IsWellFormed : Command → Type 0
IsWellFormed (Create schema) = IsSchema schema
IsWellFormed (Insert device row) = IsDevice device × IsRow row
IsWellFormed (Delete series range) = IsSeries series
IsWellFormed (Select device items range) = IsDevice device × AreItems items
IsWellFormed Flush = Unit {0}
IsWellFormed (CompactInner space) = Unit {0}
IsWellFormed CompactCross = Unit {0}
IsWellFormed ShowFiles = Unit {0}
