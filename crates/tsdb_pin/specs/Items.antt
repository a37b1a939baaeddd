-- The series of the items of a select, and when items are refused.
use Rattle.std.specs.Prelude.{◌≡◌, ◌⊎◌, ℕ, Bool, true, false, List, [], ◌∷◌, map, Option, Some, IsSome}
use Rattle.std.specs.Prelude.{slice_get, ⊤, Result}
use Rattle.std.specs.List.{AllByRecursion as Each, AllZip}
use Rattle.std.specs.Option.{IsSomeAnd}
use Rattle.std.specs.declared.alloc.Global.{Global}
use Rattle.std.specs.declared.result.Result.TheVariants.{Ok, Err}
use Rattle.std.specs.declared.vec.Vec.{Vec}
use Rattle.tsdb_base.specs.declared.answers.Aggregate.{Aggregate}
use Rattle.tsdb_base.specs.declared.value.DataType.{DataType}
use Rattle.tsdb_model.specs.Apply.{is_unfit}
use Rattle.tsdb_model.specs.World.{new_series}
use Rattle.tsdb_model.specs.declared.command.Item.{Item}
use Rattle.tsdb_model.specs.declared.command.Schema.{Schema}
use Rattle.tsdb_fileset.specs.StateOfMemory.{series_entry, number_of}
use Rattle.tsdb_path.specs.Nodes.{child_of}
use Rattle.tsdb_pin.specs.declared.items.AskedSeries.{AskedSeries}
use Rattle.tsdb_pin.specs.declared.items.ItemFound.{ItemFound}
use Rattle.tsdb_pin.specs.declared.items.ItemFound.TheVariants.{Missing, Series}
use Rattle.tsdb_pin.specs.declared.pin.PinFault.{PinFault}
use Rattle.tsdb_pin.specs.declared.pin.PinFault.TheVariants.{NoPath, WrongType, Memory}
use Rattle.tsdb_fileset.specs.State.{SeriesEntry}
use Rattle.tsdb_fileset.specs.Worlds.{type_at}

-- whether an aggregate that only numbers have is asked of a type that has none
abbrev pub is_unfit_for : Option Aggregate → DataType → Bool
is_unfit_for aggregate data_type = is_unfit aggregate (Some (new_series data_type))

-- whether all are fit, with one more that is unfit, or is not
abbrev pub are_fit_with : Bool → Bool → Bool
are_fit_with true fit = false
are_fit_with false fit = fit

-- the type of the item's series, where that is there
abbrev pub item_type : List SeriesEntry → List ℕ → Item → Option DataType
item_type schemas device item = type_at schemas (child_of device item.measurement)

-- the series of the item is there
abbrev pub IsThere : List SeriesEntry → List ℕ → Item → Type 0
IsThere schemas device item = IsSome (item_type schemas device item)

-- the series of the item is there, and has what the item asks for; or it has not
abbrev pub IsFit : List SeriesEntry → List ℕ → Item → Type 0
IsFit schemas device item = IsSomeAnd (item_type schemas device item) (λ t. is_unfit_for item.aggregate t ≡ false)

abbrev pub IsUnfitItem : List SeriesEntry → List ℕ → Item → Type 0
IsUnfitItem schemas device item = IsSomeAnd (item_type schemas device item) (λ t. is_unfit_for item.aggregate t ≡ true)

-- it holds of one of them
abbrev pub OneOf : {X : Type 0} → (X → Type 0) → List X → Type 0
OneOf P [] = ⊥
OneOf P (x ∷ xs) = P x ⊎ OneOf P xs

-- all items are fit
abbrev pub AreFit : List SeriesEntry → List ℕ → List Item → Type 0
AreFit schemas device items = Each (IsFit schemas device) items

-- why items are refused: the series of one is not there; or all are there, and one is unfit. Memory may end before
-- either.
abbrev pub AreItemsRefused : List SeriesEntry → List ℕ → List Item → PinFault → Type 0
AreItemsRefused schemas device items NoPath = OneOf (λ item. ¬ IsThere schemas device item) items
AreItemsRefused schemas device items WrongType =
    Each (IsThere schemas device) items × OneOf (IsUnfitItem schemas device) items
AreItemsRefused schemas device items Memory = ⊤

-- this is the series of the item, under its number
pub record IsAsked (series : List Schema) (device : List ℕ) (item : Item) (asked : AskedSeries) : Type 0 where
  pub at : slice_get series asked.id.0 ≡ Some asked.schema
  pub of_path : asked.schema.path ≡ child_of device item.measurement
  pub numbered : number_of series asked.schema.path ≡ Some asked.id.0
  pub same : asked.aggregate ≡ item.aggregate

-- what an item is in memory
abbrev pub IsItemFound : List Schema → List ℕ → Item → ItemFound → Type 0
IsItemFound series device item Missing = ¬ IsThere (map series_entry series) device item
IsItemFound series device item (Series asked) = IsAsked series device item asked

-- how items are read: as their series, in their order, where all are fit; or as refused
abbrev pub AreRead : List Schema → List ℕ → List Item → Result (Vec AskedSeries Global) PinFault → Type 0
AreRead series device items (Ok all) =
    AreFit (map series_entry series) device items × AllZip (IsAsked series device) items all.items
AreRead series device items (Err fault) = AreItemsRefused (map series_entry series) device items fault
