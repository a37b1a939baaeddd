-- The columns of a pin have what the plain map reads for its items.
use Rattle.std.proofs.Common.{◌≡◌, ℕ, List, [], ◌∷◌, refl, ap, ◌∙◌}
use Rattle.std.specs.List.{AllZip}
use Rattle.tsdb_base.specs.declared.point.Range.{Range}
use Rattle.tsdb_pin.specs.Files.{KeptFiles}
use Rattle.tsdb_model.specs.Apply.{columns_of, item_value, item_values, series_of}
use Rattle.tsdb_model.specs.Folds.{within}
use Rattle.tsdb_model.specs.World.{World, points_of_series}
use Rattle.tsdb_model.specs.declared.command.Item.{Item}
use Rattle.tsdb_memory.specs.Store.{MemoryState}
use Rattle.tsdb_outside.specs.Files.{NamedFile}
use Rattle.tsdb_pins.specs.Worlds.{columns_in, series_points, values_in}
use Rattle.tsdb_pin.specs.Pins.{IsColumnFor, IsPinFor}
use Rattle.tsdb_pin.specs.declared.pin.Column.{Column}
use Rattle.tsdb_pin.specs.declared.pin.Pin.{Pin}

module _ {F S R P : Type 0} (name : R → NamedFile) (files : KeptFiles) (store : MemoryState) (device : List ℕ) (range : Range) (world : World) where
  same_columns : (items : List Item) (columns : List (Column F S R P)) → AllZip (IsColumnFor name files store device range) items columns → columns_in world range columns ≡ columns_of world device items range
  same_columns [] [] zip = refl
  same_columns [] (column ∷ columns) zip = absurd zip
  same_columns (item ∷ items) [] zip = absurd zip
  same_columns (item ∷ items) (column ∷ columns) zip =
      ap (λ (path : List ℕ). series_points world range path ∷ columns_in world range columns) zip.0.of_path
      ∙ ap (λ l. within range (points_of_series (series_of world device item.measurement)) ∷ l) (same_columns items columns zip.1)

  same_values : (items : List Item) (columns : List (Column F S R P)) → AllZip (IsColumnFor name files store device range) items columns → values_in world range columns ≡ item_values world device items range
  same_values [] [] zip = refl
  same_values [] (column ∷ columns) zip = absurd zip
  same_values (item ∷ items) [] zip = absurd zip
  same_values (item ∷ items) (column ∷ columns) zip =
      ap (λ (path : List ℕ). item_value column.aggregate (series_points world range path) ∷ values_in world range columns) zip.0.of_path
      ∙ ap (λ a. item_value a (within range (points_of_series (series_of world device item.measurement))) ∷ values_in world range columns) zip.0.aggregate
      ∙ ap (λ l. item_value item.aggregate (within range (points_of_series (series_of world device item.measurement))) ∷ l) (same_values items columns zip.1)

  pub pin_columns : (items : List Item) (pin : Pin F S R P) → IsPinFor name files store device items range pin → columns_in world pin.range pin.columns ≡ columns_of world device items range
  pin_columns items pin is = ap (λ r. columns_in world r pin.columns) is.range_is ∙ same_columns items pin.columns is.columns

  pub pin_values : (items : List Item) (pin : Pin F S R P) → IsPinFor name files store device items range pin → values_in world pin.range pin.columns ≡ item_values world device items range
  pin_values items pin is = ap (λ r. values_in world r pin.columns) is.range_is ∙ same_values items pin.columns is.columns
