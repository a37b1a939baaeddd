-- The rights of a pin are on files of the store.
use Rattle.std.proofs.Common.{◌≡◌, List, Option, None, Some, ap, ◌∙◌}
use Rattle.std.specs.Prelude.{IfSome}
use Rattle.std.specs.List.{AllByRecursion as Each}
use Rattle.tsdb_pin.specs.Files.{KeptFiles, kept_file}
use Rattle.tsdb_pin.specs.Places.{AreOfStore, KeptFile}
use Rattle.tsdb_pin.specs.Rights.{IsRightTo}
use Rattle.tsdb_base.proofs.Lists.{each_weaker}
use Rattle.tsdb_outside.specs.Files.{NamedFile, Store}
use Rattle.tsdb_pin.specs.Pins.{AreColumnsHeld}
use Rattle.tsdb_pin.specs.Sources.{AreHeldIn, IsHeldIn}
use Rattle.tsdb_pin.specs.declared.pin.Column.{Column}
use Rattle.tsdb_pin.specs.declared.pin.PinnedSource.{PinnedSource}
use Rattle.tsdb_pin.specs.declared.pin.PinnedSource.TheVariants.{File, Part}
use Rattle.tsdb_pins.specs.Reading.{AreColumnsOf, IsOfStore}

right_of : {R : Type 0} (name : R → NamedFile) (store : Store) (right : R) (kept : Option KeptFile) → IfSome kept (λ file. file.name.store ≡ store) → IsRightTo name kept (Some right) → (name right).store ≡ store
right_of name store right None is held = absurd held
right_of name store right (Some file) is held = ap (λ (n : NamedFile). n.store) held ∙ is

module _ {F S R P : Type 0} (name : R → NamedFile) (files : KeptFiles) (store : Store) (of : AreOfStore store files.places) where
  source_of : (source : PinnedSource F S R P) → IsHeldIn name files source → IsOfStore name store source
  source_of (File number born right) held = right_of name store right (kept_file number.0 files) (of number.0) held
  source_of (Part born copies) held = tt

  pub columns_of : (columns : List (Column F S R P)) → AreColumnsHeld name files columns → AreColumnsOf name store columns
  columns_of columns held = each_weaker (λ (column : Column F S R P). AreHeldIn name files column.sources) (λ (column : Column F S R P). Each (IsOfStore name store) column.sources)
      (λ column each. each_weaker (IsHeldIn name files) (IsOfStore name store) source_of column.sources each) columns held
