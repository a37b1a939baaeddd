-- A query from a store that does not tell what its files hold.
use Rattle.std.proofs.Common.{◌≡◌, ℕ, false, List, [], ◌∷◌, None, Some, sym, ap, ◌∙◌}
use Rattle.std.specs.List.{AllByRecursion as Each}
use Rattle.std.specs.Prelude.{IsErrOf, Result, is_some}
use Rattle.std.proofs.lemmas.Bool.{false≢true}
use Rattle.tsdb_pins.specs.Files.{HasReason}
use Rattle.tsdb_base.specs.Causes.{Rose}
use Rattle.tsdb_outside.specs.Files.{NamedFile, Store, Tells}
use Rattle.tsdb_outside.specs.declared.faults.StoreFault.{StoreFault}
use Rattle.tsdb_outside.specs.declared.faults.StoreFault.TheVariants.{Failed}
use Rattle.tsdb_pin.specs.declared.pin.Column.{Column}
use Rattle.tsdb_pin.specs.declared.pin.PinnedSource.{PinnedSource}
use Rattle.tsdb_pin.specs.declared.pin.PinnedSource.TheVariants.{File, Part}
use Rattle.tsdb_pins.specs.Reading.{AreColumnsOf, AreColumnsTold, AreColumnsTrue, IsOfStore, IsToldIn, IsTrueIn, SeriesPages}

-- of no file the pages are told
abbrev nothing : SeriesPages
nothing = λ path number. None

tells_none : (store : Store) → store.tells ≡ false → (file : NamedFile) → Tells file → file.store ≡ store
    → (bytes : List ℕ) → file.bytes ≡ Some bytes → ⊥
tells_none store untold file tells of bytes is =
    false≢true (sym untold ∙ ap (λ (s : Store). s.tells) (sym of) ∙ tells ∙ ap is_some is)

module _ {F S R P : Type 0} (name : R → NamedFile) (laws : (right : R) → Tells (name right)) (store : Store)
    (untold : store.tells ≡ false) where
  true_sources : (path : List ℕ) (sources : List (PinnedSource F S R P)) → Each (IsTrueIn name nothing path) sources
  true_sources path [] = tt
  true_sources path (File number born right ∷ sources) = (tt, true_sources path sources)
  true_sources path (Part born copies ∷ sources) = (tt, true_sources path sources)

  true_columns : (columns : List (Column F S R P)) → AreColumnsTrue name nothing columns
  true_columns [] = tt
  true_columns (column ∷ columns) = (true_sources column.schema.path column.sources, true_columns columns)

  told_sources : (path : List ℕ) (sources : List (PinnedSource F S R P)) → Each (IsOfStore name store) sources
      → Each (IsToldIn name nothing path) sources
  told_sources path [] of = tt
  told_sources path (File number born right ∷ sources) of =
      (λ bytes is. absurd (tells_none store untold (name right) (laws right) of.0 bytes is), told_sources path sources of.1)
  told_sources path (Part born copies ∷ sources) of = (tt, told_sources path sources of.1)

  told_columns : (columns : List (Column F S R P)) → AreColumnsOf name store columns
      → AreColumnsTold name nothing columns
  told_columns [] of = tt
  told_columns (column ∷ columns) of =
      (told_sources column.schema.path column.sources of.0, told_columns columns of.1)

  -- a read that failed has a fault
  pub rose_untold : {T : Type 0} (columns : List (Column F S R P)) → AreColumnsOf name store columns
      → (before now : ℕ) (result : Result T StoreFault)
      → ((pages : SeriesPages) → AreColumnsTrue name pages columns
      → HasReason (AreColumnsTold name pages columns) before now result) → IsErrOf result Failed → Rose before now
  rose_untold columns of before now result reason failed =
      (reason nothing (true_columns columns)).failed failed (told_columns columns of)
