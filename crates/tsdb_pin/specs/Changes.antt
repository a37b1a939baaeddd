-- What is left of kept files where rights to read several of them are given out, or taken back.
use Rattle.std.specs.Prelude.{◌≡◌, ℕ, ◌+◌, ◌-◌, List, ◌++◌}
use Rattle.std.specs.List.{flat_map}
use Rattle.std.specs.Option.{option_map}
use Rattle.tsdb_fileset.specs.Files.{KeepsLists, KeptFiles}
use Rattle.tsdb_fileset.specs.Places.{KeptFile, place_of_number}
use Rattle.tsdb_base.specs.Lists.{count}
use Rattle.tsdb_outside.specs.Files.{NamedFile}
use Rattle.tsdb_pin.specs.Sources.{AreHeldIn, numbers_in}
use Rattle.tsdb_pin.specs.declared.pin.Column.{Column}
use Rattle.tsdb_pin.specs.declared.pin.PinnedSource.{PinnedSource}

-- so many rights more, or fewer, to read the file are out
abbrev pub more_rights : ℕ → KeptFile → KeptFile
more_rights more file = record file { rights = file.rights + more }

abbrev pub fewer_rights : ℕ → KeptFile → KeptFile
fewer_rights fewer file = record file { rights = file.rights - fewer }

-- Each kept file has become another, as its number says. No file comes or goes, and the store, the lists and the room
-- stay.
pub record ChangesFiles (change : ℕ → KeptFile → KeptFile) (old new : KeptFiles) : Type 0 where
  pub places : (number : ℕ)
      → place_of_number number new.places ≡ option_map (λ place. option_map (change number) place)
      (place_of_number number old.places)
  pub lists : KeepsLists old new
  pub room : new.spare ≡ old.spare

-- one right more is out on the file of each of these numbers, for each time that it is named; or one right fewer
abbrev pub TakesRights : List ℕ → KeptFiles → KeptFiles → Type 0
TakesRights numbers old new = ChangesFiles (λ number. more_rights (count number numbers)) old new

abbrev pub GivesRights : List ℕ → KeptFiles → KeptFiles → Type 0
GivesRights numbers old new = ChangesFiles (λ number. fewer_rights (count number numbers)) old new

-- nothing has changed
abbrev pub ChangesNoFile : KeptFiles → KeptFiles → Type 0
ChangesNoFile old new = ChangesFiles (λ number file. file) old new

module _ {F S R P : Type 0} where
  -- the numbers of the files that columns have rights on, once for each right
  abbrev pub column_numbers : List (Column F S R P) → List ℕ
  column_numbers columns = flat_map (λ column. numbers_in column.sources) columns

module _ {F S R P : Type 0} (name : R → NamedFile) where
  -- these sources came behind the others, with the rights that they have
  pub record TakesSources (old new : KeptFiles) (before after more : List (PinnedSource F S R P)) : Type 0 where
    pub are : after ≡ before ++ more
    pub rights : TakesRights (numbers_in more) old new
    pub held : AreHeldIn name old more

  -- some sources came behind the others
  abbrev pub TakesSomeSources : KeptFiles → KeptFiles → List (PinnedSource F S R P) → List (PinnedSource F S R P)
      → Type 0
  TakesSomeSources old new before after = (more : List (PinnedSource F S R P)) × TakesSources old new before after more

  -- sources of which this holds came behind the others
  abbrev pub TakesAll : (List (PinnedSource F S R P) → Type 0) → KeptFiles → KeptFiles
      → List (PinnedSource F S R P) → List (PinnedSource F S R P) → Type 0
  TakesAll Are old new before after = (more : List (PinnedSource F S R P)) × TakesSources old new before after more × Are more
