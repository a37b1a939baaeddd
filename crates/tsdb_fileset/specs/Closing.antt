-- What becomes of the tokens at the end.
use Rattle.std.specs.Prelude.{◌≡◌, ◌+◌, ◌^◌, ◌<◌, List, [], ◌∷◌, ◌++◌, length, map, Option, None, Some, ⊤}
use Rattle.std.specs.List.{AllByRecursion as Each, AllZip, flat_map}
use Rattle.tsdb_fileset.specs.Places.{KeptFile, Places}
use Rattle.tsdb_base.specs.Lists.{if_some}
use Rattle.tsdb_outside.specs.Disk.{WhereTold}
use Rattle.tsdb_outside.specs.Files.{NamedFile, PutsBack, StoredFile}

-- the names of the kept files, in order of their numbers
abbrev pub names_at : Places → List NamedFile
names_at places = flat_map (λ place. map (λ file. file.name) (if_some place.1)) places

-- the numbers of the places rise
abbrev pub AreNumbersRising : Places → Type 0
AreNumbersRising [] = ⊤
AreNumbersRising (place ∷ places) = Each (λ other. place.0 < other.0) places × AreNumbersRising places

-- the token names the stored file, and tells its bytes
pub record NamesStoredFile (name : NamedFile) (file : StoredFile) : Type 0 where
  pub number : name.number ≡ file.number
  pub bytes : name.bytes ≡ Some file.bytes

-- the files that tokens name are put behind the others, of which there are fewer than 2^63 in all
abbrev pub ArePutBack : List NamedFile → List StoredFile → List StoredFile → Type 0
ArePutBack names old new = (files : List StoredFile) → AllZip NamesStoredFile names files
    → length old + length files < 2 ^ 63 → new ≡ old ++ files

-- the token at a place is given back, where there is one
abbrev pub IsGivenBack : Option KeptFile → Option (List StoredFile) → Option (List StoredFile) → Type 0
IsGivenBack None old new = new ≡ old
IsGivenBack (Some file) old new = WhereTold (PutsBack file.name) old new
