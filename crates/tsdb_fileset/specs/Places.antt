-- The places of files by number, and what a call changes among them.
use Rattle.std.specs.Prelude.{◌≡◌, ◌≢◌, ℕ, Bool, cond, List, Option, Some, None, IfSome, nat_eq}
use Rattle.std.specs.List.{AllByRecursion as Each, list_any}
use Rattle.std.specs.Map.{lookup}
use Rattle.std.specs.Ordering.{nat_cmp, is_eq}
use Rattle.tsdb_base.specs.declared.ids.FileNumber.{FileNumber}
use Rattle.tsdb_outside.specs.Files.{NamedFile, Store}

-- what the token of a file names, the paths of the file's series, and how many rights to read it are out
pub record KeptFile : Type 0 where
  pub name : NamedFile
  pub series : List (List ℕ)
  pub rights : ℕ

-- a place for each number that was drawn, with the file where it is there, in order of the numbers
abbrev pub Places : Type 0
Places = List (ℕ × Option KeptFile)

abbrev pub is_same_number : ℕ → ℕ → Bool
is_same_number number other = is_eq (nat_cmp number other)

-- what stands at the number's place, where there is one
abbrev pub place_of_number : ℕ → Places → Option (Option KeptFile)
place_of_number number places = lookup (is_same_number number) places

-- the file at a place, where there is one
abbrev pub file_at : Option (Option KeptFile) → Option KeptFile
file_at None = None
file_at (Some place) = place

-- all other numbers have what they had
abbrev pub OthersStay : ℕ → Places → Places → Type 0
OthersStay number old new = (other : ℕ) → number ≢ other → place_of_number other new ≡ place_of_number other old

-- no file comes and none goes, and each place that was made stays
pub record OnlyMakesPlaces (old new : Places) : Type 0 where
  pub files : (number : ℕ) → file_at (place_of_number number new) ≡ file_at (place_of_number number old)
  pub places : (number : ℕ) → place_of_number number old ≡ Some None → place_of_number number new ≡ Some None

-- there is a place for each of the numbers, where its file is not there
abbrev pub ArePlacesMade : List FileNumber → Places → Places → Type 0
ArePlacesMade numbers old new =
    Each (λ number. file_at (place_of_number number.0 old) ≡ None → place_of_number number.0 new ≡ Some None) numbers

-- it holds of each kept file
abbrev pub AllFiles : (KeptFile → Type 0) → Places → Type 0
AllFiles P places = (number : ℕ) → IfSome (file_at (place_of_number number places)) P

-- the tokens are of the store
abbrev pub AreOfStore : Store → Places → Type 0
AreOfStore store places = AllFiles (λ file. file.name.store ≡ store) places

-- no right to read any of the files is out
abbrev pub AreUnread : Places → Type 0
AreUnread places = AllFiles (λ file. file.rights ≡ 0) places

abbrev pub is_one_of : List ℕ → ℕ → Bool
is_one_of numbers number = list_any (nat_eq number) numbers

-- the places of these numbers go, and all others stay
abbrev pub TakesAway : List ℕ → Places → Places → Type 0
TakesAway numbers old new =
    (number : ℕ) → place_of_number number new ≡ cond (is_one_of numbers number) None (place_of_number number old)
