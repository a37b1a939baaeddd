-- What the directory of a store tells of its files, and what each call does to it.
use Rattle.std.specs.Prelude.{◌≡◌, ◌⊎◌, ℕ, ◌+◌, ◌-◌, ◌^◌, ◌≤◌, min, Bool, true, false, List, [], ◌∷◌, ◌++◌, length}
use Rattle.std.specs.Prelude.{take, drop, map, filter, nat_eq, not, Contains, Some, None, IfSome, if◌then◌else◌}
use Rattle.std.specs.declared.option.Option.{Option}
use Rattle.std.specs.Option.{IsSomeAnd}
use Rattle.tsdb_base.specs.Causes.{Rose}
use Rattle.tsdb_outside.specs.Files.{NamedFile, Store}
use Rattle.tsdb_outside.specs.Limits.{FitsSlot}

-- a file in the directory: its number and bytes, whether a stop leaves these bytes, and whether it leaves the name
pub record DirectoryFile : Type 0 where
  pub number : ℕ
  pub bytes : List ℕ
  pub is_synced : Bool
  pub is_named : Bool

-- an empty file that was just created
abbrev pub created_file : ℕ → DirectoryFile
created_file n = record { number = n; bytes = []; is_synced = false; is_named = false }

-- a file of which a stop leaves name and bytes
abbrev pub durable_file : ℕ → List ℕ → DirectoryFile
durable_file n bytes = record { number = n; bytes = bytes; is_synced = true; is_named = true }

abbrev pub with_bytes : List ℕ → DirectoryFile → DirectoryFile
with_bytes bytes file = record file { bytes = bytes; is_synced = false }

abbrev pub with_synced_bytes : DirectoryFile → DirectoryFile
with_synced_bytes file = record file { is_synced = true }

abbrev pub with_synced_name : DirectoryFile → DirectoryFile
with_synced_name file = record file { is_named = true }

-- the numbers of the files
abbrev pub directory_numbers : List DirectoryFile → List ℕ
directory_numbers files = map (λ (file : DirectoryFile). file.number) files

-- no file has this number
abbrev pub IsFree : ℕ → List DirectoryFile → Type 0
IsFree n files = ¬ Contains (directory_numbers files) n

-- where it tells, no file has this number, or one has it
abbrev pub IsFreeIn : ℕ → Option (List DirectoryFile) → Type 0
IsFreeIn n told = IfSome told (IsFree n)

abbrev pub IsTakenIn : ℕ → Option (List DirectoryFile) → Type 0
IsTakenIn n told = IfSome told (λ files. ¬ IsFree n files)

-- one file is changed, and the others stay
abbrev pub change_one : ℕ → (DirectoryFile → DirectoryFile) → List DirectoryFile → List DirectoryFile
change_one n f files = map (λ (file : DirectoryFile). if nat_eq file.number n then f file else file) files

-- a new file stands behind the others
abbrev pub add_new : ℕ → List DirectoryFile → List DirectoryFile
add_new n files = files ++ created_file n ∷ []

-- all names are durable, and the file with these bytes stands behind the others, durable too
abbrev pub put_durable : ℕ → List ℕ → List DirectoryFile → List DirectoryFile
put_durable n bytes files = map with_synced_name files ++ durable_file n bytes ∷ []

-- a file of which only the number was there now has these bytes, and is durable with all names
abbrev pub Fills : ℕ → List ℕ → Option (List DirectoryFile) → Option (List DirectoryFile) → Type 0
Fills n bytes old new = IfSome old (λ files. new ≡ Some (map with_synced_name
    (change_one n with_synced_bytes (change_one n (with_bytes bytes) files))))

-- a count has risen by two
abbrev pub RoseTwice : ℕ → ℕ → Type 0
RoseTwice before now = min (before + 2) (2 ^ 64 - 1) ≤ now

-- the directory was left as it was, where a file with this number was there
abbrev pub StaysTaken : ℕ → Option (List DirectoryFile) → Option (List DirectoryFile) → Type 0
StaysTaken n old new = IfSome old (λ files. ¬ IsFree n files → new ≡ Some files)

-- Where no file with this number was there, none is there again, unless the directory failed twice.
abbrev pub IsTakenAway : ℕ → Option (List DirectoryFile) → Option (List DirectoryFile) → ℕ → ℕ → Type 0
IsTakenAway n old new before now =
    IfSome old (λ files. IsFree n files → IsSomeAnd new (IsFree n) ⊎ RoseTwice before now)

-- the file with this number is gone
abbrev pub without : ℕ → List DirectoryFile → List DirectoryFile
without n files = filter (λ (file : DirectoryFile). not (nat_eq file.number n)) files

-- the files with other numbers stay as they are, and what is told goes on to be told
abbrev pub SameBut : ℕ → Option (List DirectoryFile) → Option (List DirectoryFile) → Type 0
SameBut n old new = IfSome old (λ before. IsSomeAnd new (λ after. without n after ≡ without n before))

-- what it tells changes in this way, where it tells
abbrev pub Becomes : {X : Type 0} → (X → X) → Option X → Option X → Type 0
Becomes change old new = IfSome old (λ told. new ≡ Some (change told))

-- these are bytes of the file with this number, from that place on
abbrev pub HasBytesOf : ℕ → ℕ → List ℕ → Option (List DirectoryFile) → Type 0
HasBytesOf n at into told = IfSome told (λ files. (file : DirectoryFile) → Contains files file → file.number ≡ n
    → at + length into ≤ length file.bytes → into ≡ take (length into) (drop at file.bytes))

-- this is the length of the file with this number
abbrev pub HasLengthOf : ℕ → ℕ → Option (List DirectoryFile) → Type 0
HasLengthOf n size told = IfSome told (λ files. (file : DirectoryFile) → Contains files file → file.number ≡ n
    → size ≡ length file.bytes)

-- a file is not read where the directory failed, or where it has no such file
abbrev pub ReadFails : ℕ → Option (List DirectoryFile) → ℕ → ℕ → Type 0
ReadFails n told before now = Rose before now ⊎ IsFreeIn n told

-- its length is refused there too, and where it is too long
abbrev pub SizeFails : ℕ → Option (List DirectoryFile) → ℕ → ℕ → Type 0
SizeFails n told before now = ReadFails n told before now ⊎ IfSome told (λ files. (file : DirectoryFile)
    → Contains files file → file.number ≡ n → ¬ FitsSlot (length file.bytes))

-- the store in this directory, which does not tell what its files hold
abbrev pub store_in : List ℕ → Store
store_in directory = record { directory = directory; tells = false }

-- what a token says of its file: its store and its number
abbrev pub numbered : Store → ℕ → NamedFile
numbered store n = record { store = store; number = n; bytes = None }
