-- What stored files mean. The rules stand at the head of src/files.rt.
use Rattle.std.specs.Prelude.{◌≡◌, ℕ, ◌+◌, ◌^◌, ◌<◌, ◌≤◌, List, [], ◌∷◌, ◌++◌, length, map, Bool, ◌&&◌, nat_le}
use Rattle.std.specs.Prelude.{nat_lt, IfSome, is_some}
use Rattle.std.specs.declared.option.Option.{Option}
use Rattle.tsdb_base.specs.declared.ids.FileNumber.{FileNumber}

-- a stored file
pub record StoredFile : Type 0 where
  pub number : ℕ
  pub bytes : List ℕ

-- which store: the directory that it was taken up from, and whether it tells what its files hold
pub record Store : Type 0 where
  pub directory : List ℕ
  pub tells : Bool

-- what a token says of its file: the store, the number, and the bytes where the store tells them
pub record NamedFile : Type 0 where
  pub store : Store
  pub number : ℕ
  pub bytes : Option (List ℕ)

-- the bytes are told exactly where the store tells them
abbrev pub Tells : NamedFile → Type 0
Tells name = name.store.tells ≡ is_some name.bytes

-- numbers that a file may have
pub record IsFileNumber (n : ℕ) : Type 0 where
  pub low : 1 ≤ n
  pub high : n < 2 ^ 63

-- the test for it
abbrev pub is_number : ℕ → Bool
is_number n = nat_le 1 n && nat_lt n (2 ^ 63)

-- the numbers of these files
abbrev pub stored_file_numbers : List StoredFile → List ℕ
stored_file_numbers files = map (λ (file : StoredFile). file.number) files

-- the same of a list of numbers, as plain numbers
abbrev pub plain_numbers : List FileNumber → List ℕ
plain_numbers list = map (λ (number : FileNumber). number.0) list

-- a token names the file with this number and these bytes
pub record Names (number : ℕ) (bytes : List ℕ) (name : NamedFile) : Type 0 where
  pub number_is : name.number ≡ number
  pub bytes_are : IfSome name.bytes (λ told. told ≡ bytes)

-- one file is taken out, which the token names, and the others stay in their order
pub record TakesOut (name : NamedFile) (old new : List StoredFile) : Type 0 where
  pub before : List StoredFile
  pub file : StoredFile
  pub after : List StoredFile
  pub names : Names file.number file.bytes name
  pub old_is : old ≡ before ++ file ∷ after
  pub new_is : new ≡ before ++ after

-- The file that a token names is put behind the others. There are fewer than 2^63 files, since their numbers differ.
abbrev pub PutsBack : NamedFile → List StoredFile → List StoredFile → Type 0
PutsBack name old new = IfSome name.bytes (λ bytes. length old + 1 < 2 ^ 63
    → new ≡ old ++ record { number = name.number; bytes = bytes } ∷ [])
