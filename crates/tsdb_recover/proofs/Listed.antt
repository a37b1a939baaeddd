-- The listed ones of stored files, by their numbers.
use Rattle.std.proofs.Common.{◌≡◌, ◌∙◌, ℕ, Bool, true, false, cond, nat_eq, List, [], ◌∷◌, ◌++◌, Option, None, Some}
use Rattle.std.proofs.Common.{IfSome, refl, sym, ap}
use Rattle.std.proofs.lemmas.Bool.{eq-eqb, eqb-true, false≢true}
use Rattle.std.specs.Prelude.{is_some}
use Rattle.std.specs.List.{AllByRecursion as Each, filter, find, list_any}
use Rattle.tsdb_state.proofs.ImageLemmas.Kept.{found_bytes, has_number, whole_as}
use Rattle.tsdb_state.specs.StoredEngine.{IsKeptWhole, kept_bytes}
use Rattle.tsdb_base.proofs.Lists.{among_map, any_among, each_among, each_from_among}
use Rattle.tsdb_base.specs.Lists.{Among}
use Rattle.tsdb_fileset.specs.Files.{AreKept, KeptFiles, kept_file}
use Rattle.tsdb_fileset.specs.Places.{KeptFile}
use Rattle.tsdb_fileset.specs.StateOfFiles.{TellTheirBytes}
use Rattle.tsdb_outside.specs.Files.{StoredFile}
use Rattle.tsdb_recover.proofs.Counting.{kept_where_listed}
use Rattle.tsdb_recover.specs.Adopting.{AreFirstOf, wanted_file}
use Rattle.tsdb_recover.specs.OpenedStore.{listed_among}
use Rattle.tsdb_state.specs.Records.{numbers_of}
use Rattle.tsdb_state.specs.State.{File, StoreState, ToldContents}

-- the files of these numbers
abbrev with_numbers : List ℕ → List StoredFile → List StoredFile
with_numbers numbers files = filter (λ (file : StoredFile). list_any (nat_eq file.number) numbers) files

-- a file of one of the numbers stays found where the others go
found_with : (numbers : List ℕ) (files : List StoredFile) (number : ℕ) → Among number numbers
    → find (has_number number) (with_numbers numbers files) ≡ find (has_number number) files
found_with numbers [] number among = refl
found_with numbers (file ∷ files) number among =
    by (list_any (nat_eq file.number) numbers) refl (found_with numbers files number among)
  where
    stays : List StoredFile
    stays = with_numbers numbers files

    goes : (c : Bool) → nat_eq file.number number ≡ c → list_any (nat_eq file.number) numbers ≡ false
        → find (has_number number) stays ≡ find (has_number number) files
        → find (has_number number) stays ≡ cond c (Some file) (find (has_number number) files)
    goes true same gone rest =
        absurd (false≢true (sym gone ∙ any_among (nat_eq file.number) numbers number among same))
    goes false other gone rest = rest

    by : (b : Bool) → list_any (nat_eq file.number) numbers ≡ b
        → find (has_number number) stays ≡ find (has_number number) files
        → find (has_number number) (cond b (file ∷ stays) stays) ≡ find (has_number number) (file ∷ files)
    by true here rest = ap (λ found. cond (nat_eq file.number number) (Some file) found) rest
    by false gone rest = goes (nat_eq file.number number) refl gone rest

module _ (stored : List StoredFile) (store : StoreState) where
  -- a listed file has its bytes
  same_bytes : (number : ℕ) → Among number (numbers_of (store.sequence ++ store.unsequence))
      → kept_bytes stored number ≡ kept_bytes (listed_among stored store) number
  same_bytes number among =
      sym (ap found_bytes (found_with (numbers_of (store.sequence ++ store.unsequence)) stored number among))

  -- so it is whole
  pub whole_listed : (told : ToldContents) → Each (IsKeptWhole stored told) (store.sequence ++ store.unsequence)
      → Each (IsKeptWhole (listed_among stored store) told) (store.sequence ++ store.unsequence)
  whole_listed told whole = each_from_among (IsKeptWhole (listed_among stored store) told)
      (store.sequence ++ store.unsequence) (λ file among. whole_as (kept_bytes stored)
      (kept_bytes (listed_among stored store)) told told file file refl refl
      (λ bytes there. sym (same_bytes file.number (among_map (λ (f : File). f.number)
      (store.sequence ++ store.unsequence) file among)) ∙ there)
      (each_among (IsKeptWhole stored told) (store.sequence ++ store.unsequence) file whole among))

  -- and the files of a core, which has none but the listed ones, tell its bytes
  pub told_listed : (files : KeptFiles) → AreKept files → AreFirstOf files store → wanted_file files store ≡ None
      → TellTheirBytes files stored → TellTheirBytes files (listed_among stored store)
  told_listed files are first none told number = by (kept_file number files) refl (told number)
    where
      by : (found : Option KeptFile) → kept_file number files ≡ found
          → IfSome found (λ file. (file.name.number ≡ number) × (file.name.bytes ≡ kept_bytes stored number))
          → IfSome found (λ file. (file.name.number ≡ number)
          × (file.name.bytes ≡ kept_bytes (listed_among stored store) number))
      by None here tells = tt
      by (Some file) here tells = (
        tells.0,
        tells.1 ∙ same_bytes number ((kept_where_listed files store number are first none).0
            (ap (λ found. is_some found) here)),
      )
