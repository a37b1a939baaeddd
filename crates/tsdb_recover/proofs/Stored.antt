-- The files at the places of a core are stored as a store has them.
use Rattle.std.proofs.Common.{◌≡◌, ℕ, ◌^◌, ◌<◌, ◌≤◌, Bool, true, false, nat_eq, List, [], ◌∷◌}
use Rattle.std.proofs.Common.{length, Option, Some, None, refl, arith}
use Rattle.std.proofs.lemmas.List.{length-map}
use Rattle.std.proofs.lemmas.Map.Steps.{length-le_from_distinct_below}
use Rattle.std.proofs.lemmas.Bool.{false≢true}
use Rattle.std.proofs.lemmas.Bool.Decides.{nat_tests}
use Rattle.std.specs.List.{AllByRecursion as Each, IsDistinct, list_any}
use Rattle.std.specs.Prelude.{IfSome, ◌||◌}
use Rattle.tsdb_fileset.specs.Closing.{AreNumbersRising}
use Rattle.tsdb_fileset.proofs.StoredPlaces.{differing, each_stored, stored_at}
use Rattle.tsdb_fileset.specs.Places.{KeptFile, Places}
use Rattle.tsdb_base.proofs.Lists.{each_map, each_weaker}
use Rattle.tsdb_base.specs.Lists.{EachPair}
use Rattle.tsdb_outside.specs.Files.{IsFileNumber, StoredFile, stored_file_numbers}
use Rattle.tsdb_recover.specs.StoredFiles.{AreStored, DifferInNumber, HasFileNumber}

-- files of rising numbers are stored as files are
pub places_stored : (places : Places) → AreNumbersRising places
    → Each (λ (place : ℕ × Option KeptFile). IfSome place.1 (λ file. IsFileNumber place.0)) places
    → AreStored (stored_at places)
places_stored places rising numbers = record {
  differ = differing places rising;
  each = each_stored HasFileNumber places (each_weaker
      (λ (place : ℕ × Option KeptFile). IfSome place.1 (λ file. IsFileNumber place.0))
      (λ (place : ℕ × Option KeptFile). IfSome place.1 (λ file. (bytes : List ℕ) → file.name.bytes ≡ Some bytes
      → HasFileNumber (record { number = place.0; bytes = bytes }))) numbered places numbers);
}
  where
    numbered : (place : ℕ × Option KeptFile) → IfSome place.1 (λ file. IsFileNumber place.0)
        → IfSome place.1 (λ file. (bytes : List ℕ) → file.name.bytes ≡ Some bytes
        → HasFileNumber (record { number = place.0; bytes = bytes }))
    numbered (n, None) is = tt
    numbered (n, Some file) is = λ bytes told. is

distinct : (files : List StoredFile) → EachPair DifferInNumber files → IsDistinct nat_eq (stored_file_numbers files)
unfolding IsDistinct
distinct [] differ = tt
distinct (file ∷ files) differ = (
  each_map (λ n. nat_eq file.number n ≡ false) (λ (other : StoredFile). other.number) files
      (each_weaker (DifferInNumber file) (λ other. nat_eq file.number other.number ≡ false)
      (λ other apart. other_equal file.number other.number apart) files differ.0),
  distinct files differ.1,
)
  where
    other_equal : (a b : ℕ) → (a ≡ b → ⊥) → nat_eq a b ≡ false
    other_equal a b not = grind (arith, nat_tests)

equal : (a b : ℕ) → nat_eq a b ≡ true → a ≡ b
equal a b e = grind (arith, nat_tests, e)

in_files : (files : List StoredFile) (q : ℕ) → Each HasFileNumber files → list_any (nat_eq q) (stored_file_numbers files) ≡ true
    → q < 2 ^ 63
in_files [] q all is = absurd (false≢true is)
in_files (file ∷ files) q all is = by (nat_eq q file.number) refl (in_files files q all.1) is
  where
    by : (b : Bool) → nat_eq q file.number ≡ b → (list_any (nat_eq q) (stored_file_numbers files) ≡ true → q < 2 ^ 63)
        → (b || list_any (nat_eq q) (stored_file_numbers files)) ≡ true → q < 2 ^ 63
    by true same rest is = let high = all.0.high in omega (arith, high, equal q file.number same)
    by false other rest is = rest is

-- there are fewer than 2^63, since the numbers differ and none is 0
pub few_stored : (files : List StoredFile) → AreStored files → length files < 2 ^ 63
unfolding IsDistinct
few_stored files are =
    let many = length-le_from_distinct_below (0 ∷ stored_file_numbers files) (2 ^ 63) (
      each_map (λ n. nat_eq 0 n ≡ false) (λ (file : StoredFile). file.number) files
          (each_weaker HasFileNumber (λ file. nat_eq 0 file.number ≡ false) (λ file is. not_zero file.number is.low) files
          are.each),
      distinct files are.differ,
    ) below in
    omega (arith, many, length-map {B = ℕ} files (λ (file : StoredFile). file.number))
  where
    not_zero : (n : ℕ) → 1 ≤ n → nat_eq 0 n ≡ false
    not_zero n low = grind (arith, nat_tests, low)

    below : (q : ℕ) → list_any (nat_eq q) (0 ∷ stored_file_numbers files) ≡ true → q < 2 ^ 63
    below q is = by (nat_eq q 0) refl is
      where
        by : (b : Bool) → nat_eq q 0 ≡ b → (b || list_any (nat_eq q) (stored_file_numbers files)) ≡ true → q < 2 ^ 63
        by true same is = omega (arith, equal q 0 same)
        by false other is = in_files files q are.each is
