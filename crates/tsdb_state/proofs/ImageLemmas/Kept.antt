-- Kept files, by their numbers.
use Rattle.std.proofs.Common.{◌≡◌, ℕ, Bool, true, false, cond, List, [], ◌∷◌, ◌++◌, Option, Some, inl, inr}
use Rattle.std.proofs.Common.{refl, sym, ap, subst, ◌∙◌}
use Rattle.std.specs.Prelude.{nat_eq, not}
use Rattle.std.specs.List.{AllByRecursion as Each, filter, find, list_any}
use Rattle.std.specs.Option.{option_map}
use Rattle.std.proofs.lemmas.Bool.{eqb-true}
use Rattle.tsdb_state.specs.StoredEngine.{IsKeptWhole, kept_bytes, without_numbers}
use Rattle.tsdb_base.specs.Lists.{Among}
use Rattle.tsdb_outside.specs.Files.{StoredFile}
use Rattle.tsdb_state.specs.Stores.{BytesByNumber, HoldsKept, IsTreeContent, IsWhole}
use Rattle.tsdb_state.specs.Records.{numbers_of}
use Rattle.tsdb_state.specs.State.{File, ToldContents}

-- the test for a number
abbrev pub has_number : ℕ → StoredFile → Bool
has_number number file = nat_eq file.number number

abbrev pub found_bytes : Option StoredFile → Option (List ℕ)
found_bytes found = option_map (λ (file : StoredFile). file.bytes) found

-- files that hold the kept ones have their bytes
pub holds_found : (kept : List StoredFile) (files : BytesByNumber) → HoldsKept kept files → (number : ℕ) (bytes : List ℕ)
    → kept_bytes kept number ≡ Some bytes → files number ≡ Some bytes
holds_found [] files holds number bytes is = absurd cc
holds_found (file ∷ kept) files holds number bytes is =
    by (nat_eq file.number number) refl (holds_found kept files holds.1 number bytes) is
  where
    by : (b : Bool) → nat_eq file.number number ≡ b
        → (found_bytes (find (has_number number) kept) ≡ Some bytes → files number ≡ Some bytes)
        → found_bytes (cond b (Some file) (find (has_number number) kept)) ≡ Some bytes → files number ≡ Some bytes
    by true same rest is = subst (λ n. files n ≡ Some bytes) (eqb-true file.number number same) (holds.0 ∙ is)
    by false other rest is = rest is

-- what is kept stays found where more is kept behind it
pub found_with_more : (kept more : List StoredFile) (number : ℕ) (bytes : List ℕ)
    → kept_bytes kept number ≡ Some bytes → kept_bytes (kept ++ more) number ≡ Some bytes
found_with_more [] more number bytes is = absurd cc
found_with_more (file ∷ kept) more number bytes is =
    by (nat_eq file.number number) (found_with_more kept more number bytes) is
  where
    by : (b : Bool) → (found_bytes (find (has_number number) kept) ≡ Some bytes
        → found_bytes (find (has_number number) (kept ++ more)) ≡ Some bytes)
        → found_bytes (cond b (Some file) (find (has_number number) kept)) ≡ Some bytes
        → found_bytes (cond b (Some file) (find (has_number number) (kept ++ more))) ≡ Some bytes
    by true rest is = is
    by false rest is = rest is

same_number : (numbers : List ℕ) (a b : ℕ) → a ≡ b → list_any (nat_eq b) numbers ≡ false
    → list_any (nat_eq a) numbers ≡ false
same_number numbers a b same is = subst (λ n. list_any (nat_eq n) numbers ≡ false) (sym same) is

-- a file stays found where others go
pub found_without : (numbers : List ℕ) (kept : List StoredFile) (number : ℕ)
    → list_any (nat_eq number) numbers ≡ false
    → find (has_number number) (without_numbers numbers kept) ≡ find (has_number number) kept
found_without numbers [] number other = refl
found_without numbers (file ∷ kept) number other =
    by (list_any (nat_eq file.number) numbers) refl (found_without numbers kept number other)
  where
    stays : List StoredFile
    stays = without_numbers numbers kept

    goes : (c : Bool) → nat_eq file.number number ≡ c → list_any (nat_eq file.number) numbers ≡ true
        → find (has_number number) stays ≡ find (has_number number) kept
        → find (has_number number) stays ≡ cond c (Some file) (find (has_number number) kept)
    goes true same gone rest =
        let not_gone = same_number numbers file.number number (eqb-true file.number number same) other in
        absurd cc
    goes false same gone rest = rest

    by : (b : Bool) → list_any (nat_eq file.number) numbers ≡ b
        → find (has_number number) stays ≡ find (has_number number) kept
        → find (has_number number) (cond (not b) (file ∷ stays) stays) ≡ find (has_number number) (file ∷ kept)
    by true gone rest = goes (nat_eq file.number number) refl gone rest
    by false here rest = ap (λ found. cond (nat_eq file.number number) (Some file) found) rest

-- that a file is whole says its number, what is told of it, and its bytes alone
pub whole_as : (files others : BytesByNumber) (told other : ToldContents) (a b : File) → a.number ≡ b.number
    → told a.number ≡ other a.number
    → ((bytes : List ℕ) → files a.number ≡ Some bytes → others a.number ≡ Some bytes)
    → IsWhole files told a → IsWhole others other b
whole_as files others told other a b same as_told there whole = record {
  bytes = whole.bytes;
  tree = whole.tree;
  there = subst (λ n. others n ≡ Some whole.bytes) same (there whole.bytes whole.there);
  is_tree = whole.is_tree;
  is_made = whole.is_made;
  is_file = whole.is_file;
  content = subst (λ n. IsTreeContent whole.tree (other n)) same (subst (IsTreeContent whole.tree) as_told whole.content);
}

-- a kept file is kept by whatever born it is named with
pub kept_by_number : (kept : List StoredFile) (told : ToldContents) (files : List File) → Each (IsKeptWhole kept told) files
    → (number : ℕ) → Among number (numbers_of files) → (born : ℕ)
    → IsKeptWhole kept told (record { number = number; born = born })
kept_by_number kept told [] whole number among born = absurd among
kept_by_number kept told (file ∷ files) whole number (inl is) born =
    whole_as (kept_bytes kept) (kept_bytes kept) told told file (record { number = number; born = born }) is refl
    (λ bytes there. there) whole.0
kept_by_number kept told (file ∷ files) whole number (inr among) born =
    kept_by_number kept told files whole.1 number among born

-- files that are left by a test have passed it
pub each_passed : {X : Type 0} (P Q : X → Type 0) (test : X → Bool) (xs : List X)
    → ((x : X) → P x → test x ≡ true → Q x) → Each P xs → Each Q (filter test xs)
each_passed P Q test [] passed all = tt
each_passed P Q test (x ∷ xs) passed all = by (test x) refl (each_passed P Q test xs passed all.1)
  where
    by : (b : Bool) → test x ≡ b → Each Q (filter test xs) → Each Q (cond b (x ∷ filter test xs) (filter test xs))
    by true is rest = (passed x all.0 is, rest)
    by false is rest = rest
