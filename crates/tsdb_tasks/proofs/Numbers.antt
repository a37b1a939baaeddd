-- The numbers of new files, and what stands at them.
use Rattle.std.proofs.Common.{◌≡◌, ℕ, ◌≢◌, ◌⊎◌, Bool, true, false, cond, not, List, [], ◌∷◌, ◌++◌, map, None, Option}
use Rattle.std.proofs.Common.{Some}
use Rattle.std.proofs.Common.{inl, inr, ap, refl, sym, subst, ◌∙◌, nat_eq}
use Rattle.std.proofs.lemmas.Bool.{eq-eqb, eqb-true, false≢true}
use Rattle.std.specs.List.{AllByRecursion as Each, find, flat_map, list_any}
use Rattle.tsdb_tasks.specs.Files.{NewFile, NewFiles, all_of, at_file, kept_with, file_number, built_numbers, stored_of}
use Rattle.tsdb_state.proofs.ImageLemmas.Kept.{found_bytes, found_without, has_number}
use Rattle.tsdb_state.specs.StoredEngine.{kept_bytes, without_numbers}
use Rattle.tsdb_base.proofs.Lists.{among_map, any_among, each_among}
use Rattle.tsdb_base.specs.Lists.{Among, EachPair, if_some}
use Rattle.tsdb_outside.specs.Files.{StoredFile}
use Rattle.tsdb_state.proofs.EngineRest.{not_among}

pub same_number : (n : ℕ) → nat_eq n n ≡ true
same_number n = eq-eqb n n refl

pub other_number : (a b : ℕ) → a ≢ b → nat_eq a b ≡ false
other_number a b differ = by (nat_eq a b) refl
  where
    by : (c : Bool) → nat_eq a b ≡ c → c ≡ false
    by true is = absurd (differ (eqb-true a b is))
    by false is = refl

-- a number is one of these, or none of them
pub is_one : (n : ℕ) (numbers : List ℕ) → Among n numbers ⊎ (Among n numbers → ⊥)
is_one n [] = inr (λ among. among)
is_one n (m ∷ numbers) = by (nat_eq m n) refl (is_one n numbers)
  where
    by : (b : Bool) → nat_eq m n ≡ b → Among n numbers ⊎ (Among n numbers → ⊥)
        → Among n (m ∷ numbers) ⊎ (Among n (m ∷ numbers) → ⊥)
    by true is rest = inl (inl (eqb-true m n is))
    by false is (inl among) = inl (inr among)
    by false is (inr never) = inr neither
      where
        neither : Among n (m ∷ numbers) → ⊥
        neither (inl same) = false≢true (sym is ∙ eq-eqb m n same)
        neither (inr among) = never among

-- ---- what stands at the numbers of files

pub at_itself : {X : Type 0} (file : NewFile) (value : NewFile → X) (others : ℕ → X)
    → at_file (Some file) value others (file_number file) ≡ value file
at_itself file value others =
    ap (λ b. cond b (value file) (others (file_number file))) (same_number (file_number file))

pub at_other : {X : Type 0} (file : Option NewFile) (value : NewFile → X) (others : ℕ → X) (n : ℕ)
    → (Among n (map file_number (if_some file)) → ⊥) → at_file file value others n ≡ others n
at_other None value others n differ = refl
at_other (Some file) value others n differ =
    ap (λ b. cond b (value file) (others n)) (other_number n (file_number file) (λ same. differ (inl (sym same))))

-- ---- the bytes of kept files

found_first : (test : StoredFile → Bool) (first behind : List StoredFile) → Each (λ file. test file ≡ false) behind
    → find test (first ++ behind) ≡ find test first
found_first test [] [] none = refl
found_first test [] (file ∷ behind) none =
    ap (λ b. cond b (Some file) (find test behind)) none.0 ∙ found_first test [] behind none.1
found_first test (file ∷ first) behind none = ap (cond (test file) (Some file)) (found_first test first behind none)

found_behind : (test : StoredFile → Bool) (first behind : List StoredFile) → find test first ≡ None
    → find test (first ++ behind) ≡ find test behind
found_behind test [] behind none = refl
found_behind test (file ∷ first) behind none = by (test file) (found_behind test first behind) none
  where
    by : (b : Bool) → (find test first ≡ None → find test (first ++ behind) ≡ find test behind)
        → cond b (Some file) (find test first) ≡ None
        → cond b (Some file) (find test (first ++ behind)) ≡ find test behind
    by true rest none = absurd cc
    by false rest none = rest none

-- a file of one of the numbers is kept no longer
none_left : (numbers : List ℕ) (kept : List StoredFile) (n : ℕ) → list_any (nat_eq n) numbers ≡ true
    → find (has_number n) (without_numbers numbers kept) ≡ None
none_left numbers [] n one = refl
none_left numbers (file ∷ kept) n one = by (list_any (nat_eq file.number) numbers) refl (none_left numbers kept n one)
  where
    left : List StoredFile
    left = without_numbers numbers kept

    by : (b : Bool) → list_any (nat_eq file.number) numbers ≡ b → find (has_number n) left ≡ None
        → find (has_number n) (cond (not b) (file ∷ left) left) ≡ None
    by true gone rest = rest
    by false here rest = ap (λ b. cond b (Some file) (find (has_number n) left))
        (other_number file.number n (λ same. false≢true (sym here
        ∙ subst (λ m. list_any (nat_eq m) numbers ≡ true) (sym same) one))) ∙ rest

-- the bytes of files that their tokens tell
has_others : (n : ℕ) (files : List NewFile) → (Among n (map file_number files) → ⊥)
    → Each (λ file. has_number n file ≡ false) (flat_map stored_of files)
has_others n [] never = tt
has_others n (file ∷ files) never =
    by file.token.name.bytes (has_others n files (λ among. never (inr among)))
  where
    by : (bytes : Option (List ℕ)) → Each (λ stored. has_number n stored ≡ false) (flat_map stored_of files)
        → Each (λ stored. has_number n stored ≡ false)
        (map (λ bytes. record { number = file_number file; bytes = bytes }) (if_some bytes) ++ flat_map stored_of files)
    by None rest = rest
    by (Some bytes) rest = (other_number (file_number file) n (λ same. never (inl same)), rest)

found_new : (files : List NewFile) (file : NewFile) (bytes : List ℕ) → EachPair (λ a b. file_number a ≢ file_number b) files
    → Among file files → file.token.name.bytes ≡ Some bytes
    → find (has_number (file_number file)) (flat_map stored_of files)
    ≡ Some (record { number = file_number file; bytes = bytes })
found_new [] file bytes differ among tells = absurd among
found_new (first ∷ files) file bytes differ (inl is) tells =
    ap (λ told. find (has_number (file_number file)) (map (λ bytes. record { number = file_number first; bytes = bytes })
    (if_some told) ++ flat_map stored_of files)) (ap (λ (f : NewFile). f.token.name.bytes) is ∙ tells)
    ∙ ap (λ b. cond b (Some (record { number = file_number first; bytes = bytes }))
    (find (has_number (file_number file)) (flat_map stored_of files)))
    (ap (λ (f : NewFile). nat_eq (file_number f) (file_number file)) is ∙ same_number (file_number file))
    ∙ ap (λ (f : NewFile). Some (record { number = file_number f; bytes = bytes })) is
found_new (first ∷ files) file bytes differ (inr among) tells =
    by first.token.name.bytes (found_new files file bytes differ.1 among tells)
  where
    apart : file_number first ≢ file_number file
    apart = each_among (λ b. file_number first ≢ file_number b) files file differ.0 among

    by : (told : Option (List ℕ)) → find (has_number (file_number file)) (flat_map stored_of files)
        ≡ Some (record { number = file_number file; bytes = bytes })
        → find (has_number (file_number file)) (map (λ bytes. record { number = file_number first; bytes = bytes })
        (if_some told) ++ flat_map stored_of files) ≡ Some (record { number = file_number file; bytes = bytes })
    by None rest = rest
    by (Some other) rest = ap (λ b. cond b (Some (record { number = file_number first; bytes = other }))
        (find (has_number (file_number file)) (flat_map stored_of files)))
        (other_number (file_number first) (file_number file) apart) ∙ rest

module _ (files : NewFiles) (kept : List StoredFile) where
  -- files of other numbers are kept as they were
  pub kept_other : (n : ℕ) → (Among n (built_numbers files) → ⊥) → kept_bytes (kept_with files kept) n ≡ kept_bytes kept n
  kept_other n never = ap found_bytes
      (found_first (has_number n) (without_numbers (built_numbers files) kept) (flat_map stored_of (all_of files))
      (has_others n (all_of files) never)
      ∙ found_without (built_numbers files) kept n (not_among n (built_numbers files) never))

  -- a new file is kept with the bytes that its token tells
  pub kept_new : (file : NewFile) (bytes : List ℕ) → EachPair (λ a b. file_number a ≢ file_number b) (all_of files)
      → Among file (all_of files) → file.token.name.bytes ≡ Some bytes
      → kept_bytes (kept_with files kept) (file_number file) ≡ Some bytes
  kept_new file bytes differ among tells = ap found_bytes
      (found_behind (has_number (file_number file)) (without_numbers (built_numbers files) kept)
      (flat_map stored_of (all_of files))
      (none_left (built_numbers files) kept (file_number file)
      (any_among (nat_eq (file_number file)) (built_numbers files) (file_number file)
      (among_map file_number (all_of files) file among) (same_number (file_number file))))
      ∙ found_new (all_of files) file bytes differ among tells)
