-- Stored files by their numbers, where one is taken out or put back.
use Rattle.std.proofs.Common.{◌≡◌, ◌≢◌, ◌∙◌, ℕ, Bool, true, false, cond, List, [], ◌∷◌, ◌++◌}
use Rattle.std.proofs.Common.{None, Some, inl, inr, refl, sym, ap, subst, arith, nat_eq, rules, append-nil}
use Rattle.std.proofs.lemmas.Bool.{eq-eqb, eqb-true, false≢true}
use Rattle.std.proofs.lemmas.List.Elements.{Contains-append_cases, Contains-append_right, Contains-push_cases}
use Rattle.std.specs.Prelude.{◌⊎◌, Contains}
use Rattle.std.specs.List.{AllByRecursion as Each, find}
use Rattle.tsdb_state.proofs.ImageLemmas.Kept.{found_bytes, has_number}
use Rattle.tsdb_state.specs.StoredEngine.{kept_bytes}
use Rattle.tsdb_base.proofs.Lists.{each_append, each_both, each_left, each_middle, each_weaker, each_without, pairs_of_one}
use Rattle.tsdb_base.proofs.Lists.{pairs_push, pairs_without}
use Rattle.tsdb_base.specs.Lists.{EachPair}
use Rattle.tsdb_outside.specs.Files.{StoredFile, stored_file_numbers}
use Rattle.tsdb_state.specs.Stores.{HoldsKept}
use Rattle.tsdb_recover.specs.StoredFiles.{AreStored, DifferInNumber, HasFileNumber}

other_number : (a b : ℕ) → a ≢ b → nat_eq a b ≡ false
other_number a b differ = by (nat_eq a b) refl
  where
    by : (c : Bool) → nat_eq a b ≡ c → c ≡ false
    by true is = absurd (differ (eqb-true a b is))
    by false is = refl

turn : (a b : StoredFile) → DifferInNumber a b → DifferInNumber b a
turn a b differ same = differ (sym same)

pub none_is_some : {X : Type 0} (x : X) → None ≡ Some x → ⊥
none_is_some x same = cc

-- a number that no file has
pub none_there : (files : List StoredFile) (n : ℕ) → Each (λ file. file.number ≢ n) files → kept_bytes files n ≡ None
none_there [] n apart = refl
none_there (file ∷ files) n apart =
    ap (λ b. found_bytes (cond b (Some file) (find (has_number n) files))) (other_number file.number n apart.0)
    ∙ none_there files n apart.1

pub behind : (n : ℕ) (xs ys : List StoredFile) → Each (λ file. file.number ≢ n) xs
    → kept_bytes (xs ++ ys) n ≡ kept_bytes ys n
behind n [] ys apart = refl
behind n (x ∷ xs) ys apart =
    ap (λ b. found_bytes (cond b (Some x) (find (has_number n) (xs ++ ys)))) (other_number x.number n apart.0)
    ∙ behind n xs ys apart.1

-- a file of another number is not looked at
others : (n : ℕ) (xs : List StoredFile) (file : StoredFile) (ys : List StoredFile) → file.number ≢ n
    → kept_bytes (xs ++ file ∷ ys) n ≡ kept_bytes (xs ++ ys) n
others n [] file ys differ =
    ap (λ b. found_bytes (cond b (Some file) (find (has_number n) ys))) (other_number file.number n differ)
others n (x ∷ xs) file ys differ = by (nat_eq x.number n) (others n xs file ys differ)
  where
    by : (b : Bool) → kept_bytes (xs ++ file ∷ ys) n ≡ kept_bytes (xs ++ ys) n
        → found_bytes (cond b (Some x) (find (has_number n) (xs ++ file ∷ ys)))
        ≡ found_bytes (cond b (Some x) (find (has_number n) (xs ++ ys)))
    by true rest = refl
    by false rest = rest

pub first : (file : StoredFile) (ys : List StoredFile) → kept_bytes (file ∷ ys) file.number ≡ Some file.bytes
first file ys = ap (λ b. found_bytes (cond b (Some file) (find (has_number file.number) ys)))
    (eq-eqb file.number file.number refl)

only : (f file : StoredFile) → Contains (f ∷ []) file → f ≡ file
only f file there = by (Contains-push_cases [] f file there)
  where
    by : Contains [] file ⊎ (f ≡ file) → f ≡ file
    by (inl none) = absurd (omega (arith, none.1))
    by (inr is) = is

each_contains : (P : StoredFile → Type 0) (files : List StoredFile) (file : StoredFile) → Each P files
    → Contains files file → P file
each_contains P [] file all there = absurd (omega (arith, there.1))
each_contains P (f ∷ fs) file all there = by (Contains-append_cases (f ∷ []) fs file there)
    (each_contains P fs file all.1)
  where
    by : Contains (f ∷ []) file ⊎ Contains fs file → (Contains fs file → P file) → P file
    by (inl one) rest = subst P (only f file one) all.0
    by (inr more) rest = rest more

-- a file that is there is found by its number
pub contains_found : (files : List StoredFile) (file : StoredFile) → EachPair DifferInNumber files → Contains files file
    → kept_bytes files file.number ≡ Some file.bytes
contains_found [] file differ there = absurd (omega (arith, there.1))
contains_found (f ∷ fs) file differ there =
    by (Contains-append_cases (f ∷ []) fs file there) (contains_found fs file differ.1)
  where
    by : Contains (f ∷ []) file ⊎ Contains fs file → (Contains fs file → kept_bytes fs file.number ≡ Some file.bytes)
        → kept_bytes (f ∷ fs) file.number ≡ Some file.bytes
    by (inl one) rest = subst (λ x. kept_bytes (f ∷ fs) x.number ≡ Some x.bytes) (only f file one) (first f fs)
    by (inr more) rest =
        ap (λ b. found_bytes (cond b (Some f) (find (has_number file.number) fs)))
        (other_number f.number file.number (each_contains (DifferInNumber f) fs file differ.0 more)) ∙ rest more

-- a file that is found is there
pub found_contains : (files : List StoredFile) (n : ℕ) (bytes : List ℕ) → kept_bytes files n ≡ Some bytes
    → Contains (stored_file_numbers files) n
found_contains [] n bytes is = absurd (none_is_some bytes is)
found_contains (f ∷ fs) n bytes is = by (nat_eq f.number n) refl (found_contains fs n bytes) is
  where
    here : (m : ℕ) (ms : List ℕ) → Contains (m ∷ ms) m
    here m ms = search rules

    by : (b : Bool) → nat_eq f.number n ≡ b → (kept_bytes fs n ≡ Some bytes → Contains (stored_file_numbers fs) n)
        → found_bytes (cond b (Some f) (find (has_number n) fs)) ≡ Some bytes → Contains (f.number ∷ stored_file_numbers fs) n
    by true same rest is =
        subst (λ m. Contains (f.number ∷ stored_file_numbers fs) m) (eqb-true f.number n same) (here f.number (stored_file_numbers fs))
    by false other rest is = Contains-append_right (f.number ∷ []) (stored_file_numbers fs) n (rest is)

-- and what holds of each file holds of it
pub found_each : (P : StoredFile → Type 0) (files : List StoredFile) (n : ℕ) (bytes : List ℕ) → Each P files
    → kept_bytes files n ≡ Some bytes → P (record { number = n; bytes = bytes })
found_each P [] n bytes all is = absurd (none_is_some bytes is)
found_each P (f ∷ fs) n bytes all is = by (nat_eq f.number n) refl (found_each P fs n bytes all.1) is
  where
    some_is : (a b : List ℕ) → Some a ≡ Some b → a ≡ b
    some_is a b same = cc

    by : (b : Bool) → nat_eq f.number n ≡ b
        → (kept_bytes fs n ≡ Some bytes → P (record { number = n; bytes = bytes }))
        → found_bytes (cond b (Some f) (find (has_number n) fs)) ≡ Some bytes
        → P (record { number = n; bytes = bytes })
    by true same rest is =
        subst (λ m. P (record { number = m; bytes = bytes })) (eqb-true f.number n same)
        (subst (λ l. P (record { number = f.number; bytes = l })) (some_is f.bytes bytes is) all.0)
    by false other rest is = rest is

-- each of the files is found
pub holds_itself : (files : List StoredFile) → EachPair DifferInNumber files → HoldsKept files (kept_bytes files)
holds_itself [] differ = tt
holds_itself (f ∷ fs) differ = (
  first f fs,
  each_both (DifferInNumber f) (λ file. kept_bytes fs file.number ≡ Some file.bytes)
      (λ file. kept_bytes (f ∷ fs) file.number ≡ Some file.bytes)
      (λ file apart is. ap (λ b. found_bytes (cond b (Some f) (find (has_number file.number) fs)))
      (other_number f.number file.number apart) ∙ is) fs differ.0 (holds_itself fs differ.1),
)

-- where no file is found there is none
pub none_found : (files : List StoredFile) → ((n : ℕ) → kept_bytes files n ≡ None) → files ≡ []
none_found [] none = refl
none_found (f ∷ fs) none = absurd (none_is_some f.bytes (sym (none f.number) ∙ first f fs))

module _ (before : List StoredFile) (file : StoredFile) (after : List StoredFile) (are : AreStored
    (before ++ file ∷ after)) where
  apart : Each (DifferInNumber file) (before ++ after)
  apart = pairs_of_one DifferInNumber turn before file after are.differ

  apart_all : Each (λ f. f.number ≢ file.number) (before ++ after)
  apart_all = each_weaker (DifferInNumber file) (λ f. f.number ≢ file.number) (turn file) (before ++ after) apart

  -- the file is found, and not once it is taken out
  pub found_there : kept_bytes (before ++ file ∷ after) file.number ≡ Some file.bytes
  found_there = behind file.number before (file ∷ after)
      (each_left (λ f. f.number ≢ file.number) before after apart_all) ∙ first file after

  pub not_left : kept_bytes (before ++ after) file.number ≡ None
  not_left = none_there (before ++ after) file.number apart_all

  -- the others stay
  pub others_left : (n : ℕ) → file.number ≢ n → kept_bytes (before ++ after) n ≡ kept_bytes (before ++ file ∷ after) n
  others_left n differ = sym (others n before file after differ)

  pub still_stored : AreStored (before ++ after)
  still_stored = record {
    differ = pairs_without DifferInNumber before file after are.differ;
    each = each_without HasFileNumber before file after are.each;
  }

  -- put back behind the others, it is found again
  pub found_again : (n : ℕ) → kept_bytes ((before ++ after) ++ file ∷ []) n ≡ kept_bytes (before ++ file ∷ after) n
  found_again n = by (nat_eq file.number n) refl
    where
      by : (b : Bool) → nat_eq file.number n ≡ b
          → kept_bytes ((before ++ after) ++ file ∷ []) n ≡ kept_bytes (before ++ file ∷ after) n
      by true same =
          subst (λ m. kept_bytes ((before ++ after) ++ file ∷ []) m ≡ kept_bytes (before ++ file ∷ after) m)
          (eqb-true file.number n same)
          (behind file.number (before ++ after) (file ∷ []) apart_all ∙ first file [] ∙ sym found_there)
      by false other =
          let differ : file.number ≢ n = λ same. false≢true (sym other ∙ eq-eqb file.number n same) in
          others n (before ++ after) file [] differ ∙ ap (λ l. kept_bytes l n) (append-nil (before ++ after))
          ∙ others_left n differ

  pub stored_again : AreStored ((before ++ after) ++ file ∷ [])
  stored_again = record {
    differ = pairs_push DifferInNumber (before ++ after) file still_stored.differ
        (each_weaker (DifferInNumber file) (λ f. DifferInNumber f file) (turn file) (before ++ after) apart);
    each = each_append HasFileNumber (before ++ after) (file ∷ []) still_stored.each
        (each_middle HasFileNumber before file after are.each, tt);
  }
