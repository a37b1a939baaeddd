-- Whether files stand in their list as a record says.
use Rattle.std.proofs.Common.{◌≡◌, ◌⊎◌, inl, inr, ℕ, ◌+◌, ◌<◌, ◌≤◌, List, [], ◌∷◌, length}
use Rattle.std.proofs.Common.{drop, get_or, refl, sym, ap, subst, ◌∙◌, arith, add-one}
use Rattle.std.proofs.Math.Seq.{drop-cons}
use Rattle.std.proofs.lemmas.List.{drop_all}
use Rattle.std.proofs.Common.{Bool, true, false, not, nat_eq}
use Rattle.std.proofs.lemmas.Bool.{eq-eqb, eqb-true, false≢true}
use Rattle.std.specs.Prelude.{◌↔◌}
use Rattle.tsdb_base.specs.declared.ids.FileNumber.{FileNumber}
use Rattle.tsdb_base.specs.declared.ids.Stamp.{Stamp}
use Rattle.tsdb_redo.specs.Lists.{AreInputs, listed_files}
use Rattle.tsdb_redo.specs.declared.lists.ListedFile.{ListedFile}
use Rattle.tsdb_state.specs.Records.{number_list, numbers_of}

heads : (n m : ℕ) (ns ms : List ℕ) → (n ∷ ns) ≡ (m ∷ ms) → (n ≡ m) × (ns ≡ ms)
heads n m ns ms e = (cc, cc)

pub same_by : (a b : ℕ) → not (nat_eq a b) ≡ false → a ≡ b
same_by a b e = eqb-true a b (by (nat_eq a b) e)
  where
    by : (t : Bool) → not t ≡ false → t ≡ true
    by true e = refl
    by false e = absurd (false≢true (sym e))

pub apart_by : (a b : ℕ) → not (nat_eq a b) ≡ true → a ≡ b → ⊥
apart_by a b e same = false≢true (ap not (sym (eq-eqb a b same)) ∙ e)

-- the first file has the first number and is old enough, and the rest are inputs
pub inputs_cons : (file : ListedFile) (files : List ListedFile) (number : FileNumber) (numbers : List FileNumber)
    (born : Stamp) → AreInputs (file ∷ files) (number ∷ numbers) born
    ↔ ((file.number.0 ≡ number.0) × (file.born.0 ≤ born.0) × AreInputs files numbers born)
inputs_cons file files number numbers born = (
  λ are. let same = heads file.number.0 number.0 (numbers_of (listed_files files)) (number_list numbers) are.0 in
      (same.0, are.1.0, (same.1, are.1.1)),
  λ parts. (cc_cons parts.0 parts.2.0, (parts.1, parts.2.1)),
)
  where
    cc_cons : file.number.0 ≡ number.0 → numbers_of (listed_files files) ≡ number_list numbers
        → numbers_of (listed_files (file ∷ files)) ≡ number_list (number ∷ numbers)
    cc_cons a b = cc

module _ (files : List ListedFile) (numbers : List FileNumber) (born : Stamp) (i : ℕ) (d : ListedFile) (n : FileNumber)
    (below : i < length files) (short : i < length numbers)
    (rest : AreInputs files numbers born ↔ AreInputs (drop i files) (drop i numbers) born) where
  abbrev pub file : ListedFile
  file = get_or files i d

  abbrev pub number : FileNumber
  number = get_or numbers i n

  split : (AreInputs (drop i files) (drop i numbers) born) ↔ ((file.number.0 ≡ number.0) × (file.born.0 ≤ born.0)
      × AreInputs (drop (i + 1) files) (drop (i + 1) numbers) born)
  split = subst (λ fs. AreInputs fs (drop i numbers) born ↔ ((file.number.0 ≡ number.0) × (file.born.0 ≤ born.0)
      × AreInputs (drop (i + 1) files) (drop (i + 1) numbers) born))
      (sym (drop-cons files i d below ∙ ap (λ k. file ∷ drop k files) (sym (add-one i))))
      (subst (λ ns. AreInputs (file ∷ drop (i + 1) files) ns born ↔ ((file.number.0 ≡ number.0) × (file.born.0 ≤ born.0)
      × AreInputs (drop (i + 1) files) (drop (i + 1) numbers) born))
      (sym (drop-cons numbers i n short ∙ ap (λ k. number ∷ drop k numbers) (sym (add-one i))))
      (inputs_cons file (drop (i + 1) files) number (drop (i + 1) numbers) born))

  pub inputs_next : file.number.0 ≡ number.0 → file.born.0 ≤ born.0
      → AreInputs files numbers born ↔ AreInputs (drop (i + 1) files) (drop (i + 1) numbers) born
  inputs_next same old = (
    λ are. (split.0 (rest.0 are)).2,
    λ are. rest.1 (split.1 (same, old, are)),
  )

  pub inputs_fail : ((file.number.0 ≡ number.0 → ⊥) ⊎ (born.0 < file.born.0)) → AreInputs files numbers born → ⊥
  inputs_fail (inl apart) are = apart (split.0 (rest.0 are)).0
  inputs_fail (inr young) are = omega (arith, young, (split.0 (rest.0 are)).1)

pub inputs_end : (files : List ListedFile) (numbers : List FileNumber) (born : Stamp) (i : ℕ) → length files ≤ i
    → length numbers ≤ i → AreInputs files numbers born ↔ AreInputs (drop i files) (drop i numbers) born
    → AreInputs files numbers born
inputs_end files numbers born i end other rest = rest.1
    (subst (λ fs. AreInputs fs (drop i numbers) born) (sym (drop_all i files end))
    (subst (λ ns. AreInputs [] ns born) (sym (drop_all i numbers other)) (refl, tt)))
