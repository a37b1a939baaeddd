-- Inputs as the state has them.
use Rattle.std.proofs.Common.{◌≡◌, inl, inr, ⊎_elim, ℕ, ◌+◌, ◌<◌, ◌≤◌, List, [], ◌∷◌, length}
use Rattle.std.proofs.Common.{drop, take, refl, sym, ap, subst, ◌∙◌, arith}
use Rattle.std.proofs.lemmas.List.{drop-map, length-map, take-map}
use Rattle.std.proofs.Common.{Bool}
use Rattle.std.specs.Prelude.{◌↔◌, IsTrue}
use Rattle.tsdb_base.specs.declared.ids.Space.{Space}
use Rattle.std.specs.List.{AllByRecursion as Each}
use Rattle.tsdb_base.specs.declared.ids.FileNumber.{FileNumber}
use Rattle.tsdb_base.specs.declared.ids.Space.TheVariants.{Sequence, Unsequence}
use Rattle.tsdb_base.specs.declared.ids.Stamp.{Stamp}
use Rattle.tsdb_base.proofs.Lists.{each_append, each_left, each_right}
use Rattle.tsdb_redo.specs.Lists.{AreEnough, AreInputs, AreListsOf, AreOldInputs, CanReplaceIn, file_of, listed_files, state_of}
use Rattle.tsdb_redo.specs.declared.lists.FileLists.{FileLists}
use Rattle.tsdb_redo.specs.declared.lists.ListedFile.{ListedFile}
use Rattle.tsdb_state.specs.Records.{Replacement, files_at, number_list, numbers_of}
use Rattle.tsdb_state.specs.State.{File, StoreState}

files_part : (files : List ListedFile) (numbers : List FileNumber) (place : ℕ)
    → files_at place (number_list numbers) (listed_files files) ≡ listed_files (take (length numbers) (drop place files))
files_part files numbers place =
    ap (λ n. take n (drop place (listed_files files))) (length-map numbers (λ (n : FileNumber). n.0))
    ∙ ap (take (length numbers)) (drop-map file_of place files)
    ∙ take-map file_of (length numbers) (drop place files)

pub standing : (files part : List ListedFile) (numbers : List FileNumber) (born : Stamp) (place : ℕ)
    → place + length numbers ≤ length files → part ≡ take (length numbers) (drop place files)
    → AreInputs part numbers born ↔ AreOldInputs place (number_list numbers) born.0 (listed_files files)
standing files part numbers born place within is = (
  λ are. (
    record {
      within = omega (arith, within, length-map numbers (λ (n : FileNumber). n.0), length-map files file_of);
      are = ap numbers_of same ∙ are.0;
    },
    subst (Each (λ (file : File). file.born ≤ born.0)) (sym same) are.1,
  ),
  λ old. (ap numbers_of (sym same) ∙ old.0.are, subst (Each (λ (file : File). file.born ≤ born.0)) same old.1),
)
  where
    same : files_at place (number_list numbers) (listed_files files) ≡ listed_files part
    same = files_part files numbers place ∙ ap listed_files (sym is)

pub not_standing : (files : List ListedFile) (numbers : List FileNumber) (born : ℕ) (place : ℕ)
    → length files < place + length numbers → AreOldInputs place (number_list numbers) born (listed_files files) → ⊥
not_standing files numbers born place short old = omega (
  arith,
  short,
  old.0.within,
  length-map numbers (λ (n : FileNumber). n.0),
  length-map files file_of,
)

-- an output in the sequence list

pub enough_by : (sequence unsequence : List FileNumber) (b : Bool) → length unsequence ≡ 0
    → IsTrue b ↔ (2 ≤ length sequence) → IsTrue b ↔ AreEnough (number_list sequence) (number_list unsequence)
enough_by sequence [] b none two = (
  λ yes. inl (refl, omega (arith, two.0 yes, length-map sequence (λ (n : FileNumber). n.0))),
  λ either. ⊎_elim (λ twice. two.1 (omega (arith, twice.1, length-map sequence (λ (n : FileNumber). n.0))))
      (λ one. absurd (omega (arith, one))) either,
)
enough_by sequence (n ∷ unsequence) b none two = absurd (omega (arith, none))

pub some_enough : (sequence unsequence : List FileNumber) → (unsequence ≡ [] → ⊥)
    → AreEnough (number_list sequence) (number_list unsequence)
some_enough sequence [] some = absurd (some refl)
some_enough sequence (n ∷ unsequence) some = inr (omega arith)

module _ (item : Replacement) (state : StoreState) where
  pub sequence_by : (b : Bool)
      → AreEnough item.sequence item.unsequence
      → AreOldInputs item.place item.sequence item.born state.sequence
      → IsTrue b ↔ AreOldInputs 0 item.unsequence item.born state.unsequence
      → IsTrue b ↔ CanReplaceIn Sequence item state
  sequence_by b some first late = (
    λ yes. let old = late.0 yes in (
      (some, first.0, old.0),
      each_append (λ (file : File). file.born ≤ item.born) (files_at item.place item.sequence state.sequence)
          (files_at 0 item.unsequence state.unsequence) first.1 old.1,
    ),
    λ can. late.1 (
      can.0.2,
      each_right (λ (file : File). file.born ≤ item.born) (files_at item.place item.sequence state.sequence)
          (files_at 0 item.unsequence state.unsequence) can.1,
    ),
  )

  pub first_inputs : CanReplaceIn Sequence item state
      → AreOldInputs item.place item.sequence item.born state.sequence
  first_inputs can = (
    can.0.1,
    each_left (λ (file : File). file.born ≤ item.born) (files_at item.place item.sequence state.sequence)
        (files_at 0 item.unsequence state.unsequence) can.1,
  )

  -- an output in the unsequence list
  pub unsequence_by : (b : Bool) → item.sequence ≡ [] → 2 ≤ length item.unsequence
      → IsTrue b ↔ AreOldInputs item.place item.unsequence item.born state.unsequence
      → IsTrue b ↔ CanReplaceIn Unsequence item state
  unsequence_by b none two late = (
    λ yes. let old = late.0 yes in ((none, two, old.0), old.1),
    λ can. late.1 (can.0.2, can.1),
  )

-- the state with the lists alone serves for each state with these lists
pub for_state : (space : Space) (item : Replacement) (lists : FileLists) (state : StoreState) → AreListsOf lists state
    → CanReplaceIn space item (state_of lists) ↔ CanReplaceIn space item state
for_state Sequence item lists state are =
    subst (λ s. CanReplaceIn Sequence item (state_of lists) ↔ CanReplaceIn Sequence item (record state { sequence = s }))
    are.sequence
    (subst (λ u. CanReplaceIn Sequence item (state_of lists)
    ↔ CanReplaceIn Sequence item (record state { sequence = listed_files lists.sequence.items; unsequence = u }))
    are.unsequence (λ can. can, λ can. can))
for_state Unsequence item lists state are =
    subst (λ u. CanReplaceIn Unsequence item (state_of lists) ↔ CanReplaceIn Unsequence item (record state { unsequence = u }))
    are.unsequence (λ can. can, λ can. can)
