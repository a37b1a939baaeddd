-- The lists after files were replaced.
use Rattle.std.proofs.Common.{◌≡◌, ℕ, ◌+◌, ◌≤◌, ◌==◌, false, cond, None, List, [], ◌∷◌, ◌++◌, length}
use Rattle.std.proofs.Common.{drop, take, refl, sym, ap, subst, ◌∙◌, arith}
use Rattle.std.proofs.lemmas.List.{drop-map, length-map, length-take, map-append, take-map}
use Rattle.std.proofs.Math.Seq.{take-append_seam}
use Rattle.std.specs.List.{insert}
use Rattle.tsdb_base.specs.declared.ids.FileNumber.{FileNumber}
use Rattle.tsdb_base.specs.declared.ids.Space.{Space}
use Rattle.tsdb_base.specs.declared.ids.Space.TheVariants.{Sequence, Unsequence}
use Rattle.tsdb_memory.specs.Least.{IsLeastOf, least_with}
use Rattle.tsdb_redo.proofs.Leasts.{least_of_lists}
use Rattle.tsdb_redo.specs.Lists.{AreListsOf, HasReplacedLists, borns_of_files, file_of, listed_files, replacement_of}
use Rattle.tsdb_redo.specs.declared.replacing.Replacing.{Replacing}
use Rattle.tsdb_redo.specs.declared.lists.FileLists.{FileLists}
use Rattle.tsdb_redo.specs.declared.lists.ListedFile.{ListedFile}
use Rattle.tsdb_state.specs.Records.{Replacement, new_file, replace, replace_in}
use Rattle.tsdb_state.specs.State.{File, StoreState}

drop_seam : {X : Type 0} (xs ys : List X) → drop (length xs) (xs ++ ys) ≡ ys
drop_seam [] ys = refl
drop_seam (x ∷ xs) ys = drop_seam xs ys

module _ (old middle : List ListedFile) (place count : ℕ) (within : place + count ≤ length old)
    (removed : middle ≡ take place old ++ drop (place + count) old) where
  front : length (take place old) ≡ place
  front = length-take place old ∙ omega (arith, within)

  parts : (more : List File) → listed_files (take place old) ++ (more ++ listed_files (drop (place + count) old))
      ≡ replace place count more (listed_files old)
  parts more = ap (λ l. l ++ (more ++ listed_files (drop (place + count) old))) (sym (take-map file_of place old))
      ∙ ap (λ l. take place (listed_files old) ++ (more ++ l)) (sym (drop-map file_of (place + count) old))

  no_number : (number : ℕ) → number ≡ 0 → (born : ℕ) → new_file number born ≡ []
  no_number number zero born = ap (λ n. new_file n born) zero

  pub without_output : (number born : ℕ) → number ≡ 0
      → listed_files middle ≡ replace place count (new_file number born) (listed_files old)
  without_output number born zero = ap listed_files removed ∙ map-append file_of (take place old) (drop (place + count) old)
      ∙ parts [] ∙ ap (λ l. replace place count l (listed_files old)) (sym (no_number number zero born))

  pub with_output : (new : List ListedFile) (file : ListedFile) → (file.number.0 == 0) ≡ false
      → new ≡ insert middle place file
      → listed_files new ≡ replace place count (new_file file.number.0 file.born.0) (listed_files old)
  with_output new file some put =
      let seam : insert middle place file ≡ take place old ++ file ∷ drop (place + count) old =
      ap (λ l. insert l place file) removed
      ∙ ap (λ n. insert (take place old ++ drop (place + count) old) n file) (sym front)
      ∙ ap (λ l. l ++ file ∷ drop (length (take place old)) (take place old ++ drop (place + count) old))
      (take-append_seam (take place old) (drop (place + count) old))
      ∙ ap (λ l. take place old ++ file ∷ l) (drop_seam (take place old) (drop (place + count) old)) in
      ap listed_files (put ∙ seam) ∙ map-append file_of (take place old) (file ∷ drop (place + count) old)
      ∙ parts (file_of file ∷ [])
      ∙ ap (λ b. replace place count (cond b [] (file_of file ∷ [])) (listed_files old)) (sym some)

zero_add : (n : ℕ) → 0 + n ≡ n
zero_add n = omega arith

-- an output in the sequence list
pub sequence_replaced : (item : Replacing) (old new : FileLists) (count late : ℕ) → count ≡ length item.sequence
    → late ≡ length item.unsequence
    → listed_files new.sequence.items
    ≡ replace item.place count (new_file item.output.0 item.born.0) (listed_files old.sequence.items)
    → new.unsequence.items ≡ drop (0 + late) old.unsequence.items
    → HasReplacedLists Sequence (replacement_of item) old new
sequence_replaced item old new count late many few s u = record {
  sequence = s ∙ ap (λ n. replace item.place n (new_file item.output.0 item.born.0) (listed_files old.sequence.items))
      (many ∙ sym (length-map item.sequence (λ (n : FileNumber). n.0)));
  unsequence = ap listed_files u ∙ sym (drop-map file_of (0 + late) old.unsequence.items)
      ∙ ap (λ n. drop n (listed_files old.unsequence.items)) (zero_add late ∙ few ∙ sym (length-map item.unsequence (λ (n : FileNumber). n.0)));
}

-- the lists are those of the state, where they are and the least is of them
are_lists : (new : FileLists) (state : StoreState) → listed_files new.sequence.items ≡ state.sequence
    → listed_files new.unsequence.items ≡ state.unsequence
    → new.least ≡ least_with (least_with None (borns_of_files (listed_files new.sequence.items))) (borns_of_files (listed_files new.unsequence.items))
    → AreListsOf new state
are_lists new state s u least = record {
  sequence = s;
  unsequence = u;
  least = subst (λ l. IsLeastOf new.least (borns_of_files (l ++ state.unsequence))) s
      (subst (λ l. IsLeastOf new.least (borns_of_files (listed_files new.sequence.items ++ l))) u
      (subst (λ o. IsLeastOf o (borns_of_files (listed_files new.sequence.items ++ listed_files new.unsequence.items))) (sym least)
      (least_of_lists (listed_files new.sequence.items) (listed_files new.unsequence.items))));
}

pub lists_replaced : (space : Space) (item : Replacement) (old new : FileLists) (state : StoreState)
    → HasReplacedLists space item old new
    → new.least ≡ least_with (least_with None (borns_of_files (listed_files new.sequence.items))) (borns_of_files (listed_files new.unsequence.items))
    → AreListsOf old state → AreListsOf new (replace_in space item state)
lists_replaced Sequence item old new state are least was = are_lists new (replace_in Sequence item state)
    (are.sequence ∙ ap (replace item.place (length item.sequence) (new_file item.output item.born)) was.sequence)
    (are.unsequence ∙ ap (drop (length item.unsequence)) was.unsequence) least
lists_replaced Unsequence item old new state are least was = are_lists new (replace_in Unsequence item state)
    (are.sequence ∙ was.sequence)
    (are.unsequence ∙ ap (replace item.place (length item.unsequence) (new_file item.output item.born)) was.unsequence)
    least
