-- What is decided of replaced files is what each state that is shown needs, and what a replacement leaves.
use Rattle.std.proofs.Common.{◌≤◌, [], ◌∷◌, sym, subst}
use Rattle.std.specs.Prelude.{◌↔◌}
use Rattle.tsdb_memory.specs.Least.{IsLeastOf}
use Rattle.tsdb_memory.specs.StateOfMemory.{IsMemoryOf, file_borns}
use Rattle.tsdb_redo.proofs.Flushing.{are_new}
use Rattle.tsdb_redo.proofs.Following.{kept_lists, shows_after}
use Rattle.tsdb_redo.proofs.Standing.{for_state}
use Rattle.tsdb_redo.specs.Lists.{AreListsOf, KeepsRecordedLists, replacement_of}
use Rattle.tsdb_redo.specs.NamedNumbers.{NamesMore}
use Rattle.tsdb_redo.specs.Opening.{IsOpeningOf}
use Rattle.tsdb_redo.specs.Redone.{IsReplayed}
use Rattle.tsdb_redo.specs.FileRecords.{IsReplacing, replaced_record}
use Rattle.tsdb_redo.specs.declared.lists.FileLists.{FileLists}
use Rattle.tsdb_redo.specs.declared.opening.Opening.{Opening}
use Rattle.tsdb_redo.specs.declared.replacing.Replacing.{Replacing}
use Rattle.tsdb_state.specs.Stores.{Recorded}
use Rattle.tsdb_state.specs.Records.{CanReplace, Replacement, new_numbers, replace_in, replaced}
use Rattle.tsdb_state.specs.State.{StoreState}

pub replacing : (opening : Opening) (item : Replacing) (recorded : Recorded) → IsOpeningOf opening recorded
    → IsReplacing opening item ↔ CanReplace recorded.named (replacement_of item) recorded.store
replacing opening item recorded is =
    let inputs = for_state item.space (replacement_of item) opening.files recorded.store is.files in
    let new = are_new opening.named recorded.named is.named (new_numbers (item.output.0 ∷ 0 ∷ [])) in (
      λ can. let there = inputs.0 can.inputs in record {
        inputs = there.0;
        older = there.1;
        reached = subst (λ n. item.born.0 ≤ n) (sym is.memory.stamp) can.reached;
        fresh = new.0 can.new;
      },
      λ can. record {
        reached = subst (λ n. item.born.0 ≤ n) is.memory.stamp can.reached;
        new = new.1 can.fresh;
        inputs = inputs.1 (can.inputs, can.older);
      },
    )

module _ (old new : Opening) (middle : FileLists) (item : Replacing) (can : IsReplacing old item)
    (kept : KeepsRecordedLists old.files middle)
    (put : (state : StoreState) → AreListsOf middle state
    → AreListsOf new.files (replace_in item.space (replacement_of item) state))
    (effect : (state : StoreState) (item : Replacement) → IsMemoryOf old.memory state
    → IsLeastOf new.files.least (file_borns (replaced item state)) → IsMemoryOf new.memory (replaced item state))
    (more : NamesMore (new_numbers (item.output.0 ∷ 0 ∷ [])) old.named new.named) where
  files_replaced : (recorded : Recorded) → IsOpeningOf old recorded
      → AreListsOf new.files (replaced (replacement_of item) recorded.store)
  files_replaced recorded is =
      let are = put recorded.store (kept_lists old.files middle recorded.store kept is.files) in
      record { sequence = are.sequence; unsequence = are.unsequence; least = are.least }

  pub shows_replaced : IsReplayed old new (replaced_record item)
  shows_replaced = shows_after old new (replaced_record item)
      (λ recorded is. (replacing old item recorded is).0 can)
      (λ recorded is. effect recorded.store (replacement_of item) is.memory (files_replaced recorded is).least)
      files_replaced more
