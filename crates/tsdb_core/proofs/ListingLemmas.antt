-- The listing of a core lists each store that it shows.
use Rattle.std.proofs.Common.{◌≡◌, ℕ, List, [], ◌∷◌, ◌++◌, length, map, ap, sym, subst, ◌∙◌}
use Rattle.std.proofs.lemmas.List.{length-map}
use Rattle.std.proofs.lemmas.Slice.Zip.{AllZip-long}
use Rattle.std.specs.FinMap.{len}
use Rattle.tsdb_base.specs.declared.ids.Space.TheVariants.{Sequence, Unsequence}
use Rattle.tsdb_core.specs.Core.{IsSeen, files_of, logged_of}
use Rattle.tsdb_core.specs.Listings.{ListsStore}
use Rattle.tsdb_core.specs.declared.engine.Core.{Core}
use Rattle.tsdb_fileset.specs.Files.{AreKept}
use Rattle.tsdb_fileset.proofs.Telling.{lines_tell_files}
use Rattle.tsdb_fileset.specs.Lines.{file_lines_of}
use Rattle.tsdb_fileset.specs.Listings.{TellFiles}
use Rattle.tsdb_memory.specs.LogState.{Outside, memory_of}
use Rattle.tsdb_model.specs.declared.reply.FileLine.{FileLine}
use Rattle.tsdb_marks.specs.declared.marks.Mark.{Mark}
use Rattle.tsdb_memory.specs.Model.{frozen_in}
use Rattle.tsdb_memory.specs.StateOfMemory.{IsFrozenOf, IsMemoryOf, part_of}
use Rattle.tsdb_memory.specs.Store.{MemoryState}
use Rattle.tsdb_memory.specs.declared.store.FrozenPair.{FrozenPair}
use Rattle.tsdb_outside.specs.declared.disk.Disk as disk
use Rattle.tsdb_outside.specs.declared.faults.Counted as counted
use Rattle.tsdb_state.specs.State.{EngineState, StoreState}

module _ {J F S R P : Type 0} {means : disk.Ghosts J} {counts : counted.Ghosts J} where
  pub lists_store : (core : Core J F S R P means counts) (outside : Outside) (state : EngineState)
      (lines : List FileLine) (memory : MemoryState) (frozen : List FrozenPair) (sequence unsequence : ℕ) (marks : List Mark)
      → IsSeen core outside state → memory ≡ memory_of (logged_of core) → AreKept (files_of core)
      → lines ≡ file_lines_of Sequence (files_of core).sequence ++ file_lines_of Unsequence (files_of core).unsequence
      → map frozen_in frozen ≡ memory.frozen
      → ((state : StoreState) → IsMemoryOf memory state → sequence ≡ len (part_of Sequence state.working))
      → ((state : StoreState) → IsMemoryOf memory state → unsequence ≡ len (part_of Unsequence state.working))
      → marks ≡ memory.marks.marks
      → ListsStore outside.told state.store (record {
        files = lines;
        frozen = length frozen;
        working = sequence ∷ unsequence ∷ [];
        marks = length marks;
      })
  lists_store core outside state lines memory frozen sequence unsequence marks seen same kept are frozen_are in_sequence
      in_unsequence marks_are =
      let shown = subst (λ (m : MemoryState). IsMemoryOf m state.store) (sym same) seen.sound.memory in
      record {
        files = subst (TellFiles outside.told state.store) (sym are)
            (lines_tell_files (files_of core) outside.told outside.known kept state seen.files
            seen.sound.stored.order.entries);
        frozen = sym (length-map frozen frozen_in) ∙ ap length frozen_are
            ∙ sym (AllZip-long (IsFrozenOf memory.series) memory.frozen state.store.frozen shown.frozen);
        working = (λ i. in_sequence state.store shown i ∷ in_unsequence state.store shown i ∷ []);
        marks = ap length marks_are ∙ ap length (sym shown.marks);
      }
