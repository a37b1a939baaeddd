-- The truth of a job lasts: whatever came since its beginning, its inputs are told as they were.
use Rattle.std.proofs.Common.{◌≡◌, List, [], ◌∷◌, ◌++◌, length, map, Option, None, Some, ap, arith, refl, sym, subst}
use Rattle.std.proofs.Common.{◌∙◌}
use Rattle.std.proofs.lemmas.List.{map-append}
use Rattle.std.specs.Prelude.{IfSome}
use Rattle.tsdb_base.proofs.Lists.{each_among, each_from_among}
use Rattle.tsdb_base.specs.Lists.{Among, if_some}
use Rattle.tsdb_compactions.proofs.Staying.{inputs_last}
use Rattle.tsdb_compactions.specs.Outputs.{IsInputRead, TellsInputs}
use Rattle.tsdb_compactions.specs.declared.job.Input.{Input}
use Rattle.tsdb_compactions.specs.declared.job.Job.{Job}
use Rattle.tsdb_fileset.specs.Files.{AreKept, KeptFiles, all_numbers, entry_numbers, kept_file, outgoing_numbers}
use Rattle.tsdb_fileset.specs.Places.{KeptFile}
use Rattle.tsdb_fileset.specs.Rights.{IsRightTo}
use Rattle.tsdb_fileset.specs.StateOfFiles.{AreFilesOf, listed, outgoing_file}
use Rattle.tsdb_fileset.specs.declared.files.Outgoing.{Outgoing}
use Rattle.tsdb_memory.specs.LogState.{Outside}
use Rattle.tsdb_outside.specs.Files.{NamedFile}
use Rattle.tsdb_outside.specs.declared.disk.Disk as disk
use Rattle.tsdb_outside.specs.declared.faults.Counted as counted
use Rattle.tsdb_plan.specs.declared.entry.FileEntry.{FileEntry}
use Rattle.tsdb_rewriting.specs.Rewriting.{WasTold}
use Rattle.tsdb_serving.proofs.CoreJobs.{is_there}
use Rattle.tsdb_serving.specs.Compactions.{IsJobOut}
use Rattle.tsdb_serving.specs.Core.{IsSeen, files_of}
use Rattle.tsdb_serving.specs.CoreType.{Core}
use Rattle.tsdb_state.proofs.ImageLemmas.Kept.{kept_by_number}
use Rattle.tsdb_state.specs.Order.{all_files}
use Rattle.tsdb_state.specs.Records.{numbers_of}
use Rattle.tsdb_state.specs.State.{EngineState, File, KnownFiles}
use Rattle.tsdb_state.specs.StoredEngine.{kept_bytes}

-- the files of a state are those that are kept
listed_numbers : (entries : List FileEntry) → numbers_of (map listed entries) ≡ entry_numbers entries
listed_numbers [] = refl
listed_numbers (entry ∷ entries) = ap (λ ns. entry.number.0 ∷ ns) (listed_numbers entries)

leaving_numbers : (files : List Outgoing) → numbers_of (map outgoing_file files) ≡ outgoing_numbers files
leaving_numbers [] = refl
leaving_numbers (file ∷ files) = ap (λ ns. file.number.0 ∷ ns) (leaving_numbers files)

same_numbers : (files : KeptFiles) (known : KnownFiles) (state : EngineState) → AreFilesOf files known state
    → numbers_of (all_files state) ≡ all_numbers files
same_numbers files known state are =
    map-append (λ (f : File). f.number) (state.store.sequence ++ state.store.unsequence) state.outgoing
    ∙ (λ i. map-append (λ (f : File). f.number) state.store.sequence state.store.unsequence i
    ++ numbers_of state.outgoing)
    ∙ (λ i. (numbers_of (sym are.sequence i) ++ numbers_of (sym are.unsequence i)) ++ numbers_of (sym are.outgoing i))
    ∙ (λ i. (listed_numbers files.sequence i ++ listed_numbers files.unsequence i) ++ leaving_numbers files.outgoing i)

module _ {J F S R P : Type 0} {means : disk.Ghosts J} {counts : counted.Ghosts J} (name : R → NamedFile)
    (core : Core J F S R P means counts) (job : Job F S R P) (out : IsJobOut name core job)
    (are : AreKept (files_of core)) (outside : Outside) (engine : EngineState) (seen : IsSeen core outside engine) where
  -- the right to read an input tells the bytes of a tree with the points that are told now
  read_now : (input : Input F S R P) → IsRightTo name (kept_file input.number.0 (files_of core)) (Some input.right)
      → IsInputRead name outside.told input
  read_now input held = by (kept_file input.number.0 (files_of core)) refl held (seen.told input.number.0)
    where
      by : (found : Option KeptFile) → kept_file input.number.0 (files_of core) ≡ found
          → IsRightTo name found (Some input.right) → IfSome found (λ file. (file.name.number ≡ input.number.0)
          × (file.name.bytes ≡ kept_bytes outside.kept input.number.0)) → IsInputRead name outside.told input
      by None is held says = absurd held
      by (Some file) is held says =
          let there = is_there input.number.0 (all_numbers (files_of core))
          (let one = are input.number.0 ∙ ap (λ f. length (if_some f)) is in omega (arith, one)) in
          let whole = kept_by_number outside.kept outside.told (all_files engine) seen.sound.stored.whole input.number.0
          (subst (Among input.number.0) (sym (same_numbers (files_of core) outside.known engine seen.files)) there)
          input.born.0 in
          record {
            bytes = whole.bytes;
            tree = whole.tree;
            there = ap (λ (n : NamedFile). n.bytes) held ∙ says.1 ∙ whole.there;
            is_tree = whole.is_tree;
            is_made = whole.is_made;
            is_file = whole.is_file;
            content = whole.content;
          }

  pub inputs_told : WasTold name job → TellsInputs name outside.told job
  inputs_told was = inputs_last was.0 outside.told name job was.1
      (each_from_among (IsInputRead name outside.told) job.inputs (λ input among. read_now input
      (each_among (λ (i : Input F S R P). IsRightTo name (kept_file i.number.0 (files_of core)) (Some i.right)) job.inputs
      input out.kept.held.held among)))
