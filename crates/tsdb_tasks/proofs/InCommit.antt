-- The files after a job was finished are those of the state in which its compaction is committed.
use Rattle.std.proofs.Common.{◌≡◌, ℕ, ◌+◌, ◌≤◌, ◌==◌, Bool, true, false, cond, List, [], ◌∷◌, ◌++◌, drop}
use Rattle.std.proofs.Common.{length, map, take, Option, Some, None, refl, sym, ap, subst, ◌∙◌, arith}
use Rattle.std.specs.Cmp.{unsigned_Decides}
use Rattle.std.specs.List.{AllByRecursion as Each}
use Rattle.std.specs.Option.{option_map}
use Rattle.std.specs.Prelude.{IfSome, slice_range}
use Rattle.std.proofs.lemmas.List.{drop-map, length-map, map-append, take-append-drop, take-map}
use Rattle.tsdb_base.specs.declared.ids.FileNumber.{FileNumber}
use Rattle.tsdb_base.specs.declared.ids.Space.{Space}
use Rattle.tsdb_base.specs.declared.ids.Space.TheVariants.{Sequence, Unsequence}
use Rattle.tsdb_tasks.specs.Files.{NewFile, known_entry, file_number}
use Rattle.tsdb_tasks.proofs.Finished.{run_long}
use Rattle.tsdb_tasks.proofs.InState.{IsKnown, rights_are, still_known}
use Rattle.tsdb_tasks.specs.Finishing.{AreRunsOf, Finishes, IsRunOf}
use Rattle.tsdb_tasks.specs.States.{AreInputsIn, IsFresh, IsNewOf, IsPlaceOf, sent_files}
use Rattle.tsdb_tasks.specs.declared.finishing.InputRuns.{InputRuns}
use Rattle.tsdb_compactions.specs.Jobs.{IsCompactionOf}
use Rattle.tsdb_compactions.specs.declared.job.Job.{Job}
use Rattle.tsdb_fileset.specs.StateOfFiles.{AreFilesOf, entry_of, outgoing_file, listed}
use Rattle.tsdb_fileset.proofs.Replaced.{run_parts}
use Rattle.tsdb_fileset.specs.Files.{AreKept, IsOpen, KeptFiles, kept_file}
use Rattle.tsdb_fileset.specs.Places.{KeptFile}
use Rattle.tsdb_fileset.specs.Replacing.{IsWithin, leaving as sent, output_in, replace_run, run_length}
use Rattle.tsdb_base.proofs.Lists.{each_append, each_left, each_right}
use Rattle.tsdb_base.specs.Lists.{if_some}
use Rattle.tsdb_plan.specs.declared.entry.FileEntry.{FileEntry}
use Rattle.tsdb_plan.specs.declared.entry.Run.{Run}
use Rattle.tsdb_state.specs.Jobs.{job_inputs}
use Rattle.tsdb_state.specs.Records.{Replacement, new_file, number_list, numbers_of, replace, replace_in}
use Rattle.tsdb_state.specs.State.{Compaction, EngineState, KnownFiles, File}
use Rattle.tsdb_state.specs.Steps.{committed, file_numbers, output_number}
use Rattle.tsdb_outside.specs.Files.{plain_numbers}

numbers_as : (files : List File) → number_list (file_numbers files) ≡ numbers_of files
numbers_as [] = refl
numbers_as (file ∷ files) = ap (λ rest. file.number ∷ rest) (numbers_as files)

-- as many numbers in the record as files in the run
long_as : (run : Run) (numbers : List FileNumber) (entries : List FileEntry) (files : List File)
    → IsRunOf run numbers entries → numbers_of files ≡ plain_numbers numbers
    → length (number_list (file_numbers files)) ≡ run_length run
long_as run numbers entries files of same =
    ap length (numbers_as files ∙ same) ∙ length-map numbers (λ (n : FileNumber). n.0)
    ∙ sym (run_long run numbers entries of)

-- a list with other files in the place of a run, as the state has it
listed_put : (run : Run) (these : List FileEntry) (entries : List FileEntry) (files output : List File) (long : ℕ)
    → IsWithin run entries → long ≡ run_length run → map listed entries ≡ files → map listed these ≡ output
    → map listed (replace_run run these entries) ≡ replace run.first long output files
listed_put run these entries files output long within is all put =
    let whole : run.first + long ≡ run.end = omega (arith, within.rises, is) in
    map-append listed (take run.first entries) (these ++ drop run.end entries)
    ∙ ap (λ ys. map listed (take run.first entries) ++ ys) (map-append listed these (drop run.end entries))
    ∙ (λ i. (sym (take-map listed run.first entries) ∙ ap (take run.first) all) i
    ++ (put i ++ (sym (drop-map listed run.end entries) ∙ ap (drop run.end) all) i))
    ∙ ap (λ n. take run.first files ++ (output ++ drop n files)) (sym whole)

-- the output as its record names it
as_recorded : (file : Option NewFile) (number born : ℕ) → 1 ≤ number → IsNewOf number born file
    → map listed (if_some (option_map (λ (one : NewFile). one.entry) file))
    ≡ new_file (output_number (sent_files file)) born
as_recorded None number born some is = refl
as_recorded (Some one) number born some is =
    let n = one.entry.number.0 in
    (λ i. record { number = n; born = is.born i } ∷ [])
    ∙ ap (λ b. cond b [] (record { number = n; born = born } ∷ [])) (sym (not_zero n (omega (arith, some, is.number))))
  where
    not_zero : (n : ℕ) → 1 ≤ n → (n == 0) ≡ false
    not_zero n some = by (n == 0) refl
      where
        by : (b : Bool) → (n == 0) ≡ b → (n == 0) ≡ false
        by true e = absurd (omega (arith, some, (unsigned_Decides n 0).0 e))
        by false e = e

from_zero : (n : ℕ) → 0 + n ≡ n
from_zero n = omega arith

leaving_same : (entries : List FileEntry) → map outgoing_file (map sent entries) ≡ map listed entries
leaving_same [] = refl
leaving_same (entry ∷ entries) = ap (λ rest. listed entry ∷ rest) (leaving_same entries)

put_each : (P : FileEntry → Type 0) (run : Run) (these entries : List FileEntry) → IsWithin run entries → Each P these
    → Each P entries → Each P (replace_run run these entries)
put_each P run these entries within here all =
    let mid = slice_range entries run.first run.end in
    let back = drop run.end entries in
    let parts = subst (Each P) (sym (run_parts run.first run.end entries within.rises)) all in
    each_append P (take run.first entries) (these ++ back) (each_left P (take run.first entries) (mid ++ back) parts)
    (each_append P these back here (each_right P mid back (each_right P (take run.first entries) (mid ++ back) parts)))

-- the record of the compaction
abbrev item_of : Compaction → List File → ℕ → Replacement
item_of job output place = record {
  born = job.born;
  space = job.space;
  place = place;
  output = output_number output;
  sequence = number_list (file_numbers job.sequence);
  unsequence = number_list (file_numbers job.unsequence);
}

module _ {F S R P : Type 0} (job : Job F S R P) (runs : InputRuns) (old new : KeptFiles) (known : KnownFiles)
    (engine : EngineState) (compaction : Compaction) (file : Option NewFile) (place : ℕ)
    (are : AreFilesOf old known engine) (is : IsCompactionOf job compaction) (stand : AreRunsOf job runs old)
    (output : IsNewOf job.output.0 job.born.0 file) (some : 1 ≤ job.output.0)
    (up : Finishes old new job runs file) where
  abbrev item : Replacement
  item = item_of compaction (sent_files file) place

  abbrev entry : Option FileEntry
  entry = option_map (λ (one : NewFile). one.entry) file

  recorded : map listed (if_some entry) ≡ new_file item.output compaction.born
  recorded = as_recorded file job.output.0 job.born.0 some output
      ∙ ap (new_file item.output) (sym is.born)

  sequence_long : length item.sequence ≡ run_length runs.sequence
  sequence_long = long_as runs.sequence job.sequence old.sequence compaction.sequence stand.sequence is.sequence

  unsequence_long : length item.unsequence ≡ run_length runs.unsequence
  unsequence_long = long_as runs.unsequence job.unsequence old.unsequence compaction.unsequence stand.unsequence
      is.unsequence

  -- the lists in the one space, and in the other
  put_sequence : (space : Space) → job.space ≡ space → IsPlaceOf space runs place
      → map listed new.sequence ≡ (replace_in space item engine.store).sequence
  put_sequence Sequence same at = ap (map listed) (up.lists.sequence_is
      ∙ ap (λ s. replace_run runs.sequence (if_some (output_in Sequence s entry)) old.sequence) same)
      ∙ listed_put runs.sequence (if_some entry) old.sequence engine.store.sequence
      (new_file item.output compaction.born) (length item.sequence) stand.sequence.within sequence_long are.sequence
      recorded
      ∙ ap (λ n. replace n (length item.sequence) (new_file item.output compaction.born) engine.store.sequence)
      (sym at.0)
  put_sequence Unsequence same at = ap (map listed) (up.lists.sequence_is
      ∙ ap (λ s. replace_run runs.sequence (if_some (output_in Sequence s entry)) old.sequence) same)
      ∙ ap (map listed) (empty_run runs.sequence old.sequence stand.sequence.within at.1)
      ∙ are.sequence
    where
      empty_run : (run : Run) (entries : List FileEntry) → IsWithin run entries → run_length run ≡ 0
          → replace_run run [] entries ≡ entries
      empty_run run entries within none =
          let end : run.end ≡ run.first + 0 = omega (arith, within.rises, none) in
          ap (λ n. take run.first entries ++ drop n entries) (omega (arith, end))
          ∙ take-append-drop run.first entries

  put_unsequence : (space : Space) → job.space ≡ space → IsPlaceOf space runs place
      → map listed new.unsequence ≡ (replace_in space item engine.store).unsequence
  put_unsequence Sequence same at = ap (map listed) (up.lists.unsequence_is
      ∙ ap (λ s. replace_run runs.unsequence (if_some (output_in Unsequence s entry)) old.unsequence) same)
      ∙ listed_put runs.unsequence [] old.unsequence engine.store.unsequence [] (length item.unsequence)
      stand.unsequence.within unsequence_long are.unsequence refl
      ∙ ap (λ n. replace n (length item.unsequence) [] engine.store.unsequence) at.1
      ∙ ap (λ n. drop n engine.store.unsequence) (from_zero (length item.unsequence))
  put_unsequence Unsequence same at = ap (map listed) (up.lists.unsequence_is
      ∙ ap (λ s. replace_run runs.unsequence (if_some (output_in Unsequence s entry)) old.unsequence) same)
      ∙ listed_put runs.unsequence (if_some entry) old.unsequence engine.store.unsequence
      (new_file item.output compaction.born) (length item.unsequence) stand.unsequence.within unsequence_long
      are.unsequence recorded
      ∙ ap (λ n. replace n (length item.unsequence) (new_file item.output compaction.born) engine.store.unsequence)
      (sym at.0)

  inputs_left : AreInputsIn runs old compaction → map outgoing_file new.outgoing ≡ engine.outgoing ++ job_inputs compaction
  inputs_left inputs =
      let s = slice_range old.sequence runs.sequence.first runs.sequence.end in
      let u = slice_range old.unsequence runs.unsequence.first runs.unsequence.end in
      ap (map outgoing_file) up.lists.outgoing_is ∙ map-append outgoing_file old.outgoing (map sent s ++ map sent u)
      ∙ (λ i. are.outgoing i ++ (map-append outgoing_file (map sent s) (map sent u)
      ∙ (λ j. (leaving_same s ∙ inputs.sequence) j ++ (leaving_same u ∙ inputs.unsequence) j)) i)

  -- what is known of the output is what is kept of it
  new_known : IfSome file (λ one. known (file_number one) ≡ known_entry one) → (list space : Space)
      → Each (IsKnown known new) (if_some (output_in list space entry))
  new_known said list space = in_list list space (here file output said up.here)
    where
      here : (o : Option NewFile) → IsNewOf job.output.0 job.born.0 o
          → IfSome o (λ one. known (file_number one) ≡ known_entry one)
          → kept_file job.output.0 new ≡ option_map (λ one. one.token) o
          → Each (IsKnown known new) (if_some (option_map (λ (one : NewFile). one.entry) o))
      here None of said found = tt
      here (Some one) of said found = (
        subst (λ found. IfSome found (λ (token : KeptFile). known one.entry.number.0 ≡ entry_of one.entry token.series))
            (sym (ap (λ n. kept_file n new) of.number ∙ found)) said,
        tt,
      )

      in_list : (list space : Space) → Each (IsKnown known new) (if_some entry)
          → Each (IsKnown known new) (if_some (output_in list space entry))
      in_list Sequence Sequence all = all
      in_list Sequence Unsequence all = tt
      in_list Unsequence Sequence all = tt
      in_list Unsequence Unsequence all = all

  pub committed_in_state : AreKept old → IsOpen job.output.0 old → IsFresh job.output.0 file engine
      → IsPlaceOf job.space runs place → AreInputsIn runs old compaction
      → IfSome file (λ one. known (file_number one) ≡ known_entry one) → (others : List Compaction)
      → AreFilesOf new known (committed compaction others (sent_files file) place engine)
  committed_in_state kept open_place fresh at inputs said others =
      let still = still_known job old new known engine compaction file are kept open_place is fresh up.here up.others in
      record {
        sequence = put_sequence job.space refl at ∙ ap (λ s. (replace_in s item engine.store).sequence) (sym is.space);
        unsequence = put_unsequence job.space refl at
            ∙ ap (λ s. (replace_in s item engine.store).unsequence) (sym is.space);
        outgoing = inputs_left inputs;
        rights = rights_are job old new known engine compaction file are kept open_place is fresh up.here up.others;
        entries_in_sequence = subst (Each (IsKnown known new)) (sym up.lists.sequence_is)
            (put_each (IsKnown known new) runs.sequence (if_some (output_in Sequence job.space entry)) old.sequence
            stand.sequence.within (new_known said Sequence job.space) (still Sequence are.entries_in_sequence));
        entries_in_unsequence = subst (Each (IsKnown known new)) (sym up.lists.unsequence_is)
            (put_each (IsKnown known new) runs.unsequence (if_some (output_in Unsequence job.space entry))
            old.unsequence stand.unsequence.within (new_known said Unsequence job.space)
            (still Unsequence are.entries_in_unsequence));
      }
