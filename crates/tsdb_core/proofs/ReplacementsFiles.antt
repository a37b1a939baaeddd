-- What the end of a compaction makes of the files of a state, and of what is told of them.
use Rattle.std.proofs.Common.{◌≡◌, ◌≢◌, ℕ, zero, suc, ◌≤◌, Bool, true, false, cond, List, [], ◌∷◌, ◌++◌, length, map}
use Rattle.std.proofs.Common.{Option, None, Some, inl, inr, ap, arith, refl, sym, subst, ◌∙◌}
use Rattle.std.specs.List.{AllByRecursion as Each}
use Rattle.std.specs.Option.{option_map}
use Rattle.std.specs.Ordering.{is_eq}
use Rattle.std.specs.Prelude.{IfSome}
use Rattle.std.proofs.lemmas.Cmp.{nat_cmp_total, tied_itself}
use Rattle.tsdb_base.specs.declared.ids.FileNumber.{FileNumber}
use Rattle.tsdb_base.specs.declared.ids.Space.{Space}
use Rattle.tsdb_base.specs.declared.ids.Space.TheVariants.{Sequence, Unsequence}
use Rattle.tsdb_base.specs.declared.ids.Stamp.{Stamp}
use Rattle.tsdb_tasks.proofs.Numbers.{at_itself, at_other, kept_new, kept_other}
use Rattle.tsdb_tasks.specs.Files.{NewFile, kept_with, known_entry, file_number}
use Rattle.tsdb_tasks.specs.Files as committing
use Rattle.tsdb_tasks.proofs.InCommit.{committed_in_state}
use Rattle.tsdb_tasks.proofs.InRuns.{inputs_stand}
use Rattle.tsdb_tasks.proofs.InState.{ended_in_state, file_changed}
use Rattle.tsdb_tasks.proofs.Telling.{tell_with}
use Rattle.tsdb_tasks.specs.Ending.{GivesUp}
use Rattle.tsdb_tasks.specs.Finishing.{AreRunsOf, Finishes}
use Rattle.tsdb_tasks.specs.Inputs.{input_numbers}
use Rattle.tsdb_tasks.specs.States.{AreInputsIn, IsFresh, IsNewOf, IsPlaceOf, TellsOutput, sent_files}
use Rattle.tsdb_tasks.specs.declared.finishing.InputRuns.{InputRuns}
use Rattle.tsdb_tasks.specs.Jobs.{IsCompactionOf}
use Rattle.tsdb_tasks.specs.Job.{Job}
use Rattle.tsdb_core.proofs.Jobs.{is_counted}
use Rattle.tsdb_core.proofs.ReplacementsClaims.{kind, stands}
use Rattle.tsdb_core.proofs.ReplacementsJobs.{IsGone}
use Rattle.tsdb_core.specs.Replacements.{IsOutputIn, end_record, output_place, with_new}
use Rattle.tsdb_fileset.proofs.StateSweeps.{borns_are}
use Rattle.tsdb_fileset.specs.StateOfFiles.{AreFilesOf, TellTheirBytes, entry_of, listed}
use Rattle.tsdb_state.specs.StoredEngine.{kept_bytes}
use Rattle.tsdb_fileset.proofs.PlaceFacts.{other_number, same_number}
use Rattle.tsdb_fileset.specs.Files.{AreKept, IsOpen, KeptFiles, kept_file, listed_borns}
use Rattle.tsdb_fileset.specs.Places.{KeptFile, Places, file_at, is_same_number, place_of_number}
use Rattle.tsdb_fileset.specs.Replacing.{HasReplaced, leaving_run, less_compaction, output_in, replace_run}
use Rattle.tsdb_base.proofs.Lists.{among_left, among_map, among_right, each_among, each_from_among}
use Rattle.tsdb_base.specs.Lists.{Among, IsWithOne, count, if_some}
use Rattle.tsdb_state.specs.Places.{Content}
use Rattle.tsdb_log.specs.declared.record.LogRecord.TheVariants.{Replaced}
use Rattle.tsdb_memory.specs.LogState.{IsStoredIn, Outside}
use Rattle.tsdb_memory.specs.Replacing.{CanCommitReplacement}
use Rattle.tsdb_model.specs.World.{World}
use Rattle.tsdb_memory.specs.Least.{IsLeastOf}
use Rattle.tsdb_memory.specs.StateOfMemory.{file_borns}
use Rattle.tsdb_tasks.specs.Changes.{fewer_rights}
use Rattle.tsdb_plan.specs.declared.entry.FileEntry.{FileEntry}
use Rattle.tsdb_tasks.proofs.OutputEnds.{ended_with, ended_without, none_can, output_can}
use Rattle.tsdb_tasks.proofs.OutputsTold.{not_a_file, stored_with, worlds_with}
use Rattle.tsdb_tasks.specs.Outputs.{only_output}
use Rattle.tsdb_state.proofs.Numbering.{count_drawn, count_map_one}
use Rattle.tsdb_state.specs.Jobs.{HasKind, Stands, drawn_numbers, held_numbers}
use Rattle.tsdb_state.specs.Order.{all_files}
use Rattle.tsdb_state.specs.Records.{numbers_of}
use Rattle.tsdb_state.specs.State.{Compaction, EngineState, KnownFile, File}
use Rattle.tsdb_state.specs.Steps.{IsOutput, IsOutputPlace, committed, compaction_record, ended, file_numbers}
use Rattle.tsdb_state.specs.Steps.{output_number}
use Rattle.tsdb_state.specs.Worlds.{StandsFor}
use Rattle.tsdb_outside.specs.Files.{plain_numbers}

is_none : (n : ℕ) → (1 ≤ n → ⊥) → n ≡ 0
is_none zero never = refl
is_none (suc n) never = absurd (never (omega arith))

-- ---- the record

numbers_back : (files : List File) (numbers : List FileNumber) → numbers_of files ≡ plain_numbers numbers
    → file_numbers files ≡ numbers
numbers_back files numbers same = as_map files ∙ ap (map made) same ∙ back numbers
  where
    made : ℕ → FileNumber
    made n = record { 0 = n }

    as_map : (files : List File) → file_numbers files ≡ map made (numbers_of files)
    as_map [] = refl
    as_map (file ∷ files) = ap (λ rest. made file.number ∷ rest) (as_map files)

    back : (numbers : List FileNumber) → map made (plain_numbers numbers) ≡ numbers
    back [] = refl
    back (number ∷ numbers) = ap (λ rest. number ∷ rest) (back numbers)

place_is : (space : Space) (runs : InputRuns) (place : ℕ) → IsPlaceOf space runs place
    → place ≡ output_place space runs
place_is Sequence runs place at = at.0
place_is Unsequence runs place at = at.0

pub record_is : {F S R P : Type 0} (job : Job F S R P) (runs : InputRuns) (file : Option NewFile)
    (compaction : Compaction) (place : ℕ) → IsCompactionOf job compaction → IsPlaceOf job.space runs place
    → compaction_record compaction (sent_files file) place ≡ end_record job runs file
record_is job runs file compaction place is at =
    let sequence = numbers_back compaction.sequence job.sequence is.sequence in
    let unsequence = numbers_back compaction.unsequence job.unsequence is.unsequence in
    let same = place_is job.space runs place at in
    λ i. Replaced (record { 0 = is.born i }) (is.space i) (same i) (record { 0 = output_number (sent_files file) })
    (sequence i) (unsequence i)

-- ---- files that are as a job leaves them which is finished

abbrev give_all : List ℕ → Places → Places
give_all held places =
    map (λ (entry : ℕ × Option KeptFile). (entry.0, option_map (fewer_rights (count entry.0 held)) entry.1)) places

given_at : (held : List ℕ) (number : ℕ) (places : Places) → place_of_number number (give_all held places)
    ≡ option_map (λ place. option_map (fewer_rights (count number held)) place) (place_of_number number places)
given_at held number [] = refl
given_at held number (entry ∷ places) = by (is_same_number number entry.0) refl (given_at held number places)
  where
    by : (b : Bool) → is_same_number number entry.0 ≡ b → place_of_number number (give_all held places)
        ≡ option_map (λ place. option_map (fewer_rights (count number held)) place) (place_of_number number places)
        → cond b (Some (option_map (fewer_rights (count entry.0 held)) entry.1))
        (place_of_number number (give_all held places))
        ≡ option_map (λ place. option_map (fewer_rights (count number held)) place)
        (cond b (Some entry.1) (place_of_number number places))
    by true e rest = ap (λ n. Some (option_map (fewer_rights (count n held)) entry.1))
        (sym (same_number number entry.0 e))
    by false e rest = rest

module _ {F S R P : Type 0} (job : Job F S R P) (old : KeptFiles) (runs : InputRuns) (file : Option NewFile) where
  abbrev entry : Option FileEntry
  entry = option_map (λ (one : NewFile). one.entry) file

  abbrev imagined : KeptFiles
  imagined = record {
    store = old.store;
    places = (job.output.0, option_map (λ (one : NewFile). one.token) file)
        ∷ give_all (input_numbers job.inputs) old.places;
    sequence = replace_run runs.sequence (if_some (output_in Sequence job.space entry)) old.sequence;
    unsequence = replace_run runs.unsequence (if_some (output_in Unsequence job.space entry)) old.unsequence;
    outgoing = old.outgoing ++ (leaving_run runs.sequence old.sequence ++ leaving_run runs.unsequence old.unsequence);
    spare = less_compaction job.space (length job.inputs) old.spare;
  }

  imagined_finishes : Finishes old imagined job runs file
  imagined_finishes = record {
    lists = record { sequence_is = refl; unsequence_is = refl; outgoing_is = refl; store_is = refl };
    here = ap (λ b. file_at (cond b (Some (option_map (λ (one : NewFile). one.token) file))
        (place_of_number job.output.0 (give_all (input_numbers job.inputs) old.places))))
        (ap is_eq (tied_itself nat_cmp_total job.output.0));
    others = λ number apart. ap (λ b. cond b (Some (option_map (λ (one : NewFile). one.token) file))
        (place_of_number number (give_all (input_numbers job.inputs) old.places)))
        (other_number number job.output.0 (λ same. apart (sym same)))
        ∙ given_at (input_numbers job.inputs) number old.places;
    room = refl;
  }

-- ---- a state with the output told

module _ {F S R P : Type 0} (job : Job F S R P) (outside : Outside) (engine : EngineState) (compaction : Compaction)
    (others : List Compaction) (file : Option NewFile) (content : Content) (stored : IsStoredIn outside engine)
    (is : IsCompactionOf job compaction) (out : IsWithOne compaction others engine.compactions)
    (output : IsOutputIn outside.told compaction file content) where
  abbrev later : Outside
  later = with_new content file outside

  pub stored_later : IsStoredIn later engine
  stored_later = by file output
    where
      by : (o : Option NewFile) → IsOutputIn outside.told compaction o content
          → IsStoredIn (with_new content o outside) engine
      by None none = stored
      by (Some one) new = stored_with outside engine compaction others stored out content one new

  pub ended_later : IsStoredIn later (ended compaction others (sent_files file) engine)
  ended_later = by file output
    where
      by : (o : Option NewFile) → IsOutputIn outside.told compaction o content
          → IsStoredIn (with_new content o outside) (ended compaction others (sent_files o) engine)
      by None none = ended_without outside engine compaction others out stored
      by (Some one) new = ended_with outside engine compaction others out stored content one new

  pub worlds_later : (world : World) → StandsFor outside.told engine.store world
      → StandsFor later.told engine.store world
  worlds_later world = by file output
    where
      by : (o : Option NewFile) → IsOutputIn outside.told compaction o content
          → StandsFor outside.told engine.store world → StandsFor (with_new content o outside).told engine.store world
      by None none stands = stands
      by (Some one) new stands =
          (worlds_with outside engine compaction others stored out content one new world).0 stands

  pub items_later : later.items ≡ outside.items
  items_later = by file
    where
      by : (o : Option NewFile) → (with_new content o outside).items ≡ outside.items
      by None = refl
      by (Some one) = refl

  tells : TellsOutput job.output.0 file outside.kept later.kept
  tells = by file output
    where
      by : (o : Option NewFile) → IsOutputIn outside.told compaction o content
          → TellsOutput job.output.0 o outside.kept (with_new content o outside).kept
      by None none = record { others = λ n apart. refl; here = tt }
      by (Some one) new =
          let same : file_number one ≡ job.output.0 = new.number_is ∙ is.output in
          record {
            others = λ n apart. kept_other (only_output one) outside.kept n (never one n same apart);
            here = (
              new.named ∙ same,
              new.tells ∙ sym (subst (λ m. kept_bytes (kept_with (only_output one) outside.kept) m ≡ Some new.bytes)
                  same (kept_new (only_output one) outside.kept one new.bytes (tt, tt) (inl refl) new.tells)),
            );
          }
        where
          never : (one : NewFile) (n : ℕ) → file_number one ≡ job.output.0 → job.output.0 ≢ n
              → Among n (committing.built_numbers (only_output one)) → ⊥
          never one n same apart (inl here) = apart (sym same ∙ here)
          never one n same apart (inr none) = absurd none

  pub told_later : (old new : KeptFiles) → IsGone job file old new → TellTheirBytes old outside.kept
      → TellTheirBytes new later.kept
  told_later old new gone told = tell_with outside.kept later.kept old new job.output.0 file
      (λ n. fewer_rights (count n (input_numbers job.inputs))) (λ n one. refl) tells gone.here
      (λ n apart. ap file_at (gone.others n apart)
      ∙ file_changed (fewer_rights (count n (input_numbers job.inputs))) (place_of_number n old.places)) told

  -- the number of the output is drawn
  drawn : (n : ℕ) → compaction.output ≡ n → 1 ≤ count n (drawn_numbers engine.flushes engine.compactions)
  drawn n same = omega (
    arith,
    count_drawn n engine.flushes engine.compactions,
    count_map_one (λ (c : Compaction). c.output) n compaction others engine.compactions out,
    is_counted n (compaction.output ∷ []) (inl same),
  )

  pub from_one : 1 ≤ job.output.0
  from_one = (stored.order.numbers.range job.output.0 (omega (arith, drawn job.output.0 is.output))).0

  fresh : IsFresh job.output.0 file engine
  fresh = record {
    unread = stored.order.rights.counts job.output.0
        ∙ is_none (count job.output.0 (held_numbers engine.compactions engine.pins)) (λ some. omega (
          arith,
          stored.order.rights.there job.output.0 some,
          stored.order.numbers.differ job.output.0,
          drawn job.output.0 is.output,
        ));
    is = by file output;
  }
    where
      by : (o : Option NewFile) → IsOutputIn outside.told compaction o content
          → IfSome o (λ one. (file_number one ≡ job.output.0) × (one.token.rights ≡ 0))
      by None none = tt
      by (Some one) new = (new.number_is ∙ is.output, new.unread)

  new_of : IsNewOf job.output.0 job.born.0 file
  new_of = by file output
    where
      by : (o : Option NewFile) → IsOutputIn outside.told compaction o content
          → IsNewOf job.output.0 job.born.0 o
      by None none = tt
      by (Some one) new = record { number = new.number_is ∙ is.output; born = new.born_is ∙ is.born }

  output_known : IfSome file (λ one. later.known (file_number one) ≡ known_entry one)
  output_known = by file
    where
      by : (o : Option NewFile) → IfSome o (λ one. (with_new content o outside).known (file_number one) ≡ known_entry one)
      by None = tt
      by (Some one) = at_itself one known_entry outside.known

  module _ (old : KeptFiles) (are : AreFilesOf old outside.known engine) (kept : AreKept old)
      (open_place : IsOpen job.output.0 old) where
    in_sequence : (entry : FileEntry) → Among entry old.sequence → Among (listed entry) (all_files engine)
    in_sequence entry there =
        among_left (engine.store.sequence ++ engine.store.unsequence) engine.outgoing (listed entry)
        (among_left engine.store.sequence engine.store.unsequence (listed entry)
        (subst (Among (listed entry)) are.sequence (among_map listed old.sequence entry there)))

    in_unsequence : (entry : FileEntry) → Among entry old.unsequence → Among (listed entry) (all_files engine)
    in_unsequence entry there =
        among_left (engine.store.sequence ++ engine.store.unsequence) engine.outgoing (listed entry)
        (among_right engine.store.sequence engine.store.unsequence (listed entry)
        (subst (Among (listed entry)) are.unsequence (among_map listed old.unsequence entry there)))

    -- what is known of the files that were there is as before
    same_known : (n : ℕ) → (n ≡ compaction.output → ⊥) → later.known n ≡ outside.known n
    same_known n never = by file output
      where
        by : (o : Option NewFile) → IsOutputIn outside.told compaction o content
            → (with_new content o outside).known n ≡ outside.known n
        by None none = refl
        by (Some one) new = at_other (Some one) known_entry outside.known n (differs one new.number_is)
          where
            differs : (one : NewFile) → file_number one ≡ compaction.output → Among n (file_number one ∷ []) → ⊥
            differs one same (inl here) = never (sym here ∙ same)
            differs one same (inr none) = absurd none

    still : (entries : List FileEntry)
        → ((entry : FileEntry) → Among entry entries → Among (listed entry) (all_files engine))
        → Each (λ entry. IfSome (kept_file entry.number.0 old)
        (λ token. outside.known entry.number.0 ≡ entry_of entry token.series)) entries
        → Each (λ entry. IfSome (kept_file entry.number.0 old)
        (λ token. later.known entry.number.0 ≡ entry_of entry token.series)) entries
    still entries of_state all = each_from_among _ entries (λ entry there.
        subst (λ (e : KnownFile). IfSome (kept_file entry.number.0 old) (λ token. e ≡ entry_of entry token.series))
        (sym (same_known entry.number.0
        (not_a_file outside engine compaction others stored out (listed entry) (of_state entry there))))
        (each_among _ entries entry all there))

    known_later : AreFilesOf old later.known engine
    known_later = record {
      sequence = are.sequence;
      unsequence = are.unsequence;
      outgoing = are.outgoing;
      rights = are.rights;
      entries_in_sequence = still old.sequence in_sequence are.entries_in_sequence;
      entries_in_unsequence = still old.unsequence in_unsequence are.entries_in_unsequence;
    }

    pub files_given_up : (new : KeptFiles) → GivesUp old new job file
        → AreFilesOf new later.known (ended compaction others (sent_files file) engine)
    files_given_up new up =
        ended_in_state job old new later.known engine compaction file known_later kept open_place is fresh up others

    -- ---- with its record

    module _ (runs : InputRuns) (stand : AreRunsOf job runs old) where
      pub at_place : AreInputsIn runs old compaction
          × ((place : ℕ) × IsPlaceOf job.space runs place × IsOutputPlace job.space compaction engine.store place)
      at_place = inputs_stand job outside.told old later.known engine compaction runs known_later kept is stand
          job.space refl
          (subst (λ space. HasKind space compaction) is.space
          (kind outside.told outside.known stored.named engine stored.order compaction others out))
          (subst (λ space. Stands space outside.told engine.store.sequence engine.store.unsequence compaction) is.space
          (stands outside.told outside.known stored.named engine stored.order compaction others out))

      abbrev pub place : ℕ
      place = at_place.1.0

      pub output_stands : IsOutputPlace compaction.space compaction engine.store place
      output_stands = subst (λ space. IsOutputPlace space compaction engine.store place) (sym is.space) at_place.1.2

      pub same_record : compaction_record compaction (sent_files file) place ≡ end_record job runs file
      same_record = record_is job runs file compaction place is at_place.1.1

      pub files_finished : (new : KeptFiles) → Finishes old new job runs file
          → AreFilesOf new later.known (committed compaction others (sent_files file) place engine)
      files_finished new up = committed_in_state job runs old new later.known engine compaction file place known_later
          is stand new_of from_one up kept open_place fresh at_place.1.1 at_place.0 output_known others

      -- the least born once the files are replaced is that of the state
      least_later : (least : Option Stamp)
          → ((files : KeptFiles) → HasReplaced job.space runs.sequence runs.unsequence
          (option_map (λ (one : NewFile). one.entry) file) old files → IsLeastOf least (listed_borns files))
          → IsLeastOf least (file_borns (committed compaction others (sent_files file) place engine).store)
      least_later least is_least = subst (IsLeastOf least)
          (borns_are (imagined job old runs file) later.known
          (committed compaction others (sent_files file) place engine)
          (files_finished (imagined job old runs file) (imagined_finishes job old runs file)))
          (is_least (imagined job old runs file) (imagined_finishes job old runs file).lists)

      pub can_replace : (file ≡ None → IsOutput outside.told compaction []) → (least : Option Stamp)
          → ((files : KeptFiles) → HasReplaced job.space runs.sequence runs.unsequence
          (option_map (λ (one : NewFile). one.entry) file) old files → IsLeastOf least (listed_borns files))
          → CanCommitReplacement (compaction_record compaction (sent_files file) place) least later engine compaction others
          (sent_files file) place
      can_replace none least is_least = by file output none (least_later least is_least)
        where
          by : (o : Option NewFile) → IsOutputIn outside.told compaction o content
              → (o ≡ None → IsOutput outside.told compaction [])
              → IsLeastOf least (file_borns (committed compaction others (sent_files o) place engine).store)
              → CanCommitReplacement (compaction_record compaction (sent_files o) place) least (with_new content o outside) engine
              compaction others (sent_files o) place
          by None of none at = none_can outside engine compaction others out place least (none refl) output_stands at
          by (Some one) of none at =
              output_can outside engine compaction others out stored content one of place least output_stands at
