-- The files of a flush that has ended, among those that a core keeps.
use Rattle.std.proofs.Common.{◌≡◌, ℕ, ◌≤◌, ◌⊎◌, List, [], ◌∷◌, ◌++◌, map, Option, None, Some, inl, inr}
use Rattle.std.proofs.Common.{ap, arith, refl, sym, subst, ◌∙◌}
use Rattle.std.proofs.lemmas.Bool.{eq-eqb}
use Rattle.std.proofs.lemmas.List.{append-nil, map-append}
use Rattle.std.specs.List.{AllByRecursion as Each}
use Rattle.std.specs.Prelude.{IfSome, nat_eq}
use Rattle.tsdb_tasks.proofs.Built.{HasPart}
use Rattle.tsdb_tasks.proofs.Committing.{drawn_from_one, new_file_is, one_file}
use Rattle.tsdb_tasks.proofs.Numbers.{is_one, kept_new, kept_other}
use Rattle.tsdb_tasks.proofs.Stored.{at_others, drawn_number, drawn_once, drawn_sequence, drawn_unsequence}
use Rattle.tsdb_tasks.proofs.Stored.{each_known}
use Rattle.tsdb_tasks.proofs.Stored.{each_of_job, each_told, files_differ, not_a_file, number_there, OfJob}
use Rattle.tsdb_tasks.specs.Coming.{AreSentOut, HaveCome, StandLast, outgoing_of}
use Rattle.tsdb_tasks.specs.Files.{AreAllThere, AreFilesOfJob, IsOutAs, NewFile, NewFiles, TellBytes, all_of, kept_with}
use Rattle.tsdb_tasks.specs.Files.{known_entry, known_with, file_number, built_numbers, state_files, told_after_flush}
use Rattle.tsdb_fileset.specs.StateOfFiles.{AreFilesOf, TellTheirBytes, entry_of, outgoing_file, listed}
use Rattle.tsdb_state.specs.StoredEngine.{kept_bytes}
use Rattle.tsdb_compactions.specs.FlushJob.{FlushJob}
use Rattle.tsdb_fileset.proofs.Counts.{counted}
use Rattle.tsdb_fileset.specs.Files.{KeptFiles, kept_file}
use Rattle.tsdb_fileset.specs.Places.{KeptFile, file_at, place_of_number}
use Rattle.tsdb_base.proofs.Lists.{among_left, among_map, among_right, any_among, each_among, each_append}
use Rattle.tsdb_base.proofs.Lists.{each_from_among}
use Rattle.tsdb_base.proofs.Lists.{each_map}
use Rattle.tsdb_base.specs.Lists.{Among, count, if_some}
use Rattle.tsdb_memory.specs.LogState.{IsStoredIn, Outside}
use Rattle.tsdb_memory.proofs.Frozen.{image_of}
use Rattle.tsdb_outside.specs.Files.{Store}
use Rattle.tsdb_plan.specs.declared.entry.FileEntry.{FileEntry}
use Rattle.tsdb_state.proofs.Counting.{is_none}
use Rattle.tsdb_state.specs.Jobs.{drawn_by, held_numbers}
use Rattle.tsdb_state.specs.Order.{all_files}
use Rattle.tsdb_state.specs.Records.{flush_oldest, new_file}
use Rattle.tsdb_state.specs.State as state
use Rattle.tsdb_state.specs.State.{EngineState, KnownFiles, File, FrozenContent}
use Rattle.tsdb_state.specs.Steps.{committed_flush, ended_flush, number_or_none}

-- ---- lists

listed_all : (files : List NewFile) → map listed (map (λ (f : NewFile). f.entry) files) ≡ map (λ f. listed f.entry)
    files
listed_all [] = refl
listed_all (file ∷ files) = ap (λ rest. listed file.entry ∷ rest) (listed_all files)

leaving_all : (files : List NewFile) → map outgoing_file (map outgoing_of files) ≡ map (λ f. listed f.entry) files
leaving_all [] = refl
leaving_all (file ∷ files) = ap (λ rest. listed file.entry ∷ rest) (leaving_all files)

-- what holds of a list holds of an equal one
moved : {X : Type 0} (P : X → Type 0) (xs ys : List X) → ys ≡ xs → Each P xs → Each P ys
moved P xs ys same all = subst (Each P) (sym same) all

-- ---- tokens

module _ (drawn : List ℕ) (files : NewFiles) (old new : KeptFiles) (come : HaveCome drawn files old new) where
  -- what holds of each kept file of another number, and of each new one, holds of each
  pub of_each : (P : ℕ → KeptFile → Type 0) → ((n : ℕ) → (Among n drawn → ⊥) → IfSome (kept_file n old) (P n))
      → Each (λ file. P (file_number file) file.token) (all_of files) → (n : ℕ) → IfSome (kept_file n new) (P n)
  of_each P others these n = by (is_one n drawn)
    where
      of_drawn : Among n (built_numbers files) ⊎ (place_of_number n new.places ≡ None) → IfSome (kept_file n new) (P n)
      of_drawn (inl there) =
          let image = image_of file_number (all_of files) n there in
          subst (λ m. IfSome (kept_file m new) (P m)) image.is
          (subst (λ found. IfSome found (P (file_number image.element)))
          (sym (each_among (λ file. kept_file (file_number file) new ≡ Some file.token) (all_of files) image.element
          come.kept image.among))
          (each_among (λ file. P (file_number file) file.token) (all_of files) image.element these image.among))
      of_drawn (inr gone) = subst (λ place. IfSome (file_at place) (P n)) (sym gone) tt

      by : Among n drawn ⊎ (Among n drawn → ⊥) → IfSome (kept_file n new) (P n)
      by (inl among) = of_drawn (each_among _ drawn n come.gone among)
      by (inr never) = subst (λ place. IfSome (file_at place) (P n)) (sym (come.others n never)) (others n never)

-- ---- the files of the state

module _ (store : Store) (job : FlushJob) (files : NewFiles) (old new : KeptFiles) (outside : Outside) (engine :
    EngineState)
    (flush : state.FlushState) (others : List state.FlushState) (stored : IsStoredIn outside engine)
    (out : IsOutAs job flush others engine) (of_job : AreFilesOfJob store job files)
    (come : HaveCome (drawn_by flush) files old new) where
  abbrev known : KnownFiles
  known = known_with files outside.known

  these : Each (OfJob store job files flush of_job out.of.sequence out.of.unsequence) (all_of files)
  these = each_of_job store job files flush of_job out.of.sequence out.of.unsequence

  -- nobody has a right to read a file of a drawn number
  no_right : (n : ℕ) → Among n (drawn_by flush) → engine.rights n ≡ 0
  no_right n among = stored.order.rights.counts n ∙ is_none (count n (held_numbers engine.compactions engine.pins))
      (λ some. omega (
        arith,
        stored.order.rights.there n some,
        counted n (drawn_by flush) (any_among (nat_eq n) (drawn_by flush) n among (eq-eqb n n refl)),
        drawn_once job outside engine flush others stored out n,
      ))

  rights_match : AreFilesOf old outside.known engine → (n : ℕ)
      → IfSome (kept_file n new) (λ file. file.rights ≡ engine.rights n)
  rights_match are = of_each (drawn_by flush) files old new come (λ n file. file.rights ≡ engine.rights n)
      (λ n never. are.rights n)
      (each_from_among _ (all_of files) (λ file there.
      let known = each_among (OfJob store job files flush of_job out.of.sequence out.of.unsequence) (all_of files) file
      these there in
      known.unread ∙ sym (no_right (file_number file) known.drawn)))

  abbrev IsKnown : FileEntry → Type 0
  IsKnown entry = IfSome (kept_file entry.number.0 new) (λ file. known entry.number.0 ≡ entry_of entry file.series)

  -- what is kept of the files that were there is known as before
  still_known : (entries : List FileEntry)
      → ((entry : FileEntry) → Among entry entries → Among (listed entry) (all_files engine))
      → Each (λ entry. IfSome (kept_file entry.number.0 old)
      (λ file. outside.known entry.number.0 ≡ entry_of entry file.series)) entries
      → Each IsKnown entries
  still_known entries of_state all = each_from_among IsKnown entries (λ entry there.
      let never = not_a_file job outside engine flush others stored out (listed entry) (of_state entry there) in
      subst (λ place. IfSome (file_at place) (λ (file : KeptFile). known entry.number.0 ≡ entry_of entry file.series))
      (sym (come.others entry.number.0 never))
      (subst (λ entries. IfSome (kept_file entry.number.0 old)
      (λ file. entries ≡ entry_of entry file.series))
      (sym (at_others job outside engine flush others stored out store files of_job known_entry known_entry
      outside.known
      entry.number.0 (λ among. never (drawn_number store job files flush of_job out.of.sequence out.of.unsequence
      entry.number.0 among))))
      (each_among _ entries entry all there)))

  -- and so is what is kept of the new ones
  new_known : (part : List NewFile) → ((file : NewFile) → Among file part → Among file (all_of files))
      → Each IsKnown (map (λ file. file.entry) part)
  new_known part of_all = each_map IsKnown (λ (file : NewFile). file.entry) part (each_from_among _ part (λ file there.
      subst (λ found. IfSome found (λ (token : KeptFile). known (file_number file) ≡ entry_of file.entry token.series))
      (sym (each_among _ (all_of files) file come.kept (of_all file there)))
      (each_among _ (all_of files) file
      (each_known job outside engine flush others stored out store files of_job) (of_all file there))))

  module _ (are : AreFilesOf old outside.known engine) where
    in_sequence : (entry : FileEntry) → Among entry old.sequence → Among (listed entry) (all_files engine)
    in_sequence entry there = among_left (engine.store.sequence ++ engine.store.unsequence) engine.outgoing (listed
        entry)
        (among_left engine.store.sequence engine.store.unsequence (listed entry)
        (subst (Among (listed entry)) are.sequence (among_map listed old.sequence entry there)))

    in_unsequence : (entry : FileEntry) → Among entry old.unsequence → Among (listed entry) (all_files engine)
    in_unsequence entry there = among_left (engine.store.sequence ++ engine.store.unsequence) engine.outgoing (listed
        entry)
        (among_right engine.store.sequence engine.store.unsequence (listed entry)
        (subst (Among (listed entry)) are.unsequence (among_map listed old.unsequence entry there)))

    pub sent_out : AreSentOut files old new → AreFilesOf new known (ended_flush flush others (state_files files) engine)
    sent_out sent = record {
      sequence = ap (map listed) sent.sequence ∙ are.sequence;
      unsequence = ap (map listed) sent.unsequence ∙ are.unsequence;
      outgoing = ap (map outgoing_file) sent.outgoing ∙ map-append outgoing_file old.outgoing (map outgoing_of (all_of files))
          ∙ (λ i. are.outgoing i ++ leaving_all (all_of files) i);
      rights = rights_match are;
      entries_in_sequence = moved IsKnown old.sequence new.sequence sent.sequence
          (still_known old.sequence in_sequence are.entries_in_sequence);
      entries_in_unsequence = moved IsKnown old.unsequence new.unsequence sent.unsequence
          (still_known old.unsequence in_unsequence are.entries_in_unsequence);
    }

    module _ (all : AreAllThere job files) (oldest : FrozenContent) (newer : List FrozenContent)
        (frozen : engine.store.frozen ≡ oldest ∷ newer) (born : oldest.born ≡ job.born.0) where
      from_one : (n : ℕ) → Among n (drawn_by flush) → 1 ≤ n
      from_one = drawn_from_one outside engine flush others stored out.out

      -- a new file, as the record of the flush names it
      as_recorded : (o : Option ℕ) (list : List File) → ((n : ℕ) → o ≡ Some n → 1 ≤ n)
          → list ≡ map (λ n. record { number = n; born = job.born.0 }) (if_some o)
          → list ≡ new_file (number_or_none o).0 oldest.born
      as_recorded o list some is = is
          ∙ ap (λ b. map (λ n. record { number = n; born = b }) (if_some o)) (sym born)
          ∙ sym (new_file_is o oldest.born some)

      first : map (λ f. listed f.entry) (if_some files.sequence) ≡ new_file (number_or_none flush.sequence).0
          oldest.born
      first = as_recorded flush.sequence (map (λ f. listed f.entry) (if_some files.sequence))
          (λ n is. from_one n (among_left (if_some flush.sequence) (if_some flush.unsequence) n
          (number_there flush.sequence n is)))
          (one_file job.sequence files.sequence job.born.0 all.sequence (λ f is.
          let known = drawn_sequence store job files flush of_job out.of.sequence out.of.unsequence f is in
          (known.drawn, known.born_is))
          ∙ ap (λ o. map (λ n. record { number = n; born = job.born.0 }) (if_some o)) (sym out.of.sequence))

      second : map (λ f. listed f.entry) (if_some files.unsequence)
          ≡ new_file (number_or_none flush.unsequence).0 oldest.born
      second = as_recorded flush.unsequence (map (λ f. listed f.entry) (if_some files.unsequence))
          (λ n is. from_one n (among_right (if_some flush.sequence) (if_some flush.unsequence) n
          (number_there flush.unsequence n is)))
          (one_file job.unsequence files.unsequence job.born.0 all.unsequence (λ f is.
          let known = drawn_unsequence store job files flush of_job out.of.sequence out.of.unsequence f is in
          (known.drawn, known.born_is))
          ∙ ap (λ o. map (λ n. record { number = n; born = job.born.0 }) (if_some o)) (sym out.of.unsequence))

      -- the list of a space with its new file behind it
      joined : (before later : List FileEntry) (part : List NewFile) (listed_before : List File)
          → later ≡ before ++ map (λ f. f.entry) part → map listed before ≡ listed_before
          → map listed later ≡ listed_before ++ map (λ f. listed f.entry) part
      joined before later part listed_before is are = ap (map listed) is
          ∙ map-append listed before (map (λ (f : NewFile). f.entry) part) ∙ (λ i. are i ++ listed_all part i)

      pub stand_last : StandLast files old new → AreFilesOf new known (committed_flush flush others engine)
      stand_last last = record {
        sequence = joined old.sequence new.sequence (if_some files.sequence) engine.store.sequence last.sequence
            are.sequence
            ∙ ap (λ list. engine.store.sequence ++ list) first ∙ sym (subst (λ pairs. (flush_oldest
            (number_or_none flush.sequence).0 (number_or_none flush.unsequence).0 pairs engine.store).sequence
            ≡ engine.store.sequence ++ new_file (number_or_none flush.sequence).0 oldest.born) (sym frozen) refl);
        unsequence = joined old.unsequence new.unsequence (if_some files.unsequence) engine.store.unsequence
            last.unsequence are.unsequence
            ∙ ap (λ list. engine.store.unsequence ++ list) second ∙ sym (subst (λ pairs. (flush_oldest
            (number_or_none flush.sequence).0 (number_or_none flush.unsequence).0 pairs engine.store).unsequence
            ≡ engine.store.unsequence ++ new_file (number_or_none flush.unsequence).0 oldest.born) (sym frozen) refl);
        outgoing = ap (map outgoing_file) last.outgoing ∙ are.outgoing ∙ sym (append-nil engine.outgoing);
        rights = rights_match are;
        entries_in_sequence = moved IsKnown (old.sequence ++ map (λ f. f.entry) (if_some files.sequence)) new.sequence
            last.sequence (each_append IsKnown old.sequence (map (λ f. f.entry) (if_some files.sequence))
            (still_known old.sequence in_sequence are.entries_in_sequence)
            (new_known (if_some files.sequence)
            (among_left (if_some files.sequence) (if_some files.unsequence))));
        entries_in_unsequence = moved IsKnown (old.unsequence ++ map (λ f. f.entry) (if_some files.unsequence))
            new.unsequence
            last.unsequence (each_append IsKnown old.unsequence (map (λ f. f.entry) (if_some files.unsequence))
            (still_known old.unsequence in_unsequence are.entries_in_unsequence)
            (new_known (if_some files.unsequence)
            (among_right (if_some files.sequence) (if_some files.unsequence))));
      }

  -- tokens go on to tell what is kept
  pub tell_on : TellBytes files → TellTheirBytes old outside.kept → TellTheirBytes new (kept_with files outside.kept)
  tell_on tells told = of_each (drawn_by flush) files old new come
      (λ n file. (file.name.number ≡ n) × (file.name.bytes ≡ kept_bytes (kept_with files outside.kept) n))
      (λ n never. others_tell n never (kept_file n old) (told n))
      (each_from_among _ (all_of files) (λ file there.
      let known = each_among (OfJob store job files flush of_job out.of.sequence out.of.unsequence) (all_of files) file
      these there in
      let has = each_among (λ f. HasPart (told_after_flush flush files outside.told (file_number f)) f) (all_of files) file
      (each_told job outside engine flush others stored out store files of_job tells) there in (
        known.named,
        has.tells ∙ sym (kept_new files outside.kept file has.bytes
            (files_differ job outside engine flush others stored out store files of_job) there has.tells),
      )))
    where
      others_tell : (n : ℕ) → (Among n (drawn_by flush) → ⊥) → (found : Option KeptFile)
          → IfSome found (λ file. (file.name.number ≡ n) × (file.name.bytes ≡ kept_bytes outside.kept n))
          → IfSome found
          (λ file. (file.name.number ≡ n) × (file.name.bytes ≡ kept_bytes (kept_with files outside.kept) n))
      others_tell n never None tells = tt
      others_tell n never (Some file) tells = (
        tells.0,
        tells.1 ∙ sym (kept_other files outside.kept n (λ among. never
            (drawn_number store job files flush of_job out.of.sequence out.of.unsequence n among))),
      )
