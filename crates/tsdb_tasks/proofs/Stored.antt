-- An engine is stored with the files that were built for a flush that is out.
use Rattle.std.proofs.Common.{◌≡◌, ◌≢◌, ℕ, ◌+◌, ◌≤◌, List, [], ◌∷◌, ◌++◌, map, Option, None, Some, inl}
use Rattle.std.proofs.Common.{ap, arith, refl, sym, subst, ◌∙◌}
use Rattle.std.specs.List.{AllByRecursion as Each}
use Rattle.std.specs.Option.{option_map}
use Rattle.std.specs.Prelude.{◌↔◌, IsSome, nat_eq}
use Rattle.std.specs.List.{flat_map}
use Rattle.std.proofs.lemmas.Bool.{eq-eqb}
use Rattle.std.proofs.lemmas.List.{map-append}
use Rattle.tsdb_base.specs.declared.ids.FileNumber.{FileNumber}
use Rattle.tsdb_base.specs.declared.ids.Space.TheVariants.{Sequence, Unsequence}
use Rattle.tsdb_tasks.proofs.Built.{HasPart, IsDrawn, has_part, is_drawn}
use Rattle.tsdb_tasks.proofs.Doubts.{told_elsewhere}
use Rattle.tsdb_tasks.proofs.Numbers.{at_itself, at_other, kept_new, kept_other}
use Rattle.tsdb_tasks.specs.Files.{AreFilesOfJob, IsOfPart, IsOutAs, NewFile, NewFiles, TellBytes, all_of, at_file}
use Rattle.tsdb_tasks.specs.Files.{kept_with, known_entry, known_with, file_number, built_numbers, state_files}
use Rattle.tsdb_tasks.specs.Files.{told_after_flush}
use Rattle.tsdb_tasks.specs.Files.{with_files}
use Rattle.tsdb_fileset.specs.StateOfFiles.{listed}
use Rattle.tsdb_state.proofs.ImageLemmas.Kept.{whole_as}
use Rattle.tsdb_state.specs.StoredEngine.{IsKeptWhole, kept_bytes}
use Rattle.tsdb_compactions.specs.FlushJobs.{job_part}
use Rattle.tsdb_compactions.specs.FlushJob.{FlushJob}
use Rattle.tsdb_fileset.proofs.Counts.{counted}
use Rattle.tsdb_base.proofs.Lists.{among_left, among_map, among_right, any_among, count_append, each_among}
use Rattle.tsdb_base.proofs.Lists.{each_append}
use Rattle.tsdb_base.proofs.Lists.{each_from_among, each_left, each_map, each_right}
use Rattle.tsdb_base.specs.Lists.{Among, EachPair, count, if_some}
use Rattle.tsdb_state.specs.Places.{PointPlace}
use Rattle.tsdb_memory.specs.LogState.{IsStoredIn, Outside}
use Rattle.tsdb_model.specs.World.{World}
use Rattle.tsdb_memory.proofs.Frozen.{image_of}
use Rattle.tsdb_outside.specs.Files.{Store}
use Rattle.tsdb_state.proofs.Fresh.{count_here}
use Rattle.tsdb_state.proofs.Numbering.{count_with_one}
use Rattle.tsdb_state.proofs.Told.{value_same}
use Rattle.tsdb_state.specs.Jobs.{drawn_by}
use Rattle.tsdb_state.specs.Order.{all_files}
use Rattle.tsdb_state.specs.Records as records
use Rattle.tsdb_state.specs.State as state
use Rattle.tsdb_state.specs.State.{EngineState, File}
use Rattle.tsdb_state.specs.Worlds.{StandsFor, value_at_place}

-- a file among the new ones is that of a part
file_of : (P : NewFile → Type 0) (o : Option NewFile) → ((file : NewFile) → o ≡ Some file → P file) → Each P (if_some o)
file_of P None all = tt
file_of P (Some file) all = (all file refl, tt)

pub number_there : (o : Option ℕ) (n : ℕ) → o ≡ Some n → Among n (if_some o)
number_there o n is = subst (λ (p : Option ℕ). Among n (if_some p)) (sym is) (inl refl)

module _ (store : Store) (job : FlushJob) (files : NewFiles) (flush : state.FlushState) (of_job : AreFilesOfJob store job
    files)
    (sequence : flush.sequence ≡ option_map (λ (n : FileNumber). n.0) job.sequence)
    (unsequence : flush.unsequence ≡ option_map (λ (n : FileNumber). n.0) job.unsequence) where
  -- what is known of each new file
  pub drawn_sequence : (file : NewFile) → files.sequence ≡ Some file → IsDrawn store job.born.0 job.sequence file
  drawn_sequence file is = is_drawn store job.born.0 (job_part Sequence job) job.sequence file
      (subst (IsOfPart store job.born.0 (job_part Sequence job) job.sequence) is of_job.sequence)

  pub drawn_unsequence : (file : NewFile) → files.unsequence ≡ Some file → IsDrawn store job.born.0 job.unsequence file
  drawn_unsequence file is = is_drawn store job.born.0 (job_part Unsequence job) job.unsequence file
      (subst (IsOfPart store job.born.0 (job_part Unsequence job) job.unsequence) is of_job.unsequence)

  -- what both say
  pub record OfJob (file : NewFile) : Type 0 where
    pub born_is : file.entry.born.0 ≡ job.born.0
    pub unread : file.token.rights ≡ 0
    pub named : file.token.name.number ≡ file_number file
    pub drawn : Among (file_number file) (drawn_by flush)

  pub each_of_job : Each OfJob (all_of files)
  each_of_job = each_append OfJob (if_some files.sequence) (if_some files.unsequence)
      (file_of OfJob files.sequence (λ file is. let known = drawn_sequence file is in record {
        born_is = known.born_is;
        unread = known.unread;
        named = known.named;
        drawn = among_left (if_some flush.sequence) (if_some flush.unsequence) (file_number file)
            (number_there flush.sequence (file_number file) (sequence ∙ known.drawn));
      }))
      (file_of OfJob files.unsequence (λ file is. let known = drawn_unsequence file is in record {
        born_is = known.born_is;
        unread = known.unread;
        named = known.named;
        drawn = among_right (if_some flush.sequence) (if_some flush.unsequence) (file_number file)
            (number_there flush.unsequence (file_number file) (unsequence ∙ known.drawn));
      }))

  -- the number of a new file was drawn
  pub drawn_number : (n : ℕ) → Among n (built_numbers files) → Among n (drawn_by flush)
  drawn_number n among =
      let image = image_of file_number (all_of files) n among in
      subst (λ m. Among m (drawn_by flush)) image.is (each_among OfJob (all_of files) image.element each_of_job
      image.among).drawn

  -- the new files have different numbers
  pub numbers_differ : ((n : ℕ) → count n (drawn_by flush) ≤ 1) → EachPair (λ a b. file_number a ≢ file_number b) (all_of
      files)
  numbers_differ once = by files.sequence files.unsequence drawn_sequence drawn_unsequence
    where
      apart : (s u : Option ℕ) (n : ℕ) → s ≡ Some n → u ≡ Some n → count n (if_some s ++ if_some u) ≤ 1 → ⊥
      apart s u n first second few =
          let two : count n (n ∷ n ∷ []) ≤ 1 = subst (λ (o : Option ℕ). count n (n ∷ if_some o) ≤ 1) second
          (subst (λ (o : Option ℕ). count n (if_some o ++ if_some u) ≤ 1) first few) in
          omega (arith, two, count_here n (n ∷ []), count_here n [])

      by : (s u : Option NewFile) → ((file : NewFile) → s ≡ Some file → IsDrawn store job.born.0 job.sequence file)
          → ((file : NewFile) → u ≡ Some file → IsDrawn store job.born.0 job.unsequence file)
          → EachPair (λ a b. file_number a ≢ file_number b) (if_some s ++ if_some u)
      by None None first second = tt
      by None (Some u) first second = (tt, tt)
      by (Some s) None first second = (tt, tt)
      by (Some s) (Some u) first second = (
        (
          (λ same. apart flush.sequence flush.unsequence (file_number u)
              (sequence ∙ (first s refl).drawn ∙ ap Some same) (unsequence ∙ (second u refl).drawn)
              (once (file_number u))),
          tt,
        ),
        (tt, tt),
      )

module _ (job : FlushJob) (outside : Outside) (engine : EngineState) (flush : state.FlushState)
    (others : List state.FlushState) (stored : IsStoredIn outside engine) (out : IsOutAs job flush others engine) where
  -- a number that was drawn is that of no file, and stands once among those that were drawn
  pub drawn_once : (n : ℕ) → count n (records.numbers_of (all_files engine)) + count n (drawn_by flush) ≤ 1
  drawn_once n = omega (
    arith,
    stored.order.numbers.differ n,
    count_append n (flat_map drawn_by engine.flushes) (map (λ (c : state.Compaction). c.output) engine.compactions),
    count_with_one drawn_by n flush others engine.flushes out.out,
  )

  pub one_at_most : (n : ℕ) → count n (drawn_by flush) ≤ 1
  one_at_most n = omega (arith, drawn_once n)

  pub not_a_file : (file : File) → Among file (all_files engine) → Among file.number (drawn_by flush) → ⊥
  not_a_file file there among =
      let once = drawn_once file.number in
      let one = counted_in file.number (drawn_by flush) among in
      let other = counted_in file.number (records.numbers_of (all_files engine))
      (among_map (λ (f : File). f.number) (all_files engine) file there) in
      omega (arith, once, one, other)
    where
      counted_in : (n : ℕ) (numbers : List ℕ) → Among n numbers → 1 ≤ count n numbers
      counted_in n numbers among = counted n numbers (any_among (nat_eq n) numbers n among (eq-eqb n n refl))

  module _ (store : Store) (files : NewFiles) (of_job : AreFilesOfJob store job files) where
    pub not_new : (file : File) → Among file (all_files engine) → Among file.number (built_numbers files) → ⊥
    not_new file there among = not_a_file file there
        (drawn_number store job files flush of_job out.of.sequence out.of.unsequence file.number among)

    pub at_others : {X : Type 0} (value late : NewFile → X) (given : ℕ → X) (n : ℕ)
        → (Among n (built_numbers files) → ⊥) → at_file files.unsequence late (at_file files.sequence value given) n ≡
        given n
    at_others value late given n never =
        at_other files.unsequence late (at_file files.sequence value given) n
        (λ among. never (subst (Among n) (sym (map-append file_number (if_some files.sequence) (if_some
        files.unsequence)))
        (among_right (map file_number (if_some files.sequence)) (map file_number (if_some files.unsequence)) n among)))
        ∙ at_other files.sequence value given n
        (λ among. never (subst (Among n) (sym (map-append file_number (if_some files.sequence) (if_some
        files.unsequence)))
        (among_left (map file_number (if_some files.sequence)) (map file_number (if_some files.unsequence)) n among)))

    pub told_same : (file : File) → Among file (all_files engine)
        → outside.told file.number ≡ told_after_flush flush files outside.told file.number
    told_same file there = sym (at_others (λ (f : NewFile). flush.pair.sequence) (λ (f : NewFile).
        flush.pair.unsequence)
        outside.told file.number (not_new file there))

    pub known_same : (file : File) → Among file (all_files engine)
        → outside.known file.number ≡ known_with files outside.known file.number
    known_same file there = sym (at_others known_entry known_entry outside.known file.number (not_new file there))

    -- with the new files the engine is stored
    pub stored_with : IsStoredIn (with_files flush files outside) engine
    stored_with = record {
      named = stored.named;
      good = stored.good;
      replayed = stored.replayed;
      order = told_elsewhere outside.told (told_after_flush flush files outside.told) outside.known
          (known_with files outside.known) stored.named engine stored.order
          (each_from_among _ (all_files engine) told_same)
          (each_from_among _ (engine.store.sequence ++ engine.store.unsequence) (λ file there. known_same file
          (among_left (engine.store.sequence ++ engine.store.unsequence) engine.outgoing file there)));
      whole = each_from_among _ (all_files engine) (λ file there. whole_as (kept_bytes outside.kept)
          (kept_bytes (kept_with files outside.kept)) outside.told (told_after_flush flush files outside.told) file file refl
          (told_same file there)
          (λ bytes is. kept_other files outside.kept file.number (not_new file there) ∙ is)
          (each_among (IsKeptWhole outside.kept outside.told) (all_files engine) file stored.whole there));
      doubt = stored.doubt;
    }

    -- it stands for the same worlds
    pub value_with : (place : PointPlace)
        → value_at_place outside.told engine.store place ≡ value_at_place (told_after_flush flush files outside.told) engine.store place
    value_with place = value_same outside.told (told_after_flush flush files outside.told) engine.store
        (each_from_among _ engine.store.sequence (λ file there. told_same file
        (among_left (engine.store.sequence ++ engine.store.unsequence) engine.outgoing file
        (among_left engine.store.sequence engine.store.unsequence file there))))
        (each_from_among _ engine.store.unsequence (λ file there. told_same file
        (among_left (engine.store.sequence ++ engine.store.unsequence) engine.outgoing file
        (among_right engine.store.sequence engine.store.unsequence file there)))) place

    pub worlds_with : (world : World) → StandsFor outside.told engine.store world
        ↔ StandsFor (with_files flush files outside).told engine.store world
    worlds_with world = (
      λ stands. record { types = stands.types; values = λ place. stands.values place ∙ value_with place },
      λ stands. record { types = stands.types; values = λ place. stands.values place ∙ sym (value_with place) },
    )

    -- the new files have the parts of the flush
    module _ (tells : TellBytes files) where
      pub part_of_sequence : (file : NewFile) → files.sequence ≡ Some file → HasPart flush.pair.sequence file
      part_of_sequence file is = has_part job out.is_job out.of.series out.of.of Sequence store job.sequence file
          flush.pair.sequence out.of.pair.sequence out.is_job.sequence_drawn
          (subst (IsOfPart store job.born.0 (job_part Sequence job) job.sequence) is of_job.sequence)
          (subst (λ (o : Option NewFile). Each (λ (f : NewFile). IsSome f.token.name.bytes) (if_some o)) is
          (each_left _ (if_some files.sequence) (if_some files.unsequence) tells)).0

      pub part_of_unsequence : (file : NewFile) → files.unsequence ≡ Some file → HasPart flush.pair.unsequence file
      part_of_unsequence file is = has_part job out.is_job out.of.series out.of.of Unsequence store job.unsequence file
          flush.pair.unsequence out.of.pair.unsequence out.is_job.unsequence_drawn
          (subst (IsOfPart store job.born.0 (job_part Unsequence job) job.unsequence) is of_job.unsequence)
          (subst (λ (o : Option NewFile). Each (λ (f : NewFile). IsSome f.token.name.bytes) (if_some o)) is
          (each_right _ (if_some files.sequence) (if_some files.unsequence) tells)).0

    pub files_differ : EachPair (λ a b. file_number a ≢ file_number b) (all_of files)
    files_differ = numbers_differ store job files flush of_job out.of.sequence out.of.unsequence one_at_most

    -- what stands at the number of each new file
    pub at_sequence : {X : Type 0} (value late : NewFile → X) (given : ℕ → X) (file : NewFile)
        → files.sequence ≡ Some file
        → at_file files.unsequence late (at_file files.sequence value given) (file_number file) ≡ value file
    at_sequence value late given file is =
        at_other files.unsequence late (at_file files.sequence value given) (file_number file) never
        ∙ ap (λ (o : Option NewFile). at_file o value given (file_number file)) is ∙ at_itself file value given
      where
        apart : Each (λ b. file_number file ≢ file_number b) (if_some files.unsequence)
        apart = (subst (λ (o : Option NewFile). EachPair (λ a b. file_number a ≢ file_number b)
            (if_some o ++ if_some files.unsequence)) is files_differ).0

        never : Among (file_number file) (map file_number (if_some files.unsequence)) → ⊥
        never among =
            let image = image_of file_number (if_some files.unsequence) (file_number file) among in
            each_among (λ b. file_number file ≢ file_number b) (if_some files.unsequence) image.element apart image.among
            (sym image.is)

    pub at_unsequence : {X : Type 0} (value late : NewFile → X) (given : ℕ → X) (file : NewFile)
        → files.unsequence ≡ Some file
        → at_file files.unsequence late (at_file files.sequence value given) (file_number file) ≡ late file
    at_unsequence value late given file is =
        ap (λ (o : Option NewFile). at_file o late (at_file files.sequence value given) (file_number file)) is
        ∙ at_itself file late (at_file files.sequence value given)

    -- what is kept of each new file is known
    pub each_known : Each (λ file. known_with files outside.known (file_number file) ≡ known_entry file) (all_of files)
    each_known = each_append _ (if_some files.sequence) (if_some files.unsequence)
        (file_of _ files.sequence (at_sequence known_entry known_entry outside.known))
        (file_of _ files.unsequence (at_unsequence known_entry known_entry outside.known))

    module _ (tells : TellBytes files) where
      abbrev HasTold : NewFile → Type 0
      HasTold file = HasPart (told_after_flush flush files outside.told (file_number file)) file

      pub told_sequence : (file : NewFile) → files.sequence ≡ Some file
          → told_after_flush flush files outside.told (file_number file) ≡ flush.pair.sequence
      told_sequence file is = at_sequence (λ (f : NewFile). flush.pair.sequence) (λ (f : NewFile).
          flush.pair.unsequence)
          outside.told file is

      pub told_unsequence : (file : NewFile) → files.unsequence ≡ Some file
          → told_after_flush flush files outside.told (file_number file) ≡ flush.pair.unsequence
      told_unsequence file is = at_unsequence (λ (f : NewFile). flush.pair.sequence)
          (λ (f : NewFile). flush.pair.unsequence) outside.told file is

      pub each_told : Each HasTold (all_of files)
      each_told = each_append HasTold (if_some files.sequence) (if_some files.unsequence)
          (file_of HasTold files.sequence (λ file is. subst (λ content. HasPart content file) (sym (told_sequence file
          is))
          (part_of_sequence tells file is)))
          (file_of HasTold files.unsequence (λ file is. subst (λ content. HasPart content file)
          (sym (told_unsequence file is)) (part_of_unsequence tells file is)))

      -- each new file is kept, and has what is told of it
      pub new_kept : Each (IsKeptWhole (kept_with files outside.kept) (told_after_flush flush files outside.told)) (state_files
          files)
      new_kept = each_map (IsKeptWhole (kept_with files outside.kept) (told_after_flush flush files outside.told))
          (λ (file : NewFile). listed file.entry) (all_of files)
          (each_from_among _ (all_of files) (λ file there. let has = each_among HasTold (all_of files) file each_told
          there in
          record {
            bytes = has.bytes;
            tree = has.tree;
            there = kept_new files outside.kept file has.bytes files_differ there has.tells;
            is_tree = has.is_tree;
            is_made = has.is_made;
            is_file = has.is_file;
            content = has.content_is;
          }))
