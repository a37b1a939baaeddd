-- A flush with its files can be committed.
use Rattle.std.proofs.Common.{◌≡◌, ℕ, ◌≤◌, false, List, [], ◌∷◌, ◌++◌, map, Option, None, Some, inl, inr, ⊎_elim}
use Rattle.std.proofs.Common.{ap, arith, refl, sym, subst, ◌∙◌}
use Rattle.std.specs.List.{AllByRecursion as Each, flat_map}
use Rattle.std.specs.Option.{option_map}
use Rattle.std.specs.Prelude.{◌<◌, ◌==◌, ◌↔◌, cond, is_some, nat_eq}
use Rattle.std.proofs.lemmas.Bool.{eq-eqb, false≢true}
use Rattle.std.proofs.lemmas.Bool.Decides.{nat_tests}
use Rattle.std.proofs.lemmas.List.{map-append}
use Rattle.tsdb_base.specs.declared.ids.FileNumber.{FileNumber}
use Rattle.tsdb_base.specs.declared.ids.Stamp.{Stamp}
use Rattle.tsdb_tasks.proofs.Stored.{drawn_sequence, drawn_unsequence, new_kept, number_there, part_of_sequence}
use Rattle.tsdb_tasks.proofs.Stored.{part_of_unsequence}
use Rattle.tsdb_tasks.proofs.Stored.{at_sequence, at_unsequence, stored_with, told_sequence, told_unsequence}
use Rattle.tsdb_tasks.specs.Files.{AreAllThere, AreFilesOfJob, IsOutAs, NewFile, NewFiles, TellBytes, all_of}
use Rattle.tsdb_tasks.specs.Files.{known_entry}
use Rattle.tsdb_tasks.specs.Files.{kept_with, known_with, file_number, state_files, told_after_flush, with_files}
use Rattle.tsdb_fileset.specs.StateOfFiles.{listed}
use Rattle.tsdb_state.proofs.ImageLemmas.Storing.{end_flush_stored}
use Rattle.tsdb_state.specs.StoredEngine.{IsKeptWhole, built_files}
use Rattle.tsdb_compactions.specs.FlushJob.{FlushJob}
use Rattle.tsdb_fileset.proofs.Counts.{counted}
use Rattle.tsdb_base.proofs.Lists.{among_left, among_right, any_among, count_append, each_among, each_append}
use Rattle.tsdb_base.proofs.Lists.{each_left}
use Rattle.tsdb_base.proofs.Lists.{each_right, with_one_is}
use Rattle.tsdb_base.specs.Lists.{Among, EachPair, IsWithOne, count, if_some}
use Rattle.tsdb_state.specs.Places.{Content}
use Rattle.tsdb_memory.specs.Flushes.{CanCommit}
use Rattle.tsdb_memory.specs.LogState.{IsStoredIn, Outside}
use Rattle.tsdb_memory.proofs.Counts.{among_either}
use Rattle.tsdb_memory.proofs.Frozen.{image_of}
use Rattle.tsdb_memory.specs.Least.{IsLeastOf}
use Rattle.tsdb_memory.specs.StateOfMemory.{file_borns}
use Rattle.tsdb_outside.specs.Files.{Store}
use Rattle.tsdb_state.specs.Jobs.{Describes, drawn_by}
use Rattle.tsdb_state.proofs.Numbering.{count_with_one}
use Rattle.tsdb_state.specs.Records.{flush_oldest, new_file}
use Rattle.tsdb_state.specs.State as state
use Rattle.tsdb_state.specs.State.{EngineState, KnownFiles, File, FrozenContent, StoreState, ToldContents}
use Rattle.tsdb_state.specs.Steps.{EndsFlush, IsBuilt, committed_flush, ended_flush, number_or_none}

abbrev pub plain : Option FileNumber → Option ℕ
plain number = option_map (λ (n : FileNumber). n.0) number

some_is : (a b : ℕ) → Some a ≡ Some b → a ≡ b
some_is a b same = cc

-- ---- where there is a file for each drawn number

pub one_file : (number : Option FileNumber) (file : Option NewFile) (born : ℕ) → is_some number ≡ is_some file
    → ((f : NewFile) → file ≡ Some f → (plain number ≡ Some (file_number f)) × (f.entry.born.0 ≡ born))
    → map (λ f. listed f.entry) (if_some file) ≡ map (λ n. record { number = n; born = born }) (if_some (plain number))
one_file None None born all of_file = refl
one_file None (Some f) born all of_file = absurd (false≢true all)
one_file (Some n) None born all of_file = absurd (false≢true (sym all))
one_file (Some n) (Some f) born all of_file =
    let known = of_file f refl in
    let same : file_number f ≡ n.0 = some_is (file_number f) n.0 (sym known.0) in
    λ i. record { number = same i; born = known.1 i } ∷ []

is_built : (told : ToldContents) (known : KnownFiles) (number : Option FileNumber) (file : Option NewFile) (content : Content)
    → is_some number ≡ is_some file
    → ((f : NewFile) → file ≡ Some f → (plain number ≡ Some (file_number f)) × (told (file_number f) ≡ content)
    × Describes (known (file_number f)) content)
    → IsBuilt told known (plain number) content
is_built told known None None content all of_file = tt
is_built told known None (Some f) content all of_file = absurd (false≢true all)
is_built told known (Some n) None content all of_file = absurd (false≢true (sym all))
is_built told known (Some n) (Some f) content all of_file =
    let has = of_file f refl in
    subst (λ (o : Option ℕ). IsBuilt told known o content) (sym has.0) (has.1, has.2)

module _ (store : Store) (job : FlushJob) (files : NewFiles) (flush : state.FlushState) (others : List state.FlushState)
    (engine : EngineState) (out : IsOutAs job flush others engine) (of_job : AreFilesOfJob store job files)
    (all : AreAllThere job files) where
  pub all_there : state_files files ≡ built_files flush
  all_there = map-append (λ (f : NewFile). listed f.entry) (if_some files.sequence) (if_some files.unsequence)
      ∙ (λ i. first i ++ second i)
      ∙ sym (map-append as_built (if_some (plain job.sequence)) (if_some (plain job.unsequence)))
      ∙ (λ i. map (λ n. record { number = n; born = sym out.of.born i })
      (if_some (sym out.of.sequence i) ++ if_some (sym out.of.unsequence i)))
    where
      as_built : ℕ → File
      as_built n = record { number = n; born = job.born.0 }

      first : map (λ f. listed f.entry) (if_some files.sequence) ≡ map as_built (if_some (plain job.sequence))
      first = one_file job.sequence files.sequence job.born.0 all.sequence (λ f is.
          let known = drawn_sequence store job files flush of_job out.of.sequence out.of.unsequence f is in
          (known.drawn, known.born_is))

      second : map (λ f. listed f.entry) (if_some files.unsequence) ≡ map as_built (if_some (plain job.unsequence))
      second = one_file job.unsequence files.unsequence job.born.0 all.unsequence (λ f is.
          let known = drawn_unsequence store job files flush of_job out.of.sequence out.of.unsequence f is in
          (known.drawn, known.born_is))

  pub can_commit : (outside : Outside) (stored : IsStoredIn outside engine) → TellBytes files
      → (oldest : FrozenContent) (newer : List FrozenContent) (least : Option Stamp) → engine.store.frozen ≡ oldest ∷ newer
      → oldest.born ≡ job.born.0 → IsLeastOf least (file_borns (committed_flush flush others engine).store)
      → CanCommit (number_or_none flush.sequence) (number_or_none flush.unsequence) least
      (with_files flush files outside) engine flush others
  can_commit outside stored tells oldest newer least are born is_least = record {
    commits = record {
      out = out.out;
      oldest = oldest;
      newer = newer;
      are = are;
      born = born ∙ sym out.of.born;
      sequence = subst (λ (o : Option ℕ). IsBuilt (told_after_flush flush files outside.told) (known_with files outside.known)
          o flush.pair.sequence) (sym out.of.sequence)
          (is_built (told_after_flush flush files outside.told) (known_with files outside.known) job.sequence files.sequence
          flush.pair.sequence all.sequence (λ f is. (
            (drawn_sequence store job files flush of_job out.of.sequence out.of.unsequence f is).drawn,
            told_sequence job outside engine flush others stored out store files of_job tells f is,
            subst (λ entry. Describes entry flush.pair.sequence)
                (sym (at_sequence job outside engine flush others stored out store files of_job known_entry known_entry
                outside.known f is))
                (part_of_sequence job outside engine flush others stored out store files of_job tells f is).describes,
          )));
      unsequence = subst (λ (o : Option ℕ). IsBuilt (told_after_flush flush files outside.told) (known_with files
          outside.known) o flush.pair.unsequence) (sym out.of.unsequence)
          (is_built (told_after_flush flush files outside.told) (known_with files outside.known) job.unsequence
          files.unsequence flush.pair.unsequence all.unsequence (λ f is. (
            (drawn_unsequence store job files flush of_job out.of.sequence out.of.unsequence f is).drawn,
            told_unsequence job outside engine flush others stored out store files of_job tells f is,
            subst (λ entry. Describes entry flush.pair.unsequence)
                (sym (at_unsequence job outside engine flush others stored out store files of_job known_entry
                known_entry
                outside.known f is))
                (part_of_unsequence job outside engine flush others stored out store files of_job tells f is).describes,
          )));
    };
    numbers = refl;
    kept = subst (Each (IsKeptWhole (kept_with files outside.kept) (told_after_flush flush files outside.told))) all_there
        (new_kept job outside engine flush others stored out store files of_job tells);
    least = is_least;
  }

-- ---- a flush that ends without its record

one_count : (n : ℕ) (number : Option FileNumber) (file : Option NewFile)
    → ((f : NewFile) → file ≡ Some f → plain number ≡ Some (file_number f))
    → count n (map file_number (if_some file)) ≤ count n (if_some (plain number))
one_count n number None of_file = omega arith
one_count n number (Some f) of_file = subst (λ (o : Option ℕ). count n (file_number f ∷ []) ≤ count n (if_some o))
    (sym (of_file f refl)) (omega arith)

numbers_as : (files : List NewFile)
    → map (λ (f : File). f.number) (map (λ (f : NewFile). listed f.entry) files) ≡ map file_number files
numbers_as [] = refl
numbers_as (file ∷ files) = ap (λ rest. file_number file ∷ rest) (numbers_as files)

module _ (store : Store) (job : FlushJob) (files : NewFiles) (flush : state.FlushState) (others : List state.FlushState)
    (engine : EngineState) (out : IsOutAs job flush others engine) (of_job : AreFilesOfJob store job files) where
  pub ends : EndsFlush flush others (state_files files) engine
  ends = record { out = out.out; files = few }
    where
      few : (n : ℕ) → count n (map (λ (f : File). f.number) (state_files files)) ≤ count n (drawn_by flush)
      few n = omega (
        arith,
        ap (count n) (numbers_as (all_of files)),
        ap (count n) (map-append file_number (if_some files.sequence) (if_some files.unsequence)),
        count_append n (map file_number (if_some files.sequence)) (map file_number (if_some files.unsequence)),
        one_count n job.sequence files.sequence (λ f is.
            (drawn_sequence store job files flush of_job out.of.sequence out.of.unsequence f is).drawn),
        one_count n job.unsequence files.unsequence (λ f is.
            (drawn_unsequence store job files flush of_job out.of.sequence out.of.unsequence f is).drawn),
        ap (λ o. count n (if_some o)) out.of.sequence,
        ap (λ o. count n (if_some o)) out.of.unsequence,
        count_append n (if_some flush.sequence) (if_some flush.unsequence),
      )

  pub ended_stored : (outside : Outside) → IsStoredIn outside engine → TellBytes files
      → IsStoredIn (with_files flush files outside) (ended_flush flush others (state_files files) engine)
  ended_stored outside stored tells = end_flush_stored outside.items (with_files flush files outside).kept
      (with_files flush files outside).told (with_files flush files outside).known engine
      (stored_with job outside engine flush others stored out store files of_job) flush others (state_files files) ends
      (new_kept job outside engine flush others stored out store files of_job tells)

-- ---- the least born of the listed files after the commit

-- a file of a record, where its number is drawn
pub new_file_is : (o : Option ℕ) (born : ℕ) → ((n : ℕ) → o ≡ Some n → 1 ≤ n)
    → new_file (number_or_none o).0 born ≡ map (λ n. record { number = n; born = born }) (if_some o)
new_file_is None born some = refl
new_file_is (Some n) born some = ap (λ b. cond b [] (record { number = n; born = born } ∷ [])) (not_zero n (some n
    refl))
  where
    not_zero : (n : ℕ) → 1 ≤ n → (n == 0) ≡ false
    not_zero n some = grind (arith, nat_tests)

none_moved : (a b c d : List ℕ) → (a ++ b) ++ (c ++ d) ≡ [] → (a ++ c) ++ (b ++ d) ≡ []
none_moved [] [] [] [] none = refl
none_moved (x ∷ a) b c d none = absurd cc
none_moved [] (x ∷ b) c d none = absurd cc
none_moved [] [] (x ∷ c) d none = absurd cc
none_moved [] [] [] (x ∷ d) none = absurd cc

among_moved : (a b c d : List ℕ) (n : ℕ) → Among n ((a ++ b) ++ (c ++ d)) → Among n ((a ++ c) ++ (b ++ d))
among_moved a b c d n among = ⊎_elim
    (λ first. ⊎_elim (λ h. among_left (a ++ c) (b ++ d) n (among_left a c n h))
    (λ h. among_right (a ++ c) (b ++ d) n (among_left b d n h)) (among_either a b n first))
    (λ second. ⊎_elim (λ h. among_left (a ++ c) (b ++ d) n (among_right a c n h))
    (λ h. among_right (a ++ c) (b ++ d) n (among_right b d n h)) (among_either c d n second))
    (among_either (a ++ b) (c ++ d) n among)

least_moved : (least : Option Stamp) (a b c d : List ℕ) → IsLeastOf least ((a ++ b) ++ (c ++ d))
    → IsLeastOf least ((a ++ c) ++ (b ++ d))
least_moved None a b c d is = none_moved a b c d is
least_moved (Some least) a b c d is = (
  among_moved a b c d least.0 is.0,
  let P = λ (born : ℕ). least.0 ≤ born in
      let old = each_left P (a ++ b) (c ++ d) is.1 in
      let new = each_right P (a ++ b) (c ++ d) is.1 in
      each_append P (a ++ c) (b ++ d) (each_append P a c (each_left P a b old) (each_left P c d new))
      (each_append P b d (each_right P a b old) (each_right P c d new)),
)

abbrev born_of : File → ℕ
born_of file = file.born

born_each : (o : Option ℕ) (born : ℕ)
    → map (λ (n : ℕ). born) (if_some o) ≡ map born_of (map (λ n. record { number = n; born = born }) (if_some o))
born_each None born = refl
born_each (Some n) born = refl

pub least_after : (engine : EngineState) (flush : state.FlushState) (others : List state.FlushState) (born : ℕ)
    (oldest : FrozenContent) (newer : List FrozenContent) (least : Option Stamp)
    → ((n : ℕ) → Among n (drawn_by flush) → 1 ≤ n) → engine.store.frozen ≡ oldest ∷ newer → oldest.born ≡ born
    → IsLeastOf least (file_borns engine.store ++ map (λ n. born) (drawn_by flush))
    → IsLeastOf least (file_borns (committed_flush flush others engine).store)
least_after engine flush others born oldest newer least some are is_born is =
    subst (λ frozen. IsLeastOf least (file_borns (flush_oldest (number_or_none flush.sequence).0
    (number_or_none flush.unsequence).0 frozen engine.store))) (sym are)
    (subst (IsLeastOf least) lists (least_moved least (map born_of engine.store.sequence)
    (map born_of engine.store.unsequence) (borns flush.sequence) (borns flush.unsequence)
    (subst (IsLeastOf least) olds is)))
  where
    borns : Option ℕ → List ℕ
    borns o = map (λ (n : ℕ). born) (if_some o)

    olds : file_borns engine.store ++ map (λ n. born) (drawn_by flush)
        ≡ (map born_of engine.store.sequence ++ map born_of engine.store.unsequence)
        ++ (borns flush.sequence ++ borns flush.unsequence)
    olds = λ i. map-append born_of engine.store.sequence engine.store.unsequence i
        ++ map-append (λ (n : ℕ). born) (if_some flush.sequence) (if_some flush.unsequence) i

    new_borns : (o : Option ℕ) → ((n : ℕ) → o ≡ Some n → 1 ≤ n)
        → borns o ≡ map born_of (new_file (number_or_none o).0 oldest.born)
    new_borns o some = born_each o born
        ∙ ap (λ b. map born_of (map (λ n. record { number = n; born = b }) (if_some o))) (sym is_born)
        ∙ ap (map born_of) (sym (new_file_is o oldest.born some))

    lists : (map born_of engine.store.sequence ++ borns flush.sequence)
        ++ (map born_of engine.store.unsequence ++ borns flush.unsequence)
        ≡ map born_of ((engine.store.sequence ++ new_file (number_or_none flush.sequence).0 oldest.born)
        ++ (engine.store.unsequence ++ new_file (number_or_none flush.unsequence).0 oldest.born))
    lists = (λ i. (map born_of engine.store.sequence ++ new_borns flush.sequence first i)
        ++ (map born_of engine.store.unsequence ++ new_borns flush.unsequence second i))
        ∙ (λ i. sym (map-append born_of engine.store.sequence (new_file (number_or_none flush.sequence).0 oldest.born))
        i
        ++ sym (map-append born_of engine.store.unsequence
        (new_file (number_or_none flush.unsequence).0 oldest.born)) i)
        ∙ sym (map-append born_of (engine.store.sequence ++ new_file (number_or_none flush.sequence).0 oldest.born)
        (engine.store.unsequence ++ new_file (number_or_none flush.unsequence).0 oldest.born))
      where
        first : (n : ℕ) → flush.sequence ≡ Some n → 1 ≤ n
        first n is = some n (among_left (if_some flush.sequence) (if_some flush.unsequence) n
            (number_there flush.sequence n is))

        second : (n : ℕ) → flush.unsequence ≡ Some n → 1 ≤ n
        second n is = some n (among_right (if_some flush.sequence) (if_some flush.unsequence) n
            (number_there flush.unsequence n is))

-- a drawn number is a number of a file
pub drawn_from_one : (outside : Outside) (engine : EngineState) (flush : state.FlushState) (others : List state.FlushState)
    → IsStoredIn outside engine → IsWithOne flush others engine.flushes → (n : ℕ) → Among n (drawn_by flush) → 1 ≤ n
drawn_from_one outside engine flush others stored out n among =
    (stored.order.numbers.range n (omega (
      arith,
      counted n (drawn_by flush) (any_among (nat_eq n) (drawn_by flush) n among (eq-eqb n n refl)),
      count_append n (flat_map drawn_by engine.flushes) (map (λ (c : state.Compaction). c.output) engine.compactions),
      count_with_one drawn_by n flush others engine.flushes out,
    ))).0

-- ---- the pair of a flush that is out

pub frozen_is_oldest : (job : FlushJob) (outside : Outside) (engine : EngineState) (flush : state.FlushState)
    (others : List state.FlushState) (oldest : FrozenContent) (newer : List FrozenContent) → IsStoredIn outside engine
    → IsOutAs job flush others engine → engine.store.frozen ≡ oldest ∷ newer
    → (oldest.born ≡ job.born.0) ↔ Among job.born.0 (map (λ (pair : FrozenContent). pair.born) engine.store.frozen)
frozen_is_oldest job outside engine flush others oldest newer stored out are = (there, back)
  where
    borns : List FrozenContent → List ℕ
    borns pairs = map (λ (pair : FrozenContent). pair.born) pairs

    there : oldest.born ≡ job.born.0 → Among job.born.0 (borns engine.store.frozen)
    there is = subst (λ pairs. Among job.born.0 (borns pairs)) (sym are) (inl is)

    rises : EachPair (λ (pair later : FrozenContent). pair.born < later.born) (oldest ∷ newer)
    rises = subst (EachPair (λ (pair later : FrozenContent). pair.born < later.born)) are
        stored.order.store.stamps.frozen_rise

    least : flush.born ≤ oldest.born
    least = (subst (Each (λ (pair : FrozenContent). flush.born ≤ pair.born)) are
        (with_one_is _ flush others engine.flushes out.out stored.order.flushes).oldest).0

    back : Among job.born.0 (borns engine.store.frozen) → oldest.born ≡ job.born.0
    back among = by (subst (λ pairs. Among job.born.0 (borns pairs)) are among)
      where
        by : Among job.born.0 (borns (oldest ∷ newer)) → oldest.born ≡ job.born.0
        by (inl is) = is
        by (inr behind) =
            let image = image_of (λ (pair : FrozenContent). pair.born) newer job.born.0 behind in
            let above = each_among (λ (later : FrozenContent). oldest.born < later.born) newer image.element rises.0
            image.among in
            absurd (omega (arith, above, image.is, least, out.of.born))

pub due_is_oldest : (outside : Outside) (engine : EngineState) (upto : ℕ) (oldest : FrozenContent) (newer : List
    FrozenContent)
    → IsStoredIn outside engine → engine.store.frozen ≡ oldest ∷ newer
    → (oldest.born ≤ upto) ↔ ((pair : FrozenContent) × Among pair engine.store.frozen × (pair.born ≤ upto))
due_is_oldest outside engine upto oldest newer stored are = (
  λ due. (oldest, subst (Among oldest) (sym are) (inl refl), due),
  λ some. by some.0 (subst (Among some.0) are some.1) some.2,
)
  where
    rises : EachPair (λ (pair later : FrozenContent). pair.born < later.born) (oldest ∷ newer)
    rises = subst (EachPair (λ (pair later : FrozenContent). pair.born < later.born)) are
        stored.order.store.stamps.frozen_rise

    by : (pair : FrozenContent) → Among pair (oldest ∷ newer) → pair.born ≤ upto → oldest.born ≤ upto
    by pair (inl is) due = subst (λ (p : FrozenContent). p.born ≤ upto) (sym is) due
    by pair (inr behind) due = omega (
      arith,
      due,
      each_among (λ (later : FrozenContent). oldest.born < later.born) newer pair rises.0 behind,
    )
