-- The files after a job was given up are those of the state in which its compaction has ended.
use Rattle.std.proofs.Common.{◌≡◌, ◌≢◌, ℕ, ◌+◌, ◌-◌, ◌≤◌, ◌==◌, Bool, true, false, List, []}
use Rattle.std.proofs.Common.{◌∷◌, ◌++◌, drop, length, map}
use Rattle.std.proofs.Common.{cond, inl, inr, take, Option, Some, None, refl, sym, ap, subst, ◌∙◌, arith}
use Rattle.std.specs.Cmp.{unsigned_Decides}
use Rattle.std.specs.List.{AllByRecursion as Each}
use Rattle.std.specs.Option.{option_map}
use Rattle.std.specs.Prelude.{IfSome, IsSome, slice_range}
use Rattle.std.proofs.lemmas.Bool.{false≢true}
use Rattle.std.proofs.lemmas.List.{map-append}
use Rattle.tsdb_base.specs.declared.ids.Space.{Space}
use Rattle.tsdb_base.specs.declared.ids.Space.TheVariants.{Sequence, Unsequence}
use Rattle.tsdb_tasks.specs.Coming.{outgoing_of}
use Rattle.tsdb_tasks.specs.Files.{NewFile, file_number}
use Rattle.tsdb_tasks.proofs.Taken.{all_counted}
use Rattle.tsdb_tasks.specs.Beginning.{AreBegun, HoldsMore, run_files}
use Rattle.tsdb_tasks.specs.Ending.{GivesUp}
use Rattle.tsdb_tasks.specs.declared.beginning.TakenInputs.{TakenInputs}
use Rattle.tsdb_tasks.specs.declared.finishing.InputRuns.{InputRuns}
use Rattle.tsdb_outside.specs.Files.{NamedFile}
use Rattle.tsdb_tasks.specs.Inputs.{input_numbers}
use Rattle.tsdb_tasks.specs.States.{IsFresh, sent_files}
use Rattle.tsdb_compactions.specs.Jobs.{IsCompactionOf, input_file}
use Rattle.tsdb_compactions.specs.declared.job.Input.{Input}
use Rattle.tsdb_compactions.specs.declared.job.Job.{Job}
use Rattle.tsdb_fileset.specs.StateOfFiles.{AreFilesOf, entry_of, outgoing_file, listed}
use Rattle.tsdb_fileset.proofs.Replaced.{run_parts}
use Rattle.tsdb_fileset.specs.Files.{AreKept, IsOpen, KeptFiles, entries_in, entry_numbers, kept_file, all_numbers}
use Rattle.tsdb_fileset.specs.Places.{KeptFile, file_at, place_of_number}
use Rattle.tsdb_fileset.specs.Replacing.{IsWithin, claim_run, with_claim}
use Rattle.tsdb_base.proofs.Lists.{each_among, each_append, each_from_among, each_left, each_map, each_right}
use Rattle.tsdb_base.proofs.Lists.{each_weaker}
use Rattle.tsdb_base.specs.Lists.{Among, count, if_some}
use Rattle.tsdb_pin.specs.Changes.{fewer_rights, more_rights}
use Rattle.tsdb_plan.specs.declared.entry.FileEntry.{FileEntry}
use Rattle.tsdb_plan.specs.declared.entry.Run.{Run}
use Rattle.tsdb_state.specs.Jobs.{job_inputs}
use Rattle.tsdb_state.specs.Records as records
use Rattle.tsdb_state.specs.State.{Compaction, EngineState, KnownFiles}
use Rattle.tsdb_state.specs.Steps.{began, ended}

-- ---- claims

claims_listed : (claimed : Bool) (entries : List FileEntry)
    → map listed (map (with_claim claimed) entries) ≡ map listed entries
claims_listed claimed [] = refl
claims_listed claimed (entry ∷ entries) = ap (λ rest. listed entry ∷ rest) (claims_listed claimed entries)

pub run_listed : (claimed : Bool) (run : Run) (entries : List FileEntry) → IsWithin run entries
    → map listed (claim_run run claimed entries) ≡ map listed entries
run_listed claimed run entries within =
    let front = take run.first entries in
    let mid = slice_range entries run.first run.end in
    let back = drop run.end entries in
    map-append listed front (map (with_claim claimed) mid ++ back)
    ∙ ap (λ ys. map listed front ++ ys) (map-append listed (map (with_claim claimed) mid) back
    ∙ ap (λ ys. ys ++ map listed back) (claims_listed claimed mid) ∙ sym (map-append listed mid back))
    ∙ sym (map-append listed front (mid ++ back)) ∙ ap (map listed) (run_parts run.first run.end entries within.rises)

run_each : (P : FileEntry → Type 0) (claimed : Bool) → ((entry : FileEntry) → P entry → P (with_claim claimed entry))
    → (run : Run) (entries : List FileEntry) → IsWithin run entries → Each P entries
    → Each P (claim_run run claimed entries)
run_each P claimed step run entries within all =
    let front = take run.first entries in
    let mid = slice_range entries run.first run.end in
    let back = drop run.end entries in
    let parts = subst (Each P) (sym (run_parts run.first run.end entries within.rises)) all in
    let later = each_right P front (mid ++ back) parts in
    each_append P front (map (with_claim claimed) mid ++ back) (each_left P front (mid ++ back) parts)
    (each_append P (map (with_claim claimed) mid) back
    (each_map P (with_claim claimed) mid (each_weaker P (λ entry. P (with_claim claimed entry)) step mid
    (each_left P mid back later))) (each_right P mid back later))

-- ---- files that are listed are kept

pub counted_among : (entries : List FileEntry) (entry : FileEntry) → Among entry entries
    → 1 ≤ count entry.number.0 (entry_numbers entries)
counted_among [] entry among = absurd among
counted_among (e ∷ entries) entry (inl is) =
    let same = (unsigned_Decides e.number.0 entry.number.0).1 (ap (λ (x : FileEntry). x.number.0) is) in
    omega (arith, ap {B = ℕ} (λ b. cond b 1 0) same)
counted_among (e ∷ entries) entry (inr among) =
    let rest = counted_among entries entry among in omega (arith, rest)

pub kept_among : (space : Space) (files : KeptFiles) → AreKept files → (entry : FileEntry)
    → Among entry (entries_in space files) → IsSome (kept_file entry.number.0 files)
kept_among space files kept entry among = by (kept_file entry.number.0 files) refl (one space among)
  where
    one : (space : Space) → Among entry (entries_in space files) → 1 ≤ count entry.number.0 (all_numbers files)
    one Sequence among =
        let some = counted_among files.sequence entry among in
        omega (arith, some, all_counted entry.number.0 files)
    one Unsequence among =
        let some = counted_among files.unsequence entry among in
        omega (arith, some, all_counted entry.number.0 files)

    by : (o : Option KeptFile) → kept_file entry.number.0 files ≡ o → 1 ≤ count entry.number.0 (all_numbers files)
        → IsSome (kept_file entry.number.0 files)
    by None e some = absurd (omega (arith, some, kept entry.number.0, ap (λ f. length (if_some f)) e))
    by (Some file) e some = subst IsSome (sym e) refl

-- so its number is not one whose place is open
not_open : (space : Space) (files : KeptFiles) → AreKept files → (number : ℕ) → IsOpen number files
    → (entry : FileEntry) → Among entry (entries_in space files) → number ≢ entry.number.0
not_open space files kept number open_place entry among same =
    let none : kept_file entry.number.0 files ≡ None =
    ap (λ n. kept_file n files) (sym same) ∙ ap file_at open_place in
    false≢true (subst IsSome none (kept_among space files kept entry among))

pub file_changed : (f : KeptFile → KeptFile) (place : Option (Option KeptFile))
    → file_at (option_map (λ p. option_map f p) place) ≡ option_map f (file_at place)
file_changed f None = refl
file_changed f (Some place) = refl

-- what is known of the file of the entry is what is kept of it
abbrev pub IsKnown : KnownFiles → KeptFiles → FileEntry → Type 0
IsKnown known files entry = IfSome (kept_file entry.number.0 files)
    (λ token. known entry.number.0 ≡ entry_of entry token.series)

leaving_output : (file : Option NewFile) → map outgoing_file (map outgoing_of (if_some file)) ≡ sent_files file
leaving_output None = refl
leaving_output (Some file) = refl

module _ {F S R P : Type 0} where
  -- the rights of the job are given back, of all files but that of its output
  abbrev pub OthersGiveRights : Job F S R P → KeptFiles → KeptFiles → Type 0
  OthersGiveRights job old new = (number : ℕ) → job.output.0 ≢ number → place_of_number number new.places
      ≡ option_map (λ place. option_map (fewer_rights (count number (input_numbers job.inputs))) place)
      (place_of_number number old.places)

  pub same_numbers : (inputs : List (Input F S R P)) → records.numbers_of (map input_file inputs) ≡ input_numbers inputs
  same_numbers [] = refl
  same_numbers (input ∷ inputs) = ap (λ rest. input.number.0 ∷ rest) (same_numbers inputs)

  module _ (job : Job F S R P) (old new : KeptFiles) (known : KnownFiles) (engine : EngineState) (compaction : Compaction)
      (file : Option NewFile) (are : AreFilesOf old known engine) (kept : AreKept old)
      (open_place : IsOpen job.output.0 old) (is : IsCompactionOf job compaction)
      (fresh : IsFresh job.output.0 file engine)
      (here : kept_file job.output.0 new ≡ option_map (λ one. one.token) file)
      (others : OthersGiveRights job old new) where
    abbrev held : List ℕ
    held = records.numbers_of (job_inputs compaction)

    numbers_same : input_numbers job.inputs ≡ held
    numbers_same = sym (same_numbers job.inputs) ∙ ap records.numbers_of (sym is.inputs)

    others_have : (n : ℕ) → job.output.0 ≢ n
        → kept_file n new ≡ option_map (fewer_rights (count n (input_numbers job.inputs))) (kept_file n old)
    others_have n apart = ap file_at (others n apart)
        ∙ file_changed (fewer_rights (count n (input_numbers job.inputs))) (place_of_number n old.places)

    pub rights_are : (n : ℕ) → IfSome (kept_file n new) (λ token. token.rights ≡ engine.rights n - count n held)
    rights_are n = by (job.output.0 == n) refl
      where
        new_one : (o : Option NewFile) → IfSome o (λ one. (file_number one ≡ job.output.0) × (one.token.rights ≡ 0))
            → engine.rights n ≡ 0
            → IfSome (option_map (λ one. one.token) o) (λ token. token.rights ≡ engine.rights n - count n held)
        new_one None of none = tt
        new_one (Some one) of none = of.1 ∙ none_less (engine.rights n) (count n held) none
          where
            none_less : (r k : ℕ) → r ≡ 0 → 0 ≡ r - k
            none_less r k e = omega (arith, e)

        old_one : (o : Option KeptFile) → IfSome o (λ token. token.rights ≡ engine.rights n)
            → IfSome (option_map (fewer_rights (count n (input_numbers job.inputs))) o)
            (λ token. token.rights ≡ engine.rights n - count n held)
        old_one None same = tt
        old_one (Some token) same = λ i. same i - count n (numbers_same i)

        by : (b : Bool) → (job.output.0 == n) ≡ b
            → IfSome (kept_file n new) (λ token. token.rights ≡ engine.rights n - count n held)
        by true e =
            let same : job.output.0 ≡ n = (unsigned_Decides job.output.0 n).0 e in
            let found = ap (λ m. kept_file m new) (sym same) ∙ here in
            subst (λ o. IfSome o (λ token. token.rights ≡ engine.rights n - count n held)) (sym found)
            (new_one file fresh.is (ap engine.rights (sym same) ∙ fresh.unread))
        by false e =
            let apart : job.output.0 ≢ n = λ same. false≢true (sym e ∙ (unsigned_Decides job.output.0 n).1 same) in
            subst (λ o. IfSome o (λ token. token.rights ≡ engine.rights n - count n held)) (sym (others_have n apart))
            (old_one (kept_file n old) (are.rights n))

    pub still_known : (space : Space) → Each (IsKnown known old) (entries_in space old)
        → Each (IsKnown known new) (entries_in space old)
    still_known space all = each_from_among (IsKnown known new) (entries_in space old) (λ entry among.
        subst (λ o. IfSome o (λ token. known entry.number.0 ≡ entry_of entry token.series))
        (sym (others_have entry.number.0 (not_open space old kept job.output.0 open_place entry among)))
        (series_stay entry (kept_file entry.number.0 old)
        (each_among (IsKnown known old) (entries_in space old) entry all among)))
      where
        series_stay : (entry : FileEntry) (o : Option KeptFile)
            → IfSome o (λ token. known entry.number.0 ≡ entry_of entry token.series)
            → IfSome (option_map (fewer_rights (count entry.number.0 (input_numbers job.inputs))) o)
            (λ token. known entry.number.0 ≡ entry_of entry token.series)
        series_stay entry None said = tt
        series_stay entry (Some token) said = said

  pub ended_in_state : (job : Job F S R P) (old new : KeptFiles) (known : KnownFiles) (engine : EngineState)
      (compaction : Compaction) (file : Option NewFile) (are : AreFilesOf old known engine) (kept : AreKept old)
      (open_place : IsOpen job.output.0 old) (is : IsCompactionOf job compaction)
      (fresh : IsFresh job.output.0 file engine) (up : GivesUp old new job file) (others : List Compaction)
      → AreFilesOf new known (ended compaction others (sent_files file) engine)
  ended_in_state job old new known engine compaction file are kept open_place is fresh up others =
      let still = still_known job old new known engine compaction file are kept open_place is fresh up.here up.others in
      record {
        sequence = ap (map listed) up.sequence ∙ are.sequence;
        unsequence = ap (map listed) up.unsequence.is
            ∙ run_listed false up.unsequence.run old.unsequence up.unsequence.within ∙ are.unsequence;
        outgoing = ap (map outgoing_file) up.outgoing ∙ map-append outgoing_file old.outgoing (map outgoing_of (if_some file))
            ∙ (λ i. are.outgoing i ++ leaving_output file i);
        rights = rights_are job old new known engine compaction file are kept open_place is fresh up.here up.others;
        entries_in_sequence = subst (Each (IsKnown known new)) (sym up.sequence)
            (still Sequence are.entries_in_sequence);
        entries_in_unsequence = subst (Each (IsKnown known new)) (sym up.unsequence.is)
            (run_each (IsKnown known new) false (λ entry said. said) up.unsequence.run old.unsequence
            up.unsequence.within (still Unsequence are.entries_in_unsequence));
      }

  pub began_in_state : (name : R → NamedFile) (space : Space) (output : ℕ) (runs : InputRuns) (old new : KeptFiles)
      (known : KnownFiles) (engine : EngineState) (compaction : Compaction) (taken : TakenInputs F S R P)
      → AreFilesOf old known engine → IsWithin runs.unsequence old.unsequence
      → job_inputs compaction ≡ run_files runs old → AreBegun name space output runs old new taken
      → AreFilesOf new known (began compaction engine)
  began_in_state name space output runs old new known engine compaction taken are within inputs begun = record {
    sequence = ap (map listed) (ap (λ f. f.sequence) begun.claimed ∙ more.lists.sequence) ∙ are.sequence;
    unsequence = ap (map listed) late ∙ run_listed true runs.unsequence old.unsequence within ∙ are.unsequence;
    outgoing = ap (map outgoing_file) (ap (λ f. f.outgoing) begun.claimed ∙ more.lists.outgoing) ∙ are.outgoing;
    rights = λ n. subst (λ o. IfSome o (λ token. token.rights
        ≡ engine.rights n + count n (records.numbers_of (job_inputs compaction)))) (sym (found n))
        (counted n (kept_file n old) (are.rights n));
    entries_in_sequence = subst (Each (IsKnown known new))
        (sym (ap (λ f. f.sequence) begun.claimed ∙ more.lists.sequence)) (still old.sequence are.entries_in_sequence);
    entries_in_unsequence = subst (Each (IsKnown known new)) (sym late)
        (run_each (IsKnown known new) true (λ entry said. said) runs.unsequence old.unsequence within
        (still old.unsequence are.entries_in_unsequence));
  }
    where
      more : HoldsMore (input_numbers taken.inputs) old begun.before
      more = begun.all.more

      late : new.unsequence ≡ claim_run runs.unsequence true old.unsequence
      late = ap (λ f. f.unsequence) begun.claimed ∙ ap (claim_run runs.unsequence true) more.lists.unsequence

      found : (n : ℕ)
          → kept_file n new ≡ option_map (more_rights (count n (input_numbers taken.inputs))) (kept_file n old)
      found n = ap (kept_file n) begun.claimed ∙ more.files n

      held_same : input_numbers taken.inputs ≡ records.numbers_of (job_inputs compaction)
      held_same = sym (same_numbers taken.inputs) ∙ ap records.numbers_of (begun.all.are ∙ sym inputs)

      counted : (n : ℕ) (o : Option KeptFile) → IfSome o (λ token. token.rights ≡ engine.rights n)
          → IfSome (option_map (more_rights (count n (input_numbers taken.inputs))) o)
          (λ token. token.rights ≡ engine.rights n + count n (records.numbers_of (job_inputs compaction)))
      counted n None same = tt
      counted n (Some token) same = λ i. same i + count n (held_same i)

      still : (entries : List FileEntry) → Each (IsKnown known old) entries → Each (IsKnown known new) entries
      still entries all = each_weaker (IsKnown known old) (IsKnown known new) (λ entry said.
          subst (λ o. IfSome o (λ token. known entry.number.0 ≡ entry_of entry token.series))
          (sym (found entry.number.0)) (series_stay entry (kept_file entry.number.0 old) said)) entries all
        where
          series_stay : (entry : FileEntry) (o : Option KeptFile)
              → IfSome o (λ token. known entry.number.0 ≡ entry_of entry token.series)
              → IfSome (option_map (more_rights (count entry.number.0 (input_numbers taken.inputs))) o)
              (λ token. known entry.number.0 ≡ entry_of entry token.series)
          series_stay entry None said = tt
          series_stay entry (Some token) said = said
