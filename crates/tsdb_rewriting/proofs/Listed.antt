-- Where the files of a job stand that has begun: at the runs of its plan.
use Rattle.std.proofs.Common.{◌≡◌, ◌⊎◌, ℕ, ◌+◌, ◌-◌, ◌≤◌, zero, suc, true, List, [], ◌∷◌, ◌++◌, length, map, Option}
use Rattle.std.proofs.Common.{ap, arith, inl, inr, refl, sym, subst, ◌∙◌, take, drop}
use Rattle.std.proofs.lemmas.List.{length-drop, length-map, length-take-le, map-append, take-append-drop}
use Rattle.std.specs.Prelude.{IfSome, slice_range}
use Rattle.tsdb_base.specs.declared.ids.Space.{Space}
use Rattle.tsdb_base.specs.declared.ids.Space.TheVariants.{Sequence, Unsequence}
use Rattle.tsdb_serving.proofs.Finished.{run_long}
use Rattle.tsdb_serving.proofs.Given.{once_late}
use Rattle.tsdb_serving.proofs.InRuns.{begins_at, listed_numbers}
use Rattle.tsdb_serving.specs.Finishing.{AreRunsOf, IsRunOf}
use Rattle.tsdb_serving.specs.InputRuns.{InputRuns}
use Rattle.tsdb_compactions.specs.declared.job.Job.{Job}
use Rattle.tsdb_serving.proofs.Beginnings.{Fit}
use Rattle.tsdb_serving.specs.Beginnings.{IsBegun}
use Rattle.tsdb_serving.specs.Core.{files_of, next_of}
use Rattle.tsdb_serving.specs.CoreType.{Core}
use Rattle.tsdb_fileset.specs.StateOfFiles.{listed}
use Rattle.tsdb_fileset.specs.Files.{AreKept, entry_numbers}
use Rattle.tsdb_fileset.specs.Replacing.{IsWithin, claim_run, output_in, replace_run, run_length, with_claim}
use Rattle.tsdb_base.specs.Lists.{count, if_some}
use Rattle.tsdb_outside.specs.Files.{NamedFile, plain_numbers}
use Rattle.tsdb_outside.specs.declared.disk.Disk as disk
use Rattle.tsdb_outside.specs.declared.faults.Counted as counted
use Rattle.tsdb_plan.specs.declared.entry.FileEntry.{FileEntry}
use Rattle.tsdb_plan.specs.declared.entry.Run.{Run}
use Rattle.tsdb_rewriting.specs.Rewriting.{IsFinished, IsReplacedBy}
use Rattle.tsdb_state.specs.Records.{numbers_of}
use Rattle.tsdb_state.specs.State.{File}

-- an empty run that nothing replaces
pub none_replaced : (run : Run) (entries : List FileEntry) → run.first ≡ run.end
    → replace_run run [] entries ≡ entries
none_replaced run entries none =
    ap (λ n. take run.first entries ++ drop n entries) (sym none) ∙ take-append-drop run.first entries

-- claims change nothing outside their run, and no number
behind : {X : Type 0} (xs ys zs : List X) (n : ℕ) → n ≡ length xs + length ys → drop n (xs ++ (ys ++ zs)) ≡ zs
behind [] [] zs zero is = refl
behind [] [] zs (suc n) is = absurd (omega (arith, is))
behind [] (y ∷ ys) zs zero is = absurd (omega (arith, is))
behind [] (y ∷ ys) zs (suc n) is = behind [] ys zs n (omega (arith, is))
behind (x ∷ xs) ys zs zero is = absurd (omega (arith, is))
behind (x ∷ xs) ys zs (suc n) is = behind xs ys zs n (omega (arith, is))

before : {X : Type 0} (xs rest : List X) (n : ℕ) → n ≡ length xs → take n (xs ++ rest) ≡ xs
before [] rest zero is = refl
before [] rest (suc n) is = absurd (omega (arith, is))
before (x ∷ xs) rest zero is = absurd (omega (arith, is))
before (x ∷ xs) rest (suc n) is = ap (λ l. x ∷ l) (before xs rest n (omega (arith, is)))

pub claimed_replaced : (run : Run) (these entries : List FileEntry) → IsWithin run entries
    → replace_run run these (claim_run run true entries) ≡ replace_run run these entries
claimed_replaced run these entries within = λ i. first i ++ (these ++ last i)
  where
    claims : List FileEntry
    claims = map (with_claim true) (slice_range entries run.first run.end)

    first : take run.first (claim_run run true entries) ≡ take run.first entries
    first = before (take run.first entries) (claims ++ drop run.end entries) run.first
        (omega (arith, length-take-le run.first entries (omega (arith, within.rises, within.ends)), within.rises, within.ends))

    inside : length claims ≡ run.end - run.first
    inside = length-map (slice_range entries run.first run.end) (with_claim true)
        ∙ length-take-le (run.end - run.first) (drop run.first entries)
        (omega (arith, length-drop run.first entries, within.rises, within.ends))

    last : drop run.end (claim_run run true entries) ≡ drop run.end entries
    last = behind (take run.first entries) claims (drop run.end entries) run.end
        (omega (arith, inside, length-take-le run.first entries (omega (arith, within.rises, within.ends)), within.rises, within.ends))

claimed_listed : (entries : List FileEntry) → map listed (map (with_claim true) entries) ≡ map listed entries
claimed_listed [] = refl
claimed_listed (entry ∷ entries) = ap (λ rest. listed entry ∷ rest) (claimed_listed entries)

parts_listed : (run : Run) (these entries : List FileEntry)
    → map listed (replace_run run these entries)
    ≡ map listed (take run.first entries) ++ (map listed these ++ map listed (drop run.end entries))
parts_listed run these entries = map-append listed (take run.first entries) (these ++ drop run.end entries)
    ∙ ap (λ l. map listed (take run.first entries) ++ l) (map-append listed these (drop run.end entries))

-- the files of a list around a run, whether the run is claimed or not
around : (run : Run) (entries : List FileEntry) → map listed (claim_run run true entries)
    ≡ map listed (take run.first entries) ++ (map listed (slice_range entries run.first run.end)
    ++ map listed (drop run.end entries))
around run entries = parts_listed run (map (with_claim true) (slice_range entries run.first run.end)) entries
    ∙ ap (λ l. map listed (take run.first entries) ++ (l ++ map listed (drop run.end entries)))
    (claimed_listed (slice_range entries run.first run.end))

plain_of : (entries : List FileEntry) → entry_numbers entries ≡ plain_numbers (map (λ (e : FileEntry). e.number) entries)
plain_of [] = refl
plain_of (entry ∷ entries) = ap (λ rest. entry.number.0 ∷ rest) (plain_of entries)

same_run : (a b : Run) → a.first ≡ b.first → run_length a ≡ run_length b → a.first ≤ a.end → b.first ≤ b.end → a ≡ b
same_run a b first long rises rises_too =
    let last : a.end ≡ b.end = omega (arith, first, long, rises, rises_too) in
    λ i. record { first = first i; end = last i }

no_length : {X : Type 0} (xs : List X) → xs ≡ [] → length xs ≡ 0
no_length xs none = ap length none

no_space : Sequence ≡ Unsequence → ⊥
no_space is = cc

-- the output is in the list of its space alone
none_late : {X : Type 0} (space : Space) (output : Option X) → space ≡ Sequence
    → if_some (output_in Unsequence space output) ≡ []
none_late Sequence output is = refl
none_late Unsequence output is = absurd (no_space (sym is))

none_early : {X : Type 0} (space : Space) (output : Option X) → space ≡ Unsequence
    → if_some (output_in Sequence space output) ≡ []
none_early Sequence output is = absurd (no_space is)
none_early Unsequence output is = refl

space_is : (space : Space) → (space ≡ Sequence) ⊎ (space ≡ Unsequence)
space_is Sequence = inl refl
space_is Unsequence = inr refl

module _ {J F S R P : Type 0} {means : disk.Ghosts J} {counts : counted.Ghosts J} (name : R → NamedFile) (space : Space)
    (runs : InputRuns) (old mid : Core J F S R P means counts) (job : Job F S R P)
    (begun : IsBegun name space runs old mid job) (fit : Fit space runs (files_of old)) (kept : AreKept (files_of mid)) where
  -- the runs have the files of the job
  in_sequence : IsRunOf runs.sequence job.sequence (files_of old).sequence
  in_sequence = record {
    within = fit.sequence;
    are = plain_of (slice_range (files_of old).sequence runs.sequence.first runs.sequence.end)
        ∙ ap plain_numbers (sym begun.is_new.sequence);
  }

  in_unsequence : IsRunOf runs.unsequence job.unsequence (files_of old).unsequence
  in_unsequence = record {
    within = fit.unsequence;
    are = plain_of (slice_range (files_of old).unsequence runs.unsequence.first runs.unsequence.end)
        ∙ ap plain_numbers (sym begun.is_new.unsequence);
  }

  once : (n : ℕ) → count n (entry_numbers (files_of mid).unsequence) ≤ 1
  once = once_late (files_of mid) kept

  -- a job with a late output has late files
  some_late : space ≡ Unsequence → 1 ≤ length job.unsequence
  some_late late = omega (
    arith,
    fit.some,
    ap (λ (run : Run). run_length run) (fit.none late),
    run_long runs.unsequence job.unsequence (files_of old).unsequence in_unsequence,
  )

  module _ (places : InputRuns) (stand : AreRunsOf job places (files_of mid)) where
    -- ---- the sequence list

    same_sequence : space ≡ Sequence → places.sequence ≡ runs.sequence
    same_sequence early = same_run places.sequence runs.sequence
        (stand.place (begun.is_new.space ∙ early) ∙ begun.is_new.place)
        (run_long places.sequence job.sequence (files_of mid).sequence stand.sequence
        ∙ sym (run_long runs.sequence job.sequence (files_of old).sequence in_sequence))
        stand.sequence.within.rises fit.sequence.rises

    no_sequence : space ≡ Unsequence → places.sequence.first ≡ places.sequence.end
    no_sequence late = omega (
      arith,
      stand.sequence.within.rises,
      run_long places.sequence job.sequence (files_of mid).sequence stand.sequence,
      run_long runs.sequence job.sequence (files_of old).sequence in_sequence,
      ap (λ (run : Run). run_length run) (fit.none late),
    )

    sequence_list : (output : Option FileEntry)
        → replace_run places.sequence (if_some (output_in Sequence space output)) (files_of mid).sequence
        ≡ replace_run runs.sequence (if_some (output_in Sequence space output)) (files_of old).sequence
    sequence_list output = by (space_is space)
      where
        by : (space ≡ Sequence) ⊎ (space ≡ Unsequence)
            → replace_run places.sequence (if_some (output_in Sequence space output)) (files_of mid).sequence
            ≡ replace_run runs.sequence (if_some (output_in Sequence space output)) (files_of old).sequence
        by (inl early) = λ i. replace_run (same_sequence early i) (if_some (output_in Sequence space output))
            (begun.lists.sequence i)
        by (inr late) = ap (λ these. replace_run places.sequence these (files_of mid).sequence)
            (none_early space output late)
            ∙ none_replaced places.sequence (files_of mid).sequence (no_sequence late)
            ∙ begun.lists.sequence
            ∙ sym (none_replaced runs.sequence (files_of old).sequence (ap (λ (run : Run). run.first) (fit.none late)
            ∙ sym (ap (λ (run : Run). run.end) (fit.none late))))
            ∙ sym (ap (λ these. replace_run runs.sequence these (files_of old).sequence) (none_early space output late))

    -- ---- the list of late files

    late_first : (late : List File)
        → map listed (slice_range (files_of old).unsequence runs.unsequence.first runs.unsequence.end) ≡ late
        → 1 ≤ length late → places.unsequence.first ≡ runs.unsequence.first
    late_first [] is some = absurd (omega (arith, some))
    late_first (file ∷ files) is some =
        begins_at places.unsequence job.unsequence (files_of mid).unsequence file files
        (map listed (take runs.unsequence.first (files_of old).unsequence))
        (map listed (drop runs.unsequence.end (files_of old).unsequence)) stand.unsequence once
        (ap numbers_of (sym is)
        ∙ listed_numbers (slice_range (files_of old).unsequence runs.unsequence.first runs.unsequence.end)
        ∙ in_unsequence.are)
        (ap (map listed) begun.lists.unsequence ∙ around runs.unsequence (files_of old).unsequence
        ∙ ap (λ late. map listed (take runs.unsequence.first (files_of old).unsequence)
        ++ (late ++ map listed (drop runs.unsequence.end (files_of old).unsequence))) is)
        ∙ length-map (take runs.unsequence.first (files_of old).unsequence) listed
        ∙ length-take-le runs.unsequence.first (files_of old).unsequence
        (omega (arith, fit.unsequence.rises, fit.unsequence.ends))

    long_late : run_length places.unsequence ≡ run_length runs.unsequence
    long_late = run_long places.unsequence job.unsequence (files_of mid).unsequence stand.unsequence
        ∙ sym (run_long runs.unsequence job.unsequence (files_of old).unsequence in_unsequence)

    -- where there is a late file the runs are the same
    same_late : 1 ≤ length job.unsequence → places.unsequence ≡ runs.unsequence
    same_late some = same_run places.unsequence runs.unsequence
        (late_first (map listed (slice_range (files_of old).unsequence runs.unsequence.first runs.unsequence.end)) refl
        (omega (
          arith,
          some,
          length-map (slice_range (files_of old).unsequence runs.unsequence.first runs.unsequence.end) listed,
          ap length begun.is_new.unsequence,
          length-map (slice_range (files_of old).unsequence runs.unsequence.first runs.unsequence.end)
              (λ (e : FileEntry). e.number),
        ))) long_late stand.unsequence.within.rises fit.unsequence.rises

    late_list : (output : Option FileEntry)
        → replace_run places.unsequence (if_some (output_in Unsequence space output)) (files_of mid).unsequence
        ≡ replace_run runs.unsequence (if_some (output_in Unsequence space output)) (files_of old).unsequence
    late_list output = by (length job.unsequence) refl
      where
        all : List FileEntry → Run → List FileEntry
        all these run = replace_run run these (files_of mid).unsequence

        some_there : 1 ≤ length job.unsequence
            → replace_run places.unsequence (if_some (output_in Unsequence space output)) (files_of mid).unsequence
            ≡ replace_run runs.unsequence (if_some (output_in Unsequence space output)) (files_of old).unsequence
        some_there some = (λ i. replace_run (same_late some i) (if_some (output_in Unsequence space output))
            (begun.lists.unsequence i))
            ∙ claimed_replaced runs.unsequence (if_some (output_in Unsequence space output)) (files_of old).unsequence
            fit.unsequence

        none_there : length job.unsequence ≡ 0 → space ≡ Sequence
            → replace_run places.unsequence (if_some (output_in Unsequence space output)) (files_of mid).unsequence
            ≡ replace_run runs.unsequence (if_some (output_in Unsequence space output)) (files_of old).unsequence
        none_there none early =
            let short = run_long runs.unsequence job.unsequence (files_of old).unsequence in_unsequence in
            let empty : runs.unsequence.first ≡ runs.unsequence.end = omega (arith, none, short, fit.unsequence.rises) in
            let gone : places.unsequence.first ≡ places.unsequence.end =
            omega (arith, none, short, long_late, stand.unsequence.within.rises) in
            ap (λ these. replace_run places.unsequence these (files_of mid).unsequence) (none_late space output early)
            ∙ none_replaced places.unsequence (files_of mid).unsequence gone
            ∙ sym (none_replaced runs.unsequence (files_of mid).unsequence empty)
            ∙ ap (replace_run runs.unsequence []) begun.lists.unsequence
            ∙ claimed_replaced runs.unsequence [] (files_of old).unsequence fit.unsequence
            ∙ sym (ap (λ these. replace_run runs.unsequence these (files_of old).unsequence)
            (none_late space output early))

        by : (n : ℕ) → length job.unsequence ≡ n
            → replace_run places.unsequence (if_some (output_in Unsequence space output)) (files_of mid).unsequence
            ≡ replace_run runs.unsequence (if_some (output_in Unsequence space output)) (files_of old).unsequence
        by zero none = early_or_late (space_is space)
          where
            early_or_late : (space ≡ Sequence) ⊎ (space ≡ Unsequence)
                → replace_run places.unsequence (if_some (output_in Unsequence space output)) (files_of mid).unsequence
                ≡ replace_run runs.unsequence (if_some (output_in Unsequence space output)) (files_of old).unsequence
            early_or_late (inl early) = none_there none early
            early_or_late (inr late) = let some = some_late late in absurd (omega (arith, some, none))
        by (suc n) some = some_there (omega (arith, some))

  -- what the end of the job makes of the lists that were there before it
  pub replaced_by : (new : Core J F S R P means counts) → IsFinished job mid new
      → IsReplacedBy (next_of old) space runs (files_of old) (files_of new)
  replaced_by new finished =
      let by = finished.2 in record {
        output = by.output;
        numbered = subst (λ n. IfSome by.output (λ entry. entry.number.0 ≡ n)) begun.is_new.output by.numbered;
        sequence = by.sequence
            ∙ ap (λ s. replace_run (finished.0).sequence (if_some (output_in Sequence s by.output)) (files_of mid).sequence)
            begun.is_new.space
            ∙ sequence_list finished.0 finished.1 by.output;
        unsequence = by.unsequence
            ∙ ap (λ s. replace_run (finished.0).unsequence (if_some (output_in Unsequence s by.output))
            (files_of mid).unsequence) begun.is_new.space
            ∙ late_list finished.0 finished.1 by.output;
      }
