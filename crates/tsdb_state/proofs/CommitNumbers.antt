-- Over a commit the numbers of files stay in order: those of its new files were drawn, and are named.
use Rattle.std.proofs.Common.{◌≡◌, ℕ, ◌+◌, ◌≤◌, ◌==◌, Bool, true, false, cond, List, [], ◌∷◌, ◌++◌}
use Rattle.std.proofs.Common.{Option, None, Some, refl, ap, arith, inl, inr}
use Rattle.std.specs.Prelude.{◌⊎◌}
use Rattle.tsdb_base.specs.Lists.{IsWithOne, count, if_some}
use Rattle.tsdb_base.proofs.Lists.{count_append}
use Rattle.tsdb_state.specs.Jobs.{drawn_by, drawn_numbers, job_inputs}
use Rattle.tsdb_state.specs.Order.{all_files}
use Rattle.tsdb_state.specs.Records.{after, flush_oldest, flushed, names, new_file, new_numbers, numbers_of}
use Rattle.tsdb_state.specs.State.{Compaction, KnownFiles, EngineState, File, FlushState, FrozenContent, StoreState, ToldContents}
use Rattle.tsdb_state.specs.Steps.{CommitsFlush, committed, committed_flush, compaction_record, flush_record}
use Rattle.tsdb_state.specs.Steps.{number_or_none, output_number}
use Rattle.tsdb_state.proofs.Counting.{numbers_named}
use Rattle.tsdb_state.proofs.Numbering.{HasNumbers, count_files, count_out, drawn_by_flush, drawn_by_job}

-- a new file has the number that its record names, or there is none
pub count_new_file : (n m born : ℕ) → count n (numbers_of (new_file m born)) ≡ count n (new_numbers (m ∷ []))
count_new_file n m born = by (m == 0)
  where
    by : (b : Bool) → count n (numbers_of (cond b [] (record { number = m; born = born } ∷ [])))
        ≡ count n (cond b [] (m ∷ []))
    by true = refl
    by false = refl

pub count_new_two : (n a b : ℕ)
    → count n (new_numbers (a ∷ b ∷ [])) ≡ count n (new_numbers (a ∷ [])) + count n (new_numbers (b ∷ []))
count_new_two n a b = by (a == 0)
  where
    by : (z : Bool) → count n (cond z (new_numbers (b ∷ [])) (a ∷ new_numbers (b ∷ [])))
        ≡ count n (cond z [] (a ∷ [])) + count n (new_numbers (b ∷ []))
    by true = omega arith
    by false = omega arith

pub count_new_one : (n m : ℕ) → count n (new_numbers (m ∷ [])) ≤ count n (m ∷ [])
count_new_one n m = by (m == 0)
  where
    by : (z : Bool) → count n (cond z [] (m ∷ [])) ≤ count n (m ∷ [])
    by true = omega arith
    by false = omega arith

-- and that number was drawn
pub count_number : (n : ℕ) (o : Option ℕ) → count n (new_numbers ((number_or_none o).0 ∷ [])) ≤ count n (if_some o)
count_number n None = omega arith
count_number n (Some m) = count_new_one n m

-- the lists of a store after a flush
pub flushed_sequence : (s u : ℕ) (state : StoreState) (oldest : FrozenContent) (newer : List FrozenContent)
    → state.frozen ≡ oldest ∷ newer → (flushed s u state).sequence ≡ state.sequence ++ new_file s oldest.born
flushed_sequence s u state oldest newer are = ap (λ (f : List FrozenContent). (flush_oldest s u f state).sequence) are

pub flushed_unsequence : (s u : ℕ) (state : StoreState) (oldest : FrozenContent) (newer : List FrozenContent)
    → state.frozen ≡ oldest ∷ newer → (flushed s u state).unsequence ≡ state.unsequence ++ new_file u oldest.born
flushed_unsequence s u state oldest newer are = ap (λ (f : List FrozenContent). (flush_oldest s u f state).unsequence) are

pub committed_flush_numbers : (told : ToldContents) (known : KnownFiles) (named : List ℕ) (flush : FlushState)
    (others : List FlushState) (state : EngineState) → CommitsFlush told known flush others state
    → HasNumbers named state
    → HasNumbers (names (flush_record flush) ++ named) (committed_flush flush others state)
committed_flush_numbers told known named flush others state commits order =
    numbers_named _ _ _ _ _ _ _ order (λ n. omega (arith, drawn n, named_of n)) (λ n. omega (arith, drawn n, files n))
  where
    s : ℕ
    s = (number_or_none flush.sequence).0

    u : ℕ
    u = (number_or_none flush.unsequence).0

    drawn : (n : ℕ) → count n (drawn_numbers state.flushes state.compactions)
        ≡ count n (drawn_by flush) + count n (drawn_numbers others state.compactions)
    drawn n = drawn_by_flush n flush others state.flushes state.compactions commits.out

    named_of : (n : ℕ) → count n (names (flush_record flush)) ≤ count n (drawn_by flush)
    named_of n = omega (
      arith,
      count_new_two n s u,
      count_number n flush.sequence,
      count_number n flush.unsequence,
      count_append n (if_some flush.sequence) (if_some flush.unsequence),
    )

    files : (n : ℕ) → count n (numbers_of (all_files (committed_flush flush others state)))
        ≤ count n (numbers_of (all_files state)) + count n (drawn_by flush)
    files n = omega (
      arith,
      count_files,
      ap (λ (l : List File). count n (numbers_of l)) (flushed_sequence s u state.store commits.oldest commits.newer
          commits.are),
      ap (λ (l : List File). count n (numbers_of l)) (flushed_unsequence s u state.store commits.oldest commits.newer
          commits.are),
      count_new_file n s commits.oldest.born,
      count_new_file n u commits.oldest.born,
      count_number n flush.sequence,
      count_number n flush.unsequence,
      count_append n (if_some flush.sequence) (if_some flush.unsequence),
    )

-- the output of a job is a file of its number, or none
abbrev pub IsFileOrNone : Compaction → List File → Type 0
IsFileOrNone job output = (output ≡ []) ⊎ (output ≡ record { number = job.output; born = job.born } ∷ [])

pub count_output : (n : ℕ) (job : Compaction) (output : List File) → IsFileOrNone job output
    → (count n (new_numbers (output_number output ∷ [])) ≤ count n (job.output ∷ []))
    × (count n (numbers_of output) ≤ count n (job.output ∷ []))
count_output n job output (inl none) = (
  omega (arith, ap (λ (l : List File). count n (new_numbers (output_number l ∷ []))) none),
  omega (arith, ap (λ (l : List File). count n (numbers_of l)) none),
)
count_output n job output (inr file) = (
  omega (arith, ap (λ (l : List File). count n (new_numbers (output_number l ∷ []))) file, count_new_one n job.output),
  omega (arith, ap (λ (l : List File). count n (numbers_of l)) file),
)

-- a commit that puts the output in the place of the inputs
pub committed_numbers : (named : List ℕ) (job : Compaction) (others : List Compaction) (output : List File) (place : ℕ)
    (state : EngineState) → IsWithOne job others state.compactions → IsFileOrNone job output
    → ((n : ℕ) → let store = after (compaction_record job output place) state.store in
    count n (numbers_of (store.sequence ++ store.unsequence)) + count n (numbers_of (job_inputs job))
    ≡ count n (numbers_of (state.store.sequence ++ state.store.unsequence)) + count n (numbers_of output))
    → HasNumbers named state
    → HasNumbers (names (compaction_record job output place) ++ named) (committed job others output place state)
committed_numbers named job others output place state out file lists order =
    numbers_named _ _ _ _ _ _ _ order (λ n. omega (arith, drawn n, (count_output n job output file).0))
    (λ n. omega (arith, drawn n, files n, (count_output n job output file).1))
  where
    store : StoreState
    store = after (compaction_record job output place) state.store

    drawn : (n : ℕ) → count n (drawn_numbers state.flushes state.compactions)
        ≡ count n (job.output ∷ []) + count n (drawn_numbers state.flushes others)
    drawn n = drawn_by_job n job others state.compactions state.flushes out

    files : (n : ℕ) → count n (numbers_of (all_files (committed job others output place state)))
        ≤ count n (numbers_of (all_files state)) + count n (numbers_of output)
    files n = omega (
      arith,
      lists n,
      count_out n (store.sequence ++ store.unsequence) state.outgoing (job_inputs job),
      count_files n (store.sequence ++ store.unsequence) state.outgoing,
      count_files n (state.store.sequence ++ state.store.unsequence) state.outgoing,
    )
