-- Over each step the numbers of files stay in order.
use Rattle.std.proofs.Common.{◌≡◌, ℕ, ◌+◌, ◌≤◌, Bool, true, false, cond, not, List, [], ◌∷◌, ◌++◌, length}
use Rattle.std.proofs.Common.{map}
use Rattle.std.proofs.Common.{Option, None, Some, ap, ◌∙◌, arith, length-append}
use Rattle.std.specs.List.{filter, flat_map, list_any}
use Rattle.std.proofs.lemmas.List.{map-append}
use Rattle.tsdb_base.specs.Lists.{IsWithOne, count, if_some}
use Rattle.tsdb_base.proofs.Lists.{count_append}
use Rattle.tsdb_state.specs.Jobs.{NumbersInOrder, drawn_by, drawn_numbers}
use Rattle.tsdb_state.specs.Order.{all_files}
use Rattle.tsdb_state.specs.Records.{numbers_of}
use Rattle.tsdb_state.specs.State.{Compaction, EngineState, File, FlushState}
use Rattle.tsdb_state.specs.Steps.{Begins, EndsCompaction, EndsFlush, TakesFlush, began, ended, ended_flush, swept}
use Rattle.tsdb_state.specs.Steps.{took_flush}
use Rattle.tsdb_state.proofs.Counting.{numbers_drawn, numbers_less}

-- counts of lists that are put together

pub count_flat : {X : Type 0} (f : X → List ℕ) (n : ℕ) (xs ys : List X)
    → count n (flat_map f (xs ++ ys)) ≡ count n (flat_map f xs) + count n (flat_map f ys)
count_flat f n [] ys = omega arith
count_flat f n (x ∷ xs) ys = omega (
  arith,
  count_append n (f x) (flat_map f (xs ++ ys)),
  count_append n (f x) (flat_map f xs),
  count_flat f n xs ys,
)

pub count_with_one : {X : Type 0} (f : X → List ℕ) (n : ℕ) (x : X) (others all : List X) → IsWithOne x others all
    → count n (flat_map f all) ≡ count n (f x) + count n (flat_map f others)
count_with_one f n x others all out = omega (
  arith,
  ap (λ xs. count n (flat_map f xs)) out.with_it,
  ap (λ xs. count n (flat_map f xs)) out.without,
  count_flat f n out.before (x ∷ out.behind),
  count_flat f n out.before out.behind,
  count_append n (f x) (flat_map f out.behind),
)

pub count_map_one : {X : Type 0} (f : X → ℕ) (n : ℕ) (x : X) (others all : List X) → IsWithOne x others all
    → count n (map f all) ≡ count n (f x ∷ []) + count n (map f others)
count_map_one f n x others all out = omega (
  arith,
  ap (λ xs. count n (map f xs)) out.with_it,
  ap (λ xs. count n (map f xs)) out.without,
  ap (count n) (map-append f out.before (x ∷ out.behind)),
  ap (count n) (map-append f out.before out.behind),
  count_append n (map f out.before) (f x ∷ map f out.behind),
  count_append n (map f out.before) (map f out.behind),
)

pub count_drawn : (n : ℕ) (flushes : List FlushState) (compactions : List Compaction)
    → count n (drawn_numbers flushes compactions)
    ≡ count n (flat_map drawn_by flushes) + count n (map (λ job. job.output) compactions)
count_drawn n flushes compactions = count_append n _ _

-- files that go out stand behind the others
pub count_files : (n : ℕ) (files more : List File)
    → count n (numbers_of (files ++ more)) ≡ count n (numbers_of files) + count n (numbers_of more)
count_files n files more = ap (count n) (map-append _ _ _) ∙ count_append n _ _

pub count_out : (n : ℕ) (listed outgoing built : List File)
    → count n (numbers_of (listed ++ (outgoing ++ built)))
    ≡ count n (numbers_of (listed ++ outgoing)) + count n (numbers_of built)
count_out n listed outgoing built = omega (arith, count_files)

-- the numbers of one job, and those of the others

pub drawn_by_flush : (n : ℕ) (flush : FlushState) (others all : List FlushState) (compactions : List Compaction)
    → IsWithOne flush others all
    → count n (drawn_numbers all compactions) ≡ count n (drawn_by flush) + count n (drawn_numbers others compactions)
drawn_by_flush n flush others all compactions out = omega (
  arith,
  count_drawn n all compactions,
  count_drawn n others compactions,
  count_with_one drawn_by n flush others all out,
)

pub drawn_by_job : (n : ℕ) (job : Compaction) (others all : List Compaction) (flushes : List FlushState)
    → IsWithOne job others all
    → count n (drawn_numbers flushes all) ≡ count n (job.output ∷ []) + count n (drawn_numbers flushes others)
drawn_by_job n job others all flushes out = omega (
  arith,
  count_drawn n flushes all,
  count_drawn n flushes others,
  count_map_one (λ (job : Compaction). job.output) n job others all out,
)

length_some : {X : Type 0} (o : Option X) → length (if_some o) ≤ 1
length_some None = omega arith
length_some (Some x) = omega arith

pub drawn_two : (flush : FlushState) → length (drawn_by flush) ≤ 2
drawn_two flush = omega (arith, length-append {A = ℕ}, length_some flush.sequence, length_some flush.unsequence)

-- the numbers of a state are in order
abbrev pub HasNumbers : List ℕ → EngineState → Type 0
HasNumbers named state =
    NumbersInOrder named state.next_file (all_files state) (drawn_numbers state.flushes state.compactions)

pub took_flush_numbers : (named : List ℕ) (flush : FlushState) (state : EngineState) → TakesFlush flush state
    → HasNumbers named state → HasNumbers named (took_flush flush state)
took_flush_numbers named flush state takes order =
    numbers_drawn _ _ _ _ _ _ order (omega (arith, takes.left, drawn_two flush)) (λ n. omega (
      arith,
      count_drawn n (flush ∷ state.flushes) state.compactions,
      count_drawn n state.flushes state.compactions,
      count_append n (drawn_by flush) (flat_map drawn_by state.flushes),
      ap (count n) takes.numbers,
    ))

pub ended_flush_numbers : (named : List ℕ) (flush : FlushState) (others : List FlushState) (built : List File)
    (state : EngineState) → EndsFlush flush others built state → HasNumbers named state
    → HasNumbers named (ended_flush flush others built state)
ended_flush_numbers named flush others built state ends order =
    numbers_less _ _ _ _ _ _ _ order (omega arith) order.end (λ n. omega (
      arith,
      drawn_by_flush n flush others state.flushes state.compactions ends.out,
      ends.files n,
      count_out n (state.store.sequence ++ state.store.unsequence) state.outgoing built,
    ))
    (λ n. omega (arith, drawn_by_flush n flush others state.flushes state.compactions ends.out))

pub began_numbers : (told : Rattle.tsdb_state.specs.State.ToldContents) (named : List ℕ) (job : Compaction) (state :
    EngineState) → Begins told job state
    → HasNumbers named state → HasNumbers named (began job state)
began_numbers told named job state begins order =
    numbers_drawn _ _ 1 _ _ _ order (omega (arith, begins.left)) (λ n. omega (
      arith,
      count_drawn n state.flushes (job ∷ state.compactions),
      count_drawn n state.flushes state.compactions,
      ap (λ m. count n (m ∷ [])) begins.output,
    ))

pub ended_numbers : (named : List ℕ) (job : Compaction) (others : List Compaction) (built : List File)
    (state : EngineState) → EndsCompaction job others built state → HasNumbers named state
    → HasNumbers named (ended job others built state)
ended_numbers named job others built state ends order =
    numbers_less _ _ _ _ _ _ _ order (omega arith) order.end (λ n. omega (
      arith,
      drawn_by_job n job others state.compactions state.flushes ends.out,
      ends.files n,
      count_out n (state.store.sequence ++ state.store.unsequence) state.outgoing built,
    ))
    (λ n. omega (arith, drawn_by_job n job others state.compactions state.flushes ends.out))

-- fewer files of a number are left by a filter
pub count_filter : (n : ℕ) (test : File → Bool) (files : List File)
    → count n (numbers_of (filter test files)) ≤ count n (numbers_of files)
count_filter n test [] = omega arith
count_filter n test (file ∷ files) = by (test file) (count_filter n test files)
  where
    by : (b : Bool) → count n (numbers_of (filter test files)) ≤ count n (numbers_of files)
        → count n (numbers_of (cond b (file ∷ filter test files) (filter test files)))
        ≤ count n (numbers_of (file ∷ files))
    by true fewer = omega (arith, fewer)
    by false fewer = omega (arith, fewer)

pub swept_numbers : (named numbers : List ℕ) (state : EngineState) → HasNumbers named state
    → HasNumbers named (swept numbers state)
swept_numbers named numbers state order = numbers_less _ _ _ _ _ _ _ order (omega arith) order.end (λ n. omega (
  arith,
  count_files,
  count_filter n (λ file. not (list_any (Rattle.std.specs.Prelude.nat_eq file.number) numbers)) state.outgoing,
))
    (λ n. omega arith)
