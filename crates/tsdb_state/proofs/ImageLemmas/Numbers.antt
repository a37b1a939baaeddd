-- The numbers of files over a replay: each is named once, and a listed file has one that was named.
use Rattle.std.proofs.Common.{◌≡◌, ℕ, ◌+◌, ◌<◌, ◌≤◌, Bool, true, false, cond, zero, suc, List, [], ◌∷◌, ◌++◌, take, drop}
use Rattle.std.proofs.Common.{length, refl, sym, subst, arith}
use Rattle.std.specs.Prelude.{◌≢◌, ◌==◌}
use Rattle.std.specs.List.{AllByRecursion as Each}
use Rattle.tsdb_base.specs.declared.ids.Space.{Space}
use Rattle.tsdb_base.specs.declared.ids.Space.TheVariants.{Sequence, Unsequence}
use Rattle.tsdb_base.proofs.Lists.{count_append}
use Rattle.tsdb_base.specs.Lists.{EachPair, count}
use Rattle.tsdb_log.specs.declared.record.LogRecord.{LogRecord}
use Rattle.tsdb_log.specs.declared.record.LogRecord.TheVariants.{Create, Delete, Flushed, Freeze, Insert, Replaced, Snapshot}
use Rattle.tsdb_state.specs.Replays.{Replays}
use Rattle.tsdb_state.specs.Stores.{Recorded, store_steps}
use Rattle.tsdb_state.proofs.CommitNumbers.{count_new_file, count_new_two}
use Rattle.tsdb_state.proofs.Counting.{is_none, is_or_not}
use Rattle.tsdb_state.proofs.Numbering.{count_files}
use Rattle.tsdb_state.specs.Jobs.{NumbersInOrder}
use Rattle.tsdb_base.specs.Limits.{end_of_numbers}
use Rattle.tsdb_state.specs.Records.{AreNew, CanFollow, Replacement, after, flush_oldest, names, new_file, new_numbers}
use Rattle.tsdb_state.specs.Records.{number_list, numbers_of, replace, replace_in}
use Rattle.tsdb_state.specs.State.{File, FrozenContent, StoreState}

abbrev listed : StoreState → List File
listed store = store.sequence ++ store.unsequence

-- a file once
one_file : (n : ℕ) (b : Bool) (m k l : ℕ) → m + k ≤ l → (cond b 1 0 + m) + k ≤ cond b 1 0 + l
one_file n true m k l h = omega (arith, h)
one_file n false m k l h = omega (arith, h)

behind : (n : ℕ) (b : Bool) (k l : ℕ) → k ≤ l → k ≤ cond b 1 0 + l
behind n true k l h = omega (arith, h)
behind n false k l h = omega (arith, h)

count_drop : (n c : ℕ) (files : List File) → count n (numbers_of (drop c files)) ≤ count n (numbers_of files)
count_drop n zero files = omega arith
count_drop n (suc c) [] = omega arith
count_drop n (suc c) (file ∷ files) = behind n (file.number == n) (count n (numbers_of (drop c files)))
    (count n (numbers_of files)) (count_drop n c files)

-- the files before a place, and those from that one or a later one on
count_around : (n place at : ℕ) (files : List File) → place ≤ at
    → count n (numbers_of (take place files)) + count n (numbers_of (drop at files)) ≤ count n (numbers_of files)
count_around n zero at files below = omega (arith, count_drop n at files)
count_around n (suc place) zero files below = absurd (omega (arith, below))
count_around n (suc place) (suc at) [] below = omega arith
count_around n (suc place) (suc at) (file ∷ files) below =
    one_file n (file.number == n) (count n (numbers_of (take place files))) (count n (numbers_of (drop at files)))
    (count n (numbers_of files)) (count_around n place at files (omega (arith, below)))

count_replace : (n place more : ℕ) (output files : List File)
    → count n (numbers_of (replace place more output files))
    ≤ count n (numbers_of files) + count n (numbers_of output)
count_replace n place more output files = omega (
  arith,
  count_files n (take place files) (output ++ drop (place + more) files),
  count_files n output (drop (place + more) files),
  count_around n place (place + more) files (omega arith),
)

flushed_count : (n s u : ℕ) (frozen : List FrozenContent) (store : StoreState)
    → count n (numbers_of (listed (flush_oldest s u frozen store)))
    ≤ count n (numbers_of (listed store)) + count n (new_numbers (s ∷ u ∷ []))
flushed_count n s u [] store = omega arith
flushed_count n s u (oldest ∷ newer) store = omega (
  arith,
  count_files n (store.sequence ++ new_file s oldest.born) (store.unsequence ++ new_file u oldest.born),
  count_files n store.sequence (new_file s oldest.born),
  count_files n store.unsequence (new_file u oldest.born),
  count_files n store.sequence store.unsequence,
  count_new_file n s oldest.born,
  count_new_file n u oldest.born,
  count_new_two n s u,
)

replaced_count : (n : ℕ) (space : Space) (item : Replacement) (store : StoreState)
    → count n (numbers_of (listed (replace_in space item store)))
    ≤ count n (numbers_of (listed store)) + count n (new_numbers (item.output ∷ []))
replaced_count n Sequence item store = omega (
  arith,
  count_files n (replace item.place (length item.sequence) (new_file item.output item.born) store.sequence)
      (drop (length item.unsequence) store.unsequence),
  count_replace n item.place (length item.sequence) (new_file item.output item.born) store.sequence,
  count_drop n (length item.unsequence) store.unsequence,
  count_files n store.sequence store.unsequence,
  count_new_file n item.output item.born,
)
replaced_count n Unsequence item store = omega (
  arith,
  count_files n store.sequence
      (replace item.place (length item.unsequence) (new_file item.output item.born) store.unsequence),
  count_replace n item.place (length item.unsequence) (new_file item.output item.born) store.unsequence,
  count_files n store.sequence store.unsequence,
  count_new_file n item.output item.born,
)

nothing_named : (a b : ℕ) → a ≤ a + b
nothing_named a b = omega arith

-- a record lists no more numbers than it names
listed_count : (n : ℕ) (item : LogRecord) (store : StoreState)
    → count n (numbers_of (listed (after item store)))
    ≤ count n (numbers_of (listed store)) + count n (names item)
listed_count n (Create path data_type encoding) store = nothing_named (count n (numbers_of (listed store))) 0
listed_count n (Insert time cells) store = nothing_named (count n (numbers_of (listed store))) 0
listed_count n (Delete path range) store = nothing_named (count n (numbers_of (listed store))) 0
listed_count n Freeze store = nothing_named (count n (numbers_of (listed store))) 0
listed_count n (Flushed sequence unsequence) store =
    flushed_count n sequence.0 unsequence.0 store.frozen store
listed_count n (Replaced born space place output sequence unsequence) store = replaced_count n space (record {
  born = born.0;
  space = space;
  place = place;
  output = output.0;
  sequence = number_list sequence;
  unsequence = number_list unsequence;
}) store
listed_count n (Snapshot snapshot) store = nothing_named (count n (numbers_of (listed store))) 0

-- the numbers that a record names are new
fresh : (named : List ℕ) (item : LogRecord) (store : StoreState) → CanFollow named item store
    → AreNew named (names item)
fresh named (Create path data_type encoding) store can = record { within = tt; unnamed = tt; differ = tt }
fresh named (Insert time cells) store can = record { within = tt; unnamed = tt; differ = tt }
fresh named (Delete path range) store can = record { within = tt; unnamed = tt; differ = tt }
fresh named Freeze store can = record { within = tt; unnamed = tt; differ = tt }
fresh named (Flushed sequence unsequence) store can = can.fresh
fresh named (Replaced born space place output sequence unsequence) store can = can.fresh
fresh named (Snapshot snapshot) store can = absurd can

nothing : (b : Bool) (m : ℕ) → b ≡ false → m ≡ 0 → cond b 1 0 + m ≡ 0
nothing true m e none = absurd cc
nothing false m e none = omega (arith, none)

-- 0 is no number of a file
never_zero : (xs : List ℕ) → count 0 (new_numbers xs) ≡ 0
never_zero [] = refl
never_zero (x ∷ xs) = by (x == 0) refl (never_zero xs)
  where
    by : (b : Bool) → (x == 0) ≡ b → count 0 (new_numbers xs) ≡ 0
        → count 0 (cond b (new_numbers xs) (x ∷ new_numbers xs)) ≡ 0
    by true e rest = rest
    by false e rest = nothing (x == 0) (count 0 (new_numbers xs)) e rest

names_never_zero : (item : LogRecord) → count 0 (names item) ≡ 0
names_never_zero (Create path data_type encoding) = refl
names_never_zero (Insert time cells) = refl
names_never_zero (Delete path range) = refl
names_never_zero Freeze = refl
names_never_zero (Flushed sequence unsequence) = never_zero (sequence.0 ∷ unsequence.0 ∷ [])
names_never_zero (Replaced born space place output sequence unsequence) = never_zero (output.0 ∷ [])
names_never_zero (Snapshot snapshot) = refl

-- what holds of each element holds of a number that is counted
counted_has : (P : ℕ → Type 0) (n : ℕ) (xs : List ℕ) → Each P xs → 1 ≤ count n xs → P n
counted_has P n [] all some = absurd (omega (arith, some))
counted_has P n (x ∷ xs) all some = is_or_not x n (λ same. subst P same all.0)
    (λ other. counted_has P n xs all.1 (later (x == n) (count n xs) other some))
  where
    later : (b : Bool) (m : ℕ) → b ≡ false → 1 ≤ cond b 1 0 + m → 1 ≤ m
    later true m e some = absurd cc
    later false m e some = omega (arith, some)

-- of different numbers each stands once
once : (n : ℕ) (xs : List ℕ) → EachPair (λ a b. a ≢ b) xs → count n xs ≤ 1
once n [] differ = omega arith
once n (x ∷ xs) differ = is_or_not x n
    (λ same. first (x == n) (count n xs) (is_none (count n xs)
    (λ some. counted_has (λ y. x ≢ y) n xs differ.0 some same)))
    (λ other. rest (x == n) (count n xs) other (once n xs differ.1))
  where
    first : (b : Bool) (m : ℕ) → m ≡ 0 → cond b 1 0 + m ≤ 1
    first true m e = omega (arith, e)
    first false m e = omega (arith, e)

    rest : (b : Bool) (m : ℕ) → b ≡ false → m ≤ 1 → cond b 1 0 + m ≤ 1
    rest true m e few = absurd cc
    rest false m e few = omega (arith, few)

-- What replay keeps of numbers: each is named once, lies from 1 to below the end, and listed files have named ones.
pub record AreNumbered (recorded : Recorded) : Type 0 where
  pub once : (n : ℕ) → count n recorded.named ≤ 1
  pub listed : (n : ℕ) → count n (numbers_of (recorded.store.sequence ++ recorded.store.unsequence))
      ≤ count n recorded.named
  pub low : count 0 recorded.named ≡ 0
  pub high : (n : ℕ) → 1 ≤ count n recorded.named → n < end_of_numbers

abbrev next_of : LogRecord → Recorded → Recorded
next_of item recorded = record { named = names item ++ recorded.named; store = after item recorded.store }

either : (a b : ℕ) → 1 ≤ a + b → (1 ≤ a → ⊥) → 1 ≤ b
either a b some none = omega (arith, is_none a none, some)

numbered_next : (item : LogRecord) (recorded : Recorded) → CanFollow recorded.named item recorded.store
    → AreNumbered recorded → AreNumbered (next_of item recorded)
numbered_next item recorded can numbered = record {
  once = λ n. few n (count_append n (names item) recorded.named) (numbered.once n) (once n (names item) new.differ)
      (λ some. counted_has (λ m. count m recorded.named ≡ 0) n (names item) new.unnamed some);
  listed = λ n. omega (
    arith,
    count_append n (names item) recorded.named,
    listed_count n item recorded.store,
    numbered.listed n,
  );
  low = omega (arith, count_append 0 (names item) recorded.named, names_never_zero item, numbered.low);
  high = λ n some. below n (subst (λ m. 1 ≤ m) (count_append n (names item) recorded.named) some);
}
  where
    new : AreNew recorded.named (names item)
    new = fresh recorded.named item recorded.store can

    few : (n : ℕ) → count n (names item ++ recorded.named) ≡ count n (names item) + count n recorded.named
        → count n recorded.named ≤ 1 → count n (names item) ≤ 1
        → (1 ≤ count n (names item) → count n recorded.named ≡ 0) → count n (names item ++ recorded.named) ≤ 1
    few n sum old one apart = by (count n (names item)) refl
      where
        by : (m : ℕ) → count n (names item) ≡ m → count n (names item ++ recorded.named) ≤ 1
        by zero e = omega (arith, e, sum, old)
        by (suc m) e = let none = apart (omega (arith, e)) in omega (arith, none, sum, one)

    below : (n : ℕ) → 1 ≤ count n (names item) + count n recorded.named → n < end_of_numbers
    below n some = by (count n (names item)) refl
      where
        by : (m : ℕ) → count n (names item) ≡ m → n < end_of_numbers
        by zero e = numbered.high n (omega (arith, e, some))
        by (suc m) e = counted_has (λ k. k < end_of_numbers) n (names item) new.within (omega (arith, e))

numbered_replay : (items : List LogRecord) (old new : Recorded) → Replays store_steps old items new → AreNumbered old
    → AreNumbered new
numbered_replay [] old new same numbered = subst AreNumbered (sym same) numbered
numbered_replay (item ∷ items) old new replays numbered =
    numbered_replay items replays.0 new replays.2
    (subst AreNumbered (sym replays.1.1) (numbered_next item old replays.1.0 numbered))

-- the numbers of an engine that is opened over a replay, with a next one above all that were named
pub opened_numbers : (items : List LogRecord) (recorded : Recorded) (next : ℕ)
    → Replays store_steps store_steps.new_store items recorded → 1 ≤ next → next ≤ end_of_numbers
    → ((n : ℕ) → 1 ≤ count n recorded.named → n < next)
    → NumbersInOrder recorded.named next ((recorded.store.sequence ++ recorded.store.unsequence) ++ []) []
opened_numbers items recorded next replays from_one end above = record {
  from_one = from_one;
  end = end;
  differ = λ n. omega (arith, none n, numbered.once n, numbered.listed n);
  range = λ n some. (positive n (is_listed n some), above n (is_listed n some));
  named_below = above;
  unnamed = λ n some. absurd (omega (arith, some));
}
  where
    numbered : AreNumbered recorded
    numbered = numbered_replay items store_steps.new_store recorded replays (record {
      once = λ n. omega arith;
      listed = λ n. omega arith;
      low = refl;
      high = λ n some. absurd (omega (arith, some));
    })

    none : (n : ℕ) → count n (numbers_of ((recorded.store.sequence ++ recorded.store.unsequence) ++ []))
        ≡ count n (numbers_of (recorded.store.sequence ++ recorded.store.unsequence)) + 0
    none n = count_files n (recorded.store.sequence ++ recorded.store.unsequence) []

    is_listed : (n : ℕ)
        → 1 ≤ count n (numbers_of ((recorded.store.sequence ++ recorded.store.unsequence) ++ [])) + 0
        → 1 ≤ count n recorded.named
    is_listed n some = omega (arith, none n, some, numbered.listed n)

    positive : (n : ℕ) → 1 ≤ count n recorded.named → 1 ≤ n
    positive zero some = absurd (omega (arith, some, numbered.low))
    positive (suc n) some = omega arith
