-- What is decided of a flush is what each state that is shown needs, and what a flush leaves.
use Rattle.std.proofs.Common.{◌≡◌, ◌≢◌, ◌⊎◌, inl, inr, ⊎_elim, ℕ, ◌+◌, ◌<◌, ◌≤◌, ◌==◌, Bool, true, false, cond, nat_eq, not, List, [], ◌∷◌, ◌++◌, length}
use Rattle.std.proofs.Common.{refl, sym, ap, subst, ◌∙◌, arith}
use Rattle.std.proofs.lemmas.Bool.{cases_eq, eq-eqb, eqb-true, false≢true}
use Rattle.std.specs.Bool.{beq}
use Rattle.std.specs.FinMap.{empty, empty_of_len, len, len-empty}
use Rattle.std.specs.List.{AllByRecursion as Each, AllZip}
use Rattle.std.specs.Prelude.{◌↔◌, IsTrue}
use Rattle.tsdb_base.specs.declared.ids.Stamp.{Stamp}
use Rattle.tsdb_base.specs.Lists.{Among, count}
use Rattle.tsdb_state.specs.Places.{Content, place_cmp}
use Rattle.tsdb_memory.specs.StateOfMemory.{IsFrozenOf, IsMemoryOf, file_borns}
use Rattle.tsdb_memory.specs.Store as value
use Rattle.tsdb_base.specs.declared.ids.FileNumber.{FileNumber}
use Rattle.tsdb_log.specs.declared.record.LogRecord.TheVariants.{Flushed}
use Rattle.tsdb_memory.specs.Least.{IsLeastOf}
use Rattle.tsdb_redo.proofs.Following.{kept_lists, lists_as, shows_after}
use Rattle.tsdb_redo.specs.Lists.{AreListsOf, KeepsRecordedLists}
use Rattle.tsdb_redo.specs.NamedNumbers.{CanName, IsNamed, Named, NamesMore}
use Rattle.tsdb_redo.specs.Redone.{IsReplayed}
use Rattle.tsdb_redo.specs.declared.lists.FileLists.{FileLists}
use Rattle.tsdb_redo.specs.Opening.{IsOpeningOf}
use Rattle.tsdb_redo.specs.FileRecords.{HasNoFlush, CanRedoFlush}
use Rattle.tsdb_redo.specs.declared.opening.Opening.{Opening}
use Rattle.tsdb_state.specs.Stores.{Recorded}
use Rattle.tsdb_state.specs.Records.{AreNew, CanFlush, IsNumberOf, flush_oldest, flushed, new_file, new_numbers}
use Rattle.tsdb_state.specs.State.{FrozenContent, StoreState}

-- numbers that can be named are new

is_one : (x n : ℕ) → x ≡ n → (x == n) ≡ true
is_one x n e = grind (arith, e)

one_is : (x n : ℕ) → (x == n) ≡ true → x ≡ n
one_is x n e = grind (arith, e)

among_counted : (n : ℕ) (xs : List ℕ) → Among n xs → 1 ≤ count n xs
among_counted n [] among = absurd among
among_counted n (x ∷ xs) (inl same) = let one : cond (x == n) 1 0 ≡ 1 = ap {B = ℕ} (λ b. cond b 1 0) (is_one x n same) in omega (arith, one)
among_counted n (x ∷ xs) (inr among) = omega (arith, among_counted n xs among)

not_counted : (n : ℕ) (xs : List ℕ) → (Among n xs → ⊥) → count n xs ≡ 0
not_counted n [] never = refl
not_counted n (x ∷ xs) never = by (x == n) refl (not_counted n xs (λ among. never (inr among)))
  where
    by : (b : Bool) → (x == n) ≡ b → count n xs ≡ 0 → cond b 1 0 + count n xs ≡ 0
    by true e rest = absurd (never (inl (one_is x n e)))
    by false e rest = omega (arith, rest)

module _ (opening : Named) (named : List ℕ) (are : (number : ℕ) → IsNamed opening number ↔ Among number named) where
  each_new : (numbers : List ℕ) → Each (λ n. ¬ IsNamed opening n) numbers → Each (λ n. count n named ≡ 0) numbers
  each_new [] free = tt
  each_new (n ∷ ns) free = (not_counted n named (λ among. free.0 ((are n).1 among)), each_new ns free.1)

  each_free : (numbers : List ℕ) → Each (λ n. count n named ≡ 0) numbers → Each (λ n. ¬ IsNamed opening n) numbers
  each_free [] new = tt
  each_free (n ∷ ns) new = (λ is. omega (arith, among_counted n named ((are n).0 is), new.0), each_free ns new.1)

  pub are_new : (numbers : List ℕ) → CanName opening numbers ↔ AreNew named numbers
  are_new numbers = (
    λ can. record { within = can.within; unnamed = each_new numbers can.unnamed; differ = can.differ },
    λ new. record { within = new.within; unnamed = each_free numbers new.unnamed; differ = new.differ },
  )

-- a part has points or is empty
full_or_empty : (content : Content) → (content ≡ empty) ⊎ (content ≢ empty)
full_or_empty content = ⊎_elim (λ none. inl (empty_of_len content none))
    (λ some. inr (λ e. some (ap len e ∙ len-empty place_cmp _))) (cases_eq (len content) 0)

-- the record names a file exactly for a part with points
pub numbered : (number : ℕ) (content : Content) (named has : Bool) → (IsTrue named ↔ (number ≢ 0))
    → (IsTrue has ↔ (content ≢ empty)) → named ≡ has → IsNumberOf number content
numbered number content named has is filled same = (
  λ zero. ⊎_elim (λ none. none) (λ some. absurd (is.0 (same ∙ filled.1 some) zero)) (full_or_empty content),
  λ some. filled.0 (sym same ∙ is.1 some),
)

pub not_numbered : (number : ℕ) (content : Content) (named has : Bool) → (IsTrue named ↔ (number ≢ 0))
    → (IsTrue has ↔ (content ≢ empty)) → (named ≡ has → ⊥) → IsNumberOf number content → ⊥
not_numbered number content named has is filled apart of = by named has is filled apart
  where
    by : (named has : Bool) → (IsTrue named ↔ (number ≢ 0)) → (IsTrue has ↔ (content ≢ empty)) → (named ≡ has → ⊥) → ⊥
    by true true is filled apart = apart refl
    by false false is filled apart = apart refl
    by true false is filled apart = false≢true (filled.1 (of.1 (is.0 refl)))
    by false true is filled apart = ⊎_elim (λ zero. filled.0 refl (of.0 zero)) (λ some. false≢true (is.1 some))
        (cases_eq number 0)

pub same_bool : (a b : Bool) → not (beq a b) ≡ false → a ≡ b
same_bool true true e = refl
same_bool false false e = refl
same_bool true false e = absurd (false≢true (sym e))
same_bool false true e = absurd (false≢true (sym e))

pub some_number : (number : ℕ) → IsTrue (not (nat_eq number 0)) ↔ (number ≢ 0)
some_number number = by (nat_eq number 0) refl
  where
    by : (b : Bool) → nat_eq number 0 ≡ b → IsTrue (not b) ↔ (number ≢ 0)
    by true e = (λ no_more. absurd (false≢true no_more), λ some. absurd (some (eqb-true number 0 e)))
    by false e = (λ yes zero. false≢true (sym e ∙ eq-eqb number 0 zero), λ some. refl)

-- the oldest pair that is frozen in a state
record Oldest (state : StoreState) (born : ℕ) : Type 0 where
  oldest : FrozenContent
  newer : List FrozenContent
  are : state.frozen ≡ oldest ∷ newer
  born_is : oldest.born ≡ born

oldest_of : (store : value.MemoryState) (first : value.FrozenPair) (rest : List value.FrozenPair) (state : StoreState)
    → store.frozen ≡ first ∷ rest → IsMemoryOf store state → Oldest state first.born
oldest_of store first rest state had is =
    by state.frozen refl (subst (λ l. AllZip (IsFrozenOf store.series) l state.frozen) had is.frozen)
  where
    by : (shown : List FrozenContent) → state.frozen ≡ shown → AllZip (IsFrozenOf store.series) (first ∷ rest) shown
        → Oldest state first.born
    by [] e all = absurd all
    by (oldest ∷ newer) e all = record { oldest = oldest; newer = newer; are = e; born_is = all.0.born }

module _ (opening : Opening) (sequence unsequence : ℕ) (first : value.FrozenPair) (rest : List value.FrozenPair)
    (had : opening.memory.frozen ≡ first ∷ rest) (has late : Bool)
    (sequence_has : (state : StoreState) (oldest : FrozenContent) (newer : List FrozenContent) → IsMemoryOf opening.memory state
    → state.frozen ≡ oldest ∷ newer → (IsTrue has ↔ (oldest.pair.sequence ≢ empty)))
    (unsequence_has : (state : StoreState) (oldest : FrozenContent) (newer : List FrozenContent) → IsMemoryOf opening.memory state
    → state.frozen ≡ oldest ∷ newer → (IsTrue late ↔ (oldest.pair.unsequence ≢ empty))) where
  pub flush_of : (born : Stamp) → born.0 ≡ first.born → not (nat_eq sequence 0) ≡ has → not (nat_eq unsequence 0) ≡ late
      → CanName opening.named (new_numbers (sequence ∷ unsequence ∷ [])) → CanRedoFlush opening sequence unsequence born
  flush_of born born_is s u can = record {
    some = subst (λ l. 0 < length l) (sym had) (omega arith);
    new = can;
    can = λ recorded is. by recorded is (oldest_of opening.memory first rest recorded.store had is.memory);
    of_oldest = λ recorded is. (oldest_of opening.memory first rest recorded.store had is.memory).born_is ∙ sym born_is;
  }
    where
      by : (recorded : Recorded) → IsOpeningOf opening recorded → Oldest recorded.store first.born
          → CanFlush recorded.named sequence unsequence recorded.store
      by recorded is oldest = record {
        oldest = oldest.oldest;
        newer = oldest.newer;
        are = oldest.are;
        sequence_part = numbered sequence oldest.oldest.pair.sequence (not (nat_eq sequence 0)) has
            (some_number sequence) (sequence_has recorded.store oldest.oldest oldest.newer is.memory oldest.are) s;
        unsequence_part = numbered unsequence oldest.oldest.pair.unsequence (not (nat_eq unsequence 0)) late
            (some_number unsequence) (unsequence_has recorded.store oldest.oldest oldest.newer is.memory oldest.are) u;
        fresh = (are_new opening.named recorded.named is.named (new_numbers (sequence ∷ unsequence ∷ []))).0 can;
      }

  pub other_sequence : (not (nat_eq sequence 0) ≡ has → ⊥) → HasNoFlush opening sequence unsequence
  other_sequence apart = λ recorded is can. not_numbered sequence can.oldest.pair.sequence (not (nat_eq sequence 0)) has
      (some_number sequence) (sequence_has recorded.store can.oldest can.newer is.memory can.are) apart can.sequence_part

  pub other_unsequence : (not (nat_eq unsequence 0) ≡ late → ⊥) → HasNoFlush opening sequence unsequence
  other_unsequence apart = λ recorded is can. not_numbered unsequence can.oldest.pair.unsequence (not (nat_eq unsequence 0))
      late (some_number unsequence) (unsequence_has recorded.store can.oldest can.newer is.memory can.are) apart
      can.unsequence_part

-- numbers that cannot be named
pub no_new_names : (opening : Opening) (sequence unsequence : ℕ)
    → (CanName opening.named (new_numbers (sequence ∷ unsequence ∷ [])) → ⊥) → HasNoFlush opening sequence unsequence
no_new_names opening sequence unsequence cannot = λ recorded is can.
    cannot ((are_new opening.named recorded.named is.named (new_numbers (sequence ∷ unsequence ∷ []))).1 can.fresh)

-- no frozen pair
pub none_frozen : (opening : Opening) (sequence unsequence : ℕ) → opening.memory.frozen ≡ []
    → HasNoFlush opening sequence unsequence
none_frozen opening sequence unsequence none = λ recorded is can.
    by recorded.store.frozen can.are (subst (λ l. AllZip (IsFrozenOf opening.memory.series) l recorded.store.frozen) none
    is.memory.frozen)
  where
    by : {oldest : FrozenContent} {newer : List FrozenContent} (shown : List FrozenContent) → shown ≡ oldest ∷ newer
        → AllZip (IsFrozenOf opening.memory.series) [] shown → ⊥
    by [] e all = absurd cc
    by (x ∷ shown) e all = all

-- the lists after a flush
lists_flushed : (sequence unsequence born : ℕ) (state : StoreState) (oldest : FrozenContent) (newer : List FrozenContent)
    → state.frozen ≡ oldest ∷ newer → oldest.born ≡ born
    → (state.sequence ++ new_file sequence born ≡ (flushed sequence unsequence state).sequence)
    × (state.unsequence ++ new_file unsequence born ≡ (flushed sequence unsequence state).unsequence)
lists_flushed sequence unsequence born state oldest newer are is = (
  ap (λ b. state.sequence ++ new_file sequence b) (sym is)
      ∙ ap (λ l. (flush_oldest sequence unsequence l state).sequence) (sym are),
  ap (λ b. state.unsequence ++ new_file unsequence b) (sym is)
      ∙ ap (λ l. (flush_oldest sequence unsequence l state).unsequence) (sym are),
)

module _ (old new : Opening) (middle : FileLists) (sequence unsequence : FileNumber) (born : Stamp)
    (flush : CanRedoFlush old sequence.0 unsequence.0 born) (kept : KeepsRecordedLists old.files middle)
    (added : (state : StoreState) → AreListsOf middle state → AreListsOf new.files (record state {
      sequence = state.sequence ++ new_file sequence.0 born.0;
      unsequence = state.unsequence ++ new_file unsequence.0 born.0;
    }))
    (effect : (state : StoreState) (s u : ℕ) → IsMemoryOf old.memory state
    → IsLeastOf new.files.least (file_borns (flushed s u state)) → IsMemoryOf new.memory (flushed s u state))
    (more : NamesMore (new_numbers (sequence.0 ∷ unsequence.0 ∷ [])) old.named new.named) where
  files_flushed : (recorded : Recorded) → IsOpeningOf old recorded
      → AreListsOf new.files (flushed sequence.0 unsequence.0 recorded.store)
  files_flushed recorded is =
      let can = flush.can recorded is in
      let same = lists_flushed sequence.0 unsequence.0 born.0 recorded.store can.oldest can.newer can.are
      (flush.of_oldest recorded is) in
      lists_as new.files (record recorded.store {
        sequence = recorded.store.sequence ++ new_file sequence.0 born.0;
        unsequence = recorded.store.unsequence ++ new_file unsequence.0 born.0;
      }) (flushed sequence.0 unsequence.0 recorded.store) same.0 same.1
      (added recorded.store (kept_lists old.files middle recorded.store kept is.files))

  pub shows_flushed : IsReplayed old new (Flushed sequence unsequence)
  shows_flushed = shows_after old new (Flushed sequence unsequence)
      (λ recorded is. flush.can recorded is)
      (λ recorded is. effect recorded.store sequence.0 unsequence.0 is.memory (files_flushed recorded is).least)
      files_flushed more
