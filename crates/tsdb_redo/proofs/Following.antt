-- What the replay of a record leaves, from what its parts do.
use Rattle.std.proofs.Common.{◌≡◌, inl, inr, ⊎_elim, ℕ, List, [], ◌++◌, refl, sym, ap, subst, ◌∙◌, Ok, Err}
use Rattle.std.specs.Prelude.{◌↔◌, IsErrOf, OnErr, OnOk}
use Rattle.tsdb_base.proofs.Lists.{among_left, among_right}
use Rattle.tsdb_base.specs.Lists.{Among}
use Rattle.tsdb_log.specs.declared.record.LogRecord.{LogRecord}
use Rattle.tsdb_memory.proofs.Counts.{among_either}
use Rattle.tsdb_memory.specs.StateOfMemory.{IsMemoryOf}
use Rattle.tsdb_memory.specs.Least.{IsLeastOf}
use Rattle.tsdb_redo.specs.Lists.{AreListsOf, KeepsRecordedLists, borns_of_files, listed_files, state_of}
use Rattle.tsdb_redo.specs.NamedNumbers.{IsNamed, Named, NamesMore}
use Rattle.tsdb_redo.specs.Opening.{IsOpeningOf}
use Rattle.std.specs.declared.result.Result.{Result}
use Rattle.tsdb_redo.specs.declared.fault.RedoFault.{RedoFault}
use Rattle.tsdb_redo.specs.declared.fault.RedoFault.TheVariants.{Memory, NoReplay}
use Rattle.tsdb_redo.specs.Redone.{IsRedone, IsReplayed, IsWithoutReplay, ShowsTheSame}
use Rattle.tsdb_redo.specs.declared.lists.FileLists.{FileLists}
use Rattle.tsdb_redo.specs.declared.opening.Opening.{Opening}
use Rattle.tsdb_state.specs.Stores.{Recorded}
use Rattle.tsdb_state.specs.Records.{CanFollow, after, names}
use Rattle.tsdb_state.specs.State.{StoreState}

-- the state after the record
abbrev pub recorded_after : LogRecord → Recorded → Recorded
recorded_after item recorded = record { named = names item ++ recorded.named; store = after item recorded.store }

-- a record that cannot follow has no replay
pub without_replay : (opening : Opening) (item : LogRecord)
    → ((recorded : Recorded) → IsOpeningOf opening recorded → ¬ CanFollow recorded.named item recorded.store)
    → IsWithoutReplay opening item
without_replay opening item cannot = λ recorded is new leads. cannot recorded is leads.0

-- the named numbers after a record
pub named_after : (old new : Named) (numbers named : List ℕ) → NamesMore numbers old new
    → ((number : ℕ) → IsNamed old number ↔ Among number named)
    → (number : ℕ) → IsNamed new number ↔ Among number (numbers ++ named)
named_after old new numbers named more are number = (
  λ is. ⊎_elim (λ among. among_left numbers named number among)
      (λ was. among_right numbers named number ((are number).0 was)) ((more number).0 is),
  λ among. (more number).1 (⊎_elim (λ here. inl here) (λ there. inr ((are number).1 there))
      (among_either numbers named number among)),
)

-- the parts of an opening show the parts of a state
pub shows_after : (old new : Opening) (item : LogRecord)
    → ((recorded : Recorded) → IsOpeningOf old recorded → CanFollow recorded.named item recorded.store)
    → ((recorded : Recorded) → IsOpeningOf old recorded → IsMemoryOf new.memory (after item recorded.store))
    → ((recorded : Recorded) → IsOpeningOf old recorded → AreListsOf new.files (after item recorded.store))
    → NamesMore (names item) old.named new.named
    → IsReplayed old new item
shows_after old new item can memory files more = λ recorded is. (
  recorded_after item recorded,
  (can recorded is, refl),
  record {
    memory = memory recorded is;
    files = files recorded is;
    named = named_after old.named new.named (names item) recorded.named more is.named;
  },
)

-- the parts show what they showed
pub shows_same : (old new : Opening)
    → ((state : StoreState) → IsMemoryOf old.memory state → IsMemoryOf new.memory state)
    → ((state : StoreState) → AreListsOf old.files state → AreListsOf new.files state)
    → NamesMore [] old.named new.named
    → ShowsTheSame old new
shows_same old new memory files more = λ recorded is. record {
  memory = memory recorded.store is.memory;
  files = files recorded.store is.files;
  named = named_after old.named new.named [] recorded.named more is.named;
}

-- nothing more is named where the numbers stay
pub names_nothing : (named : Named) → NamesMore [] named named
names_nothing named number = (λ is. inr is, λ either. ⊎_elim (λ none. absurd none) (λ is. is) either)

-- lists are of each state with the same lists
pub lists_as : (lists : FileLists) (old new : StoreState) → old.sequence ≡ new.sequence → old.unsequence ≡ new.unsequence
    → AreListsOf lists old → AreListsOf lists new
lists_as lists old new s u are = record {
  sequence = are.sequence ∙ s;
  unsequence = are.unsequence ∙ u;
  least = subst (λ q. IsLeastOf lists.least (borns_of_files (q ++ new.unsequence))) s
      (subst (λ q. IsLeastOf lists.least (borns_of_files (old.sequence ++ q))) u are.least);
}

-- lists with more room are of the same state
pub kept_lists : (old new : FileLists) (state : StoreState) → KeepsRecordedLists old new → AreListsOf old state → AreListsOf new state
kept_lists old new state kept are = record {
  sequence = ap listed_files kept.sequence ∙ are.sequence;
  unsequence = ap listed_files kept.unsequence ∙ are.unsequence;
  least = subst (λ o. IsLeastOf o (borns_of_files (state.sequence ++ state.unsequence))) (sym kept.least) are.least;
}

pub kept_state : (old new : FileLists) → KeepsRecordedLists old new → state_of old ≡ state_of new
kept_state old new kept =
    ap (λ l. record (state_of old) { sequence = listed_files l }) (sym kept.sequence)
    ∙ ap (λ l. record (state_of new) { unsequence = listed_files l }) (sym kept.unsequence)

-- memory ran out, and the same state is shown
pub out_of_memory : (old new : Opening) (item : LogRecord) (result : Result Unit RedoFault) (fault : RedoFault)
    → result ≡ Err fault → fault ≡ Memory → ShowsTheSame old new → IsRedone old new item result
out_of_memory old new item result fault is out same =
    subst (IsRedone old new item) (sym (is ∙ ap Err out)) same

-- a fault is passed on: a record without replay, or out of memory
pub passed_on : (old : Opening) (item : LogRecord) (result : Result Unit RedoFault) (fault cause : RedoFault)
    → result ≡ Err fault → fault ≡ cause → (cause ≡ NoReplay → IsWithoutReplay old item) → IsRedone old old item result
passed_on old item result fault cause is same none = subst (IsRedone old old item) (sym (is ∙ ap Err same)) (by cause none)
  where
    by : (cause : RedoFault) → (cause ≡ NoReplay → IsWithoutReplay old item) → IsRedone old old item (Err cause)
    by NoReplay none = (none refl, refl)
    by Memory none = λ recorded is. is

-- what the replay of a record leaves, clause by clause
pub record Says (old new : Opening) (item : LogRecord) (result : Result Unit RedoFault) : Type 0 where
  pub replayed : OnOk result (IsReplayed old new item)
  pub no_replay : IsErrOf result NoReplay → IsWithoutReplay old item
  pub unchanged : IsErrOf result NoReplay → new ≡ old
  pub same : OnErr result (ShowsTheSame old new)

pub says : (old new : Opening) (item shown : LogRecord) (result : Result Unit RedoFault) → shown ≡ item
    → IsRedone old new shown result → Says old new item result
says old new item shown result is redone = by result (subst (λ i. IsRedone old new i result) is redone)
  where
    by : (result : Result Unit RedoFault) → IsRedone old new item result → Says old new item result
    by (Ok done) replayed = record {
      replayed = replayed;
      no_replay = λ e. absurd cc;
      unchanged = λ e. absurd cc;
      same = tt;
    }
    by (Err NoReplay) none = record {
      replayed = tt;
      no_replay = λ e. none.0;
      unchanged = λ e. none.1;
      same = λ recorded is. subst (λ o. IsOpeningOf o recorded) (sym none.1) is;
    }
    by (Err Memory) same = record {
      replayed = tt;
      no_replay = λ e. absurd (not_memory (cc));
      unchanged = λ e. absurd (not_memory (cc));
      same = same;
    }
      where
        not_memory : Memory ≡ NoReplay → ⊥
        not_memory e = cc
