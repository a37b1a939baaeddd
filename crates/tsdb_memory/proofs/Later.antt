-- What deletions, flushes and replaced files leave in memory, by what the calls of an effect gave.
use Rattle.std.proofs.Common.{◌≡◌, ℕ, ℤ, ◌+◌, ◌<◌, ◌≤◌, true, false, cond, ◌++◌, drop, get_or, List, [], ◌∷◌, length, map, Option, Some, slice_get, sym, ap, subst, ◌∙◌, arith}
use Rattle.std.specs.Prelude.{int_le, int_lt, remove}
use Rattle.std.proofs.lemmas.Int.{ints}
use Rattle.std.proofs.lemmas.List.{drop_all, drop_more}
use Rattle.tsdb_base.specs.declared.ids.Stamp.{Stamp}
use Rattle.tsdb_base.specs.declared.point.Range.{Range}
use Rattle.tsdb_marks.specs.Lists.{Marks, purge_list}
use Rattle.tsdb_marks.specs.declared.marks.Mark.{Mark}
use Rattle.tsdb_memory.proofs.Effects.{cut_shown, cut_sound, cut_store, map_same, purged_shown, purged_sound}
use Rattle.tsdb_memory.proofs.Numbers.{some_same}
use Rattle.tsdb_memory.specs.Least.{IsLeastOf, least_with, lesser_born}
use Rattle.tsdb_memory.specs.Model.{IsSoundMemory, frozen_in}
use Rattle.tsdb_memory.specs.StateOfMemory.{IsMemoryOf, file_borns, number_of}
use Rattle.tsdb_memory.specs.Store as value
use Rattle.tsdb_memory.specs.declared.store.FrozenPair.{FrozenPair}
use Rattle.tsdb_memtable.specs.Pairs.{Pair, change_points, without_range}
use Rattle.tsdb_base.specs.Limits.{end_of_numbers}
use Rattle.tsdb_state.specs.Records.{add_mark, cut_pair, deleted}
use Rattle.tsdb_state.specs.State.{StoreState}

-- the least born of the files that are told, and of the pairs as they are kept
pub borns_kept : (listed : Option Stamp) (items : List FrozenPair)
    → least_with listed (map (λ pair. pair.born.0) items)
    ≡ least_with listed (map (λ (pair : value.FrozenPair). pair.born) (map frozen_in items))
borns_kept listed items =
    ap (least_with listed) (sym (map_same frozen_in (λ (pair : value.FrozenPair). pair.born) items))

module _ (store : value.MemoryState) (n : ℕ) (path : List ℕ) (range : Range) (added marks : Marks) (working : Pair)
    (least : Option Stamp) (is_cut : working ≡ change_points n (without_range range) store.working)
    (is_added : added.marks ≡ add_mark path range (store.stamp + 1) store.marks.marks)
    (is_purged : marks.marks ≡ purge_list least added.marks) where
  pub deleted_shown : (listed : Option Stamp) (shown : StoreState)
      → least ≡ least_with listed (map (λ (pair : value.FrozenPair). pair.born) store.frozen)
      → number_of store.series path ≡ Some n → IsMemoryOf store shown → IsLeastOf listed (file_borns shown)
      → IsMemoryOf (record store { stamp = store.stamp + 1; marks = marks; working = working })
      (deleted path range shown)
  deleted_shown listed shown least_is number is low =
      subst (λ w. IsMemoryOf (record store { stamp = store.stamp + 1; marks = marks; working = w })
      (deleted path range shown)) (sym is_cut)
      (purged_shown (cut_store store n path range added) (record shown {
        stamp = shown.stamp + 1;
        marks = add_mark path range (shown.stamp + 1) shown.marks;
        working = cut_pair path range shown.working;
      }) marks listed (cut_shown store n path range added shown is number is_added) low
      (is_purged ∙ ap (λ o. purge_list o added.marks) least_is))

  pub deleted_sound : IsSoundMemory store → store.stamp < end_of_numbers
      → IsSoundMemory (record store { stamp = store.stamp + 1; marks = marks; working = working })
  deleted_sound sound stamp =
      subst (λ w. IsSoundMemory (record store { stamp = store.stamp + 1; marks = marks; working = w })) (sym is_cut)
      (purged_sound (cut_store store n path range added) marks least
      (cut_sound store n path range added sound stamp is_added) is_purged)

-- the first of the frozen pairs, and the others

pub record First (items rest : List FrozenPair) : Type 0 where
  pub oldest : value.FrozenPair
  pub are : map frozen_in items ≡ oldest ∷ map frozen_in rest

pub first_of : (items rest : List FrozenPair) → 0 < length (map frozen_in items) → rest ≡ remove items 0
    → First items rest
first_of [] rest some e = absurd (none some)
  where
    none : 0 < 0 → ⊥
    none h = omega (arith, h)
first_of (x ∷ items) rest some e = record {
  oldest = frozen_in x;
  are = ap (λ l. frozen_in x ∷ map frozen_in l) (sym e);
}

-- the least of the pairs that a loop has yet to look at

pub at_next : (frozen : List FrozenPair) (i : ℕ) (pair : FrozenPair) (least : Option Stamp) → i < length frozen
    → pair ≡ get_or frozen i pair
    → least_with least (map (λ (p : FrozenPair). p.born.0) (drop i frozen))
    ≡ least_with (Some (lesser_born least pair.born.0)) (map (λ (p : FrozenPair). p.born.0) (drop (i + 1) frozen))
at_next frozen i pair least within is =
    ap (λ l. least_with least (map (λ (p : FrozenPair). p.born.0) l))
    (drop_more frozen i pair within ∙ ap (λ (x : FrozenPair). x ∷ drop (i + 1) frozen) (sym is))

pub at_end : (frozen : List FrozenPair) (i : ℕ) (least : Option Stamp) → length frozen ≤ i
    → least_with least (map (λ (p : FrozenPair). p.born.0) (drop i frozen)) ≡ least
at_end frozen i least past = ap (λ l. least_with least (map (λ (p : FrozenPair). p.born.0) l)) (drop_all i frozen past)

-- the marks with one more, where the range has a time, and where it has none

not_less : (a b : ℤ) → int_le a b ≡ true → int_lt b a ≡ false
not_less a b h = grind (arith, ints)

is_less : (a b : ℤ) → int_le a b ≡ false → int_lt b a ≡ true
is_less a b h = grind (arith, ints)

module _ (path : List ℕ) (range : Range) (version : ℕ) (marks : List Mark) (from to : ℤ) (starts : from ≡ range.from)
    (ends : to ≡ range.to) where
  abbrev one_more : ℤ → ℤ → List Mark
  one_more from to =
      marks ++ record { path = path; from = from; to = to; version = record { 0 = version } } ∷ []

  pub marked : int_le from to ≡ true → one_more from to ≡ add_mark path range version marks
  marked h =
      (λ i. one_more (starts i) (ends i))
      ∙ ap (λ b. cond b marks (one_more range.from range.to))
      (sym (not_less range.from range.to (sym (λ i. int_le (starts i) (ends i)) ∙ h)))

  pub unmarked : int_le from to ≡ false → marks ≡ add_mark path range version marks
  unmarked h = ap (λ b. cond b marks (one_more range.from range.to))
      (sym (is_less range.from range.to (sym (λ i. int_le (starts i) (ends i)) ∙ h)))

-- the first of the frozen pairs, as a look at it gives it
pub record Oldest (items : List FrozenPair) (oldest : FrozenPair) : Type 0 where
  pub rest : List value.FrozenPair
  pub are : map frozen_in items ≡ frozen_in oldest ∷ rest

pub oldest_of : (items : List FrozenPair) (oldest : FrozenPair) → slice_get items 0 ≡ Some oldest → Oldest items oldest
oldest_of [] oldest e = absurd (cc)
oldest_of (x ∷ items) oldest e = record {
  rest = map frozen_in items;
  are = ap (λ y. frozen_in y ∷ map frozen_in items) (some_same x oldest e);
}
