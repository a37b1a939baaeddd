-- The numbers that records of a log have named lie below the end, so the numbers of a replay are in order.
use Rattle.std.proofs.Common.{◌≡◌, ℕ, ◌+◌, ◌≤◌, ◌<◌, ◌==◌, Bool, true, false, cond, List, [], ◌∷◌, ◌++◌, sym, subst, arith}
use Rattle.std.specs.List.{AllByRecursion as Each}
use Rattle.tsdb_state.proofs.ImageLemmas.Numbers.{opened_numbers}
use Rattle.tsdb_base.proofs.Lists.{each_append}
use Rattle.tsdb_base.specs.Lists.{count}
use Rattle.tsdb_log.specs.declared.record.LogRecord.{LogRecord}
use Rattle.tsdb_log.specs.declared.record.LogRecord.TheVariants.{Create, Delete, Flushed, Freeze, Insert, Replaced, Snapshot}
use Rattle.tsdb_state.specs.Replays.{Replays}
use Rattle.tsdb_state.specs.Stores.{Recorded, store_steps}
use Rattle.tsdb_state.proofs.Counting.{is_or_not}
use Rattle.tsdb_state.specs.Jobs.{NumbersInOrder}
use Rattle.tsdb_base.specs.Limits.{end_of_numbers}
use Rattle.tsdb_state.specs.Records.{CanFollow, names}
use Rattle.tsdb_state.specs.State.{StoreState}

abbrev AreBelow : List ℕ → Type 0
AreBelow numbers = Each (λ number. number < end_of_numbers) numbers

below : (named : List ℕ) (item : LogRecord) (store : StoreState) → CanFollow named item store → AreBelow (names item)
below named (Create path data_type encoding) store can = tt
below named (Insert time cells) store can = tt
below named (Delete path range) store can = tt
below named Freeze store can = tt
below named (Flushed sequence unsequence) store can = can.fresh.within
below named (Replaced born space place output sequence unsequence) store can = can.fresh.within
below named (Snapshot snapshot) store can = absurd can

below_all : (items : List LogRecord) (old new : Recorded) → Replays store_steps old items new → AreBelow old.named
    → AreBelow new.named
below_all [] old new same all = subst (λ (r : Recorded). AreBelow r.named) (sym same) all
below_all (item ∷ items) old new replays all = below_all items replays.0 new replays.2
    (subst (λ (r : Recorded). AreBelow r.named) (sym replays.1.1)
    (each_append (λ number. number < end_of_numbers) (names item) old.named
    (below old.named item old.store replays.1.0) all))

-- what holds of each element holds of a number that is counted
counted_has : (P : ℕ → Type 0) (n : ℕ) (xs : List ℕ) → Each P xs → 1 ≤ count n xs → P n
counted_has P n [] all some = absurd (omega (arith, some))
counted_has P n (x ∷ xs) all some = is_or_not x n (λ same. subst P same all.0)
    (λ other. counted_has P n xs all.1 (later (x == n) (count n xs) other some))
  where
    later : (b : Bool) (m : ℕ) → b ≡ false → 1 ≤ cond b 1 0 + m → 1 ≤ m
    later true m e some = absurd cc
    later false m e some = omega (arith, some)

-- the numbers of a replay are in order
pub replay_numbers : (items : List LogRecord) (recorded : Recorded)
    → Replays store_steps store_steps.new_store items recorded
    → NumbersInOrder recorded.named end_of_numbers ((recorded.store.sequence ++ recorded.store.unsequence) ++ []) []
replay_numbers items recorded replays = opened_numbers items recorded end_of_numbers replays (omega arith) (omega arith)
    (λ n some. counted_has (λ number. number < end_of_numbers) n recorded.named
    (below_all items store_steps.new_store recorded replays tt) some)
