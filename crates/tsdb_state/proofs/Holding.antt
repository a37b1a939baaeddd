-- Over each step the rights that are out are those of the jobs and pins, and the room kept is enough for the jobs.
use Rattle.std.proofs.Common.{◌≡◌, ℕ, zero, suc, ◌+◌, ◌-◌, ◌≤◌, Bool, true, false, cond, not, List, [], ◌∷◌, ◌++◌}
use Rattle.std.proofs.Common.{length}
use Rattle.std.proofs.Common.{refl, sym, ap, ◌∙◌, subst, arith}
use Rattle.std.specs.Prelude.{◌||◌, nat_eq, sum_by}
use Rattle.std.specs.List.{AllByRecursion as Each, filter, flat_map, list_any}
use Rattle.std.proofs.lemmas.Bool.{false≢true}
use Rattle.std.proofs.lemmas.List.Sums.{sum_by-append, sum_by-cons}
use Rattle.tsdb_base.specs.declared.ids.Space.TheVariants.{Sequence, Unsequence}
use Rattle.tsdb_base.specs.Lists.{IsWithOne, count, if_some}
use Rattle.tsdb_base.proofs.Lists.{count_append, each_weaker, with_one_each}
use Rattle.tsdb_state.specs.Jobs.{KeepsRoom, RightsMatch, drawn_by, held_numbers, job_inputs}
use Rattle.tsdb_state.specs.Jobs.{outgoing_places, output_places, pin_numbers}
use Rattle.tsdb_state.specs.Order.{all_files}
use Rattle.tsdb_state.specs.Records.{numbers_of}
use Rattle.tsdb_state.specs.State.{Compaction, EngineState, File, FlushState, PinState, Room}
use Rattle.tsdb_state.specs.Steps.{room_for_compaction, room_for_flush, swept, with_rights, without_rights}
use Rattle.tsdb_state.proofs.Counting.{is_or_not, rights_match}
use Rattle.tsdb_state.proofs.Numbering.{count_files, count_with_one}

-- rights

count_held : (n : ℕ) (compactions : List Compaction) (pins : List PinState)
    → count n (held_numbers compactions pins)
    ≡ count n (flat_map (λ job. numbers_of (job_inputs job)) compactions) + count n (flat_map pin_numbers pins)
count_held n compactions pins = count_append n _ _

-- the rights of a state match
abbrev pub HasRights : EngineState → Type 0
HasRights state = RightsMatch state.rights (all_files state) (held_numbers state.compactions state.pins)

-- a job or a pin takes rights on files that are there
pub rights_taken : (rights : ℕ → ℕ) (files : List File) (held taken left : List ℕ) → RightsMatch rights files held
    → ((n : ℕ) → count n left ≡ count n taken + count n held)
    → ((n : ℕ) → 1 ≤ count n taken → 1 ≤ count n (numbers_of files))
    → RightsMatch (with_rights taken rights) files left
rights_taken rights files held taken left match is there = record {
  counts = λ n. omega (arith, match.counts n, is n);
  there = λ n some. by n some (count n taken) refl;
}
  where
    by : (n : ℕ) → 1 ≤ count n left → (m : ℕ) → count n taken ≡ m → 1 ≤ count n (numbers_of files)
    by n some zero none = match.there n (omega (arith, is n, none, some))
    by n some (suc m) new = there n (omega (arith, new))

-- and gives them back
pub rights_returned : (rights : ℕ → ℕ) (files more : List File) (held taken left : List ℕ)
    → RightsMatch rights files held → ((n : ℕ) → count n held ≡ count n taken + count n left)
    → ((n : ℕ) → count n (numbers_of files) ≤ count n (numbers_of more))
    → RightsMatch (without_rights taken rights) more left
rights_returned rights files more held taken left match is kept = rights_match _ _ _ _ _ _ match
    (λ n. omega (arith, match.counts n, is n)) (λ n some. omega (arith, is n, some)) (λ n some. kept n)

one_more : {X : Type 0} (x : X) (xs : List X) → IsWithOne x xs (x ∷ xs)
one_more x xs = record { before = []; behind = xs; with_it = refl; without = refl }

pub held_by_job : (n : ℕ) (job : Compaction) (others all : List Compaction) (pins : List PinState) → IsWithOne job others all
    → count n (held_numbers all pins) ≡ count n (numbers_of (job_inputs job)) + count n (held_numbers others pins)
held_by_job n job others all pins out = omega (
  arith,
  count_held n all pins,
  count_held n others pins,
  count_with_one (λ (job : Compaction). numbers_of (job_inputs job)) n job others all out,
)

pub held_by_pin : (n : ℕ) (pin : PinState) (others all : List PinState) (compactions : List Compaction) → IsWithOne pin others all
    → count n (held_numbers compactions all) ≡ count n (pin_numbers pin) + count n (held_numbers compactions others)
held_by_pin n pin others all compactions out = omega (
  arith,
  count_held n compactions all,
  count_held n compactions others,
  count_with_one pin_numbers n pin others all out,
)

pub held_with_job : (n : ℕ) (job : Compaction) (compactions : List Compaction) (pins : List PinState)
    → count n (held_numbers (job ∷ compactions) pins)
    ≡ count n (numbers_of (job_inputs job)) + count n (held_numbers compactions pins)
held_with_job n job compactions pins = held_by_job n job compactions _ pins (one_more _ _)

pub held_with_pin : (n : ℕ) (pin : PinState) (compactions : List Compaction) (pins : List PinState)
    → count n (held_numbers compactions (pin ∷ pins))
    ≡ count n (pin_numbers pin) + count n (held_numbers compactions pins)
held_with_pin n pin compactions pins = held_by_pin n pin pins _ compactions (one_more _ _)

-- a sweep leaves each file on which a right is out
count_kept : (n : ℕ) (numbers : List ℕ) (files : List File) → list_any (nat_eq n) numbers ≡ false
    → count n (numbers_of files)
    ≤ count n (numbers_of (filter (λ file. not (list_any (nat_eq file.number) numbers)) files))
count_kept n numbers [] out = omega arith
count_kept n numbers (file ∷ files) out = by (list_any (nat_eq file.number) numbers) refl
    (count_kept n numbers files out)
  where
    left : List File
    left = filter (λ file. not (list_any (nat_eq file.number) numbers)) files

    by : (b : Bool) → list_any (nat_eq file.number) numbers ≡ b → count n (numbers_of files) ≤ count n (numbers_of left)
        → count n (numbers_of (file ∷ files)) ≤ count n (numbers_of (cond (not b) (file ∷ left) left))
    by true e rest = is_or_not file.number n (λ same. absurd (false≢true
        (sym out ∙ subst (λ m. list_any (nat_eq m) numbers ≡ true) same e))) (λ other. rw other (omega (arith, rest)))
    by false e rest = omega (arith, rest)

not_swept : (rights : ℕ → ℕ) (numbers : List ℕ) → Each (λ number. rights number ≡ 0) numbers → (n : ℕ) → 1 ≤ rights n
    → list_any (nat_eq n) numbers ≡ false
not_swept rights [] free n some = refl
not_swept rights (m ∷ numbers) free n some = by (nat_eq n m) refl (not_swept rights numbers free.1 n some)
  where
    by : (b : Bool) → nat_eq n m ≡ b → list_any (nat_eq n) numbers ≡ false
        → (b || list_any (nat_eq n) numbers) ≡ false
    by true e rest = absurd (let same : n ≡ m = grind (arith, e) in omega (arith, some, ap rights same, free.0))
    by false e rest = rest

pub swept_rights : (numbers : List ℕ) (state : EngineState) → Each (λ number. state.rights number ≡ 0) numbers
    → HasRights state → HasRights (swept numbers state)
swept_rights numbers state free match = rights_match _ _ _ _ _ _ match match.counts (λ n some. some) (λ n some. omega (
  arith,
  count_files n (state.store.sequence ++ state.store.unsequence) state.outgoing,
  count_files n (state.store.sequence ++ state.store.unsequence) (swept numbers state).outgoing,
  count_kept n numbers state.outgoing (not_swept state.rights numbers free n (omega (arith, match.counts n, some))),
))

-- room

sum_with_one : {X : Type 0} (f : X → ℕ) (x : X) (others all : List X) → IsWithOne x others all
    → sum_by f all ≡ f x + sum_by f others
sum_with_one f x others all out = omega (
  arith,
  ap (sum_by f) out.with_it,
  ap (sum_by f) out.without,
  sum_by-append f out.before (x ∷ out.behind),
  sum_by-append f out.before out.behind,
  sum_by-cons f x out.behind,
)

-- a flush or a compaction more, or one less, with the room for its end
record FlushSums (flush : FlushState) (others all : List FlushState) : Type 0 where
  sequence : sum_by (λ f. length (if_some f.sequence)) all
      ≡ length (if_some flush.sequence) + sum_by (λ f. length (if_some f.sequence)) others
  unsequence : sum_by (λ f. length (if_some f.unsequence)) all
      ≡ length (if_some flush.unsequence) + sum_by (λ f. length (if_some f.unsequence)) others
  outgoing : sum_by (λ f. length (drawn_by f)) all
      ≡ length (drawn_by flush) + sum_by (λ f. length (drawn_by f)) others

flush_sums : (flush : FlushState) (others all : List FlushState) → IsWithOne flush others all → FlushSums flush others all
flush_sums flush others all out = record {
  sequence = sum_with_one _ _ _ _ out;
  unsequence = sum_with_one _ _ _ _ out;
  outgoing = sum_with_one _ _ _ _ out;
}

pub room_with_flush : (flush : FlushState) (room : Room) (flushes : List FlushState) (compactions : List Compaction)
    → KeepsRoom room flushes compactions
    → KeepsRoom (room_for_flush (λ a b. a + b) flush room) (flush ∷ flushes) compactions
room_with_flush flush room flushes compactions keeps =
    let sums = flush_sums flush flushes (flush ∷ flushes) (one_more flush flushes) in
    record {
      sequence = omega (arith, sums.sequence, keeps.sequence);
      unsequence = omega (arith, sums.unsequence, keeps.unsequence);
      outgoing = omega (arith, sums.outgoing, keeps.outgoing);
      flushed = (omega arith, each_weaker _ _ (λ f fits. omega (arith, fits)) flushes keeps.flushed);
      replaced = each_weaker _ _ (λ job fits. omega (arith, fits)) compactions keeps.replaced;
    }

pub room_without_flush : (flush : FlushState) (others : List FlushState) (room : Room) (flushes : List FlushState)
    (compactions : List Compaction) → IsWithOne flush others flushes → KeepsRoom room flushes compactions
    → KeepsRoom (room_for_flush (λ a b. a - b) flush room) others compactions
room_without_flush flush others room flushes compactions out keeps =
    let sums = flush_sums _ _ _ out in
    record {
      sequence = omega (arith, sums.sequence, keeps.sequence);
      unsequence = omega (arith, sums.unsequence, keeps.unsequence);
      outgoing = omega (arith, sums.outgoing, keeps.outgoing);
      flushed = each_weaker _ _ (λ f fits. omega (arith, fits)) _ (with_one_each _ _ _ _ out keeps.flushed);
      replaced = each_weaker _ _ (λ job fits. omega (arith, fits)) _ keeps.replaced;
    }

record CompactionSums (job : Compaction) (others all : List Compaction) : Type 0 where
  sequence : sum_by (λ job. output_places Sequence job.space) all
      ≡ output_places Sequence job.space + sum_by (λ job. output_places Sequence job.space) others
  unsequence : sum_by (λ job. output_places Unsequence job.space) all
      ≡ output_places Unsequence job.space + sum_by (λ job. output_places Unsequence job.space) others
  outgoing : sum_by outgoing_places all ≡ outgoing_places job + sum_by outgoing_places others

compaction_sums : (job : Compaction) (others all : List Compaction) → IsWithOne job others all
    → CompactionSums job others all
compaction_sums job others all out = record {
  sequence = sum_with_one _ _ _ _ out;
  unsequence = sum_with_one _ _ _ _ out;
  outgoing = sum_with_one _ _ _ _ out;
}

pub room_with_compaction : (job : Compaction) (room : Room) (flushes : List FlushState) (compactions : List Compaction)
    → KeepsRoom room flushes compactions
    → KeepsRoom (room_for_compaction (λ a b. a + b) job room) flushes (job ∷ compactions)
room_with_compaction job room flushes compactions keeps =
    let sums = compaction_sums job compactions (job ∷ compactions) (one_more job compactions) in
    record {
      sequence = omega (arith, sums.sequence, keeps.sequence);
      unsequence = omega (arith, sums.unsequence, keeps.unsequence);
      outgoing = omega (arith, sums.outgoing, keeps.outgoing);
      flushed = each_weaker _ _ (λ f fits. omega (arith, fits)) flushes keeps.flushed;
      replaced = (omega arith, each_weaker _ _ (λ job fits. omega (arith, fits)) compactions keeps.replaced);
    }

pub room_without_compaction : (job : Compaction) (others : List Compaction) (room : Room) (flushes : List FlushState)
    (compactions : List Compaction) → IsWithOne job others compactions → KeepsRoom room flushes compactions
    → KeepsRoom (room_for_compaction (λ a b. a - b) job room) flushes others
room_without_compaction job others room flushes compactions out keeps =
    let sums = compaction_sums _ _ _ out in
    record {
      sequence = omega (arith, sums.sequence, keeps.sequence);
      unsequence = omega (arith, sums.unsequence, keeps.unsequence);
      outgoing = omega (arith, sums.outgoing, keeps.outgoing);
      flushed = each_weaker _ _ (λ f fits. omega (arith, fits)) _ keeps.flushed;
      replaced = each_weaker _ _ (λ job fits. omega (arith, fits)) _ (with_one_each _ _ _ _ out keeps.replaced);
    }
