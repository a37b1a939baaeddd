-- The oldest frozen pair in memory, by the first of them.
use Rattle.std.proofs.Common.{◌≡◌, ℕ, ◌+◌, ◌<◌, ◌≤◌, true, false, List, [], ◌∷◌, ◌++◌, length, map, Option, None, Some, ⊎_elim}
use Rattle.std.proofs.Common.{Bool, zero, suc, ap, arith, length-append, refl, sym, subst, ◌∙◌, nat_eq, nat_lt}
use Rattle.std.proofs.lemmas.Bool.{eq-eqb, eqb-true, false≢true}
use Rattle.std.proofs.lemmas.Bool.Decides.{nat_tests}
use Rattle.std.specs.Arc.{arc_value}
use Rattle.std.specs.List.{AllByRecursion as Each, range_with_len}
use Rattle.std.specs.Option.{IsSomeAnd}
use Rattle.std.specs.Prelude.{◌↔◌, IsTrue, slice_get}
use Rattle.tsdb_fileset.specs.FlushJob.{FlushJob}
use Rattle.tsdb_memory.specs.Model.{AreFrozenInTurn, frozen_in}
use Rattle.tsdb_memory.specs.LogState.{memory_of}
use Rattle.tsdb_memory.specs.Store.{FrozenPair, MemoryState}
use Rattle.tsdb_memory.specs.declared.store.FrozenPair as declared
use Rattle.tsdb_core.specs.Ending.{IsLeastWith, drawn_for, numbers_if}
use Rattle.tsdb_core.proofs.Jobs.{range_from}
use Rattle.tsdb_core.specs.Core.{flushed_below, logged_of}
use Rattle.tsdb_core.specs.Flushes.{HasOldestBorn, IsDue, IsOldestPair}
use Rattle.tsdb_core.specs.declared.engine.Core.{Core}
use Rattle.tsdb_base.specs.declared.ids.FileNumber.{FileNumber}
use Rattle.tsdb_base.specs.declared.ids.Stamp.{Stamp}
use Rattle.tsdb_base.proofs.Lists.{among_left, among_right, each_all, each_append, each_left, each_map, each_right}
use Rattle.tsdb_base.proofs.Lists.{each_weaker}
use Rattle.tsdb_base.specs.Lists.{if_some}
use Rattle.tsdb_outside.specs.declared.disk.Disk as disk
use Rattle.tsdb_outside.specs.declared.faults.Counted as counted
use Rattle.tsdb_memory.proofs.Borns.{least_push}
use Rattle.tsdb_memory.proofs.Counts.{among_either}
use Rattle.tsdb_memory.specs.Least.{IsLeastOf, lesser_born}
use Rattle.std.proofs.lemmas.List.{append-nil, length-map}

pub first_pair : (pairs : List declared.FrozenPair) (pair : declared.FrozenPair) (store : MemoryState) (job : FlushJob) (born
    : ℕ)
    → map frozen_in pairs ≡ store.frozen → Some pair ≡ slice_get pairs 0 → born ≡ (frozen_in pair).born
    → IsTrue (nat_eq born job.born.0) ↔ HasOldestBorn job store
first_pair [] pair store job born are first is = absurd cc
first_pair (other ∷ pairs) pair store job born are first is = (
  λ same. subst (λ (list : List FrozenPair). IsSomeAnd (slice_get list 0) (λ p. p.born ≡ job.born.0)) are
      (born_is ∙ eqb-true born job.born.0 same),
  λ oldest. eq-eqb born job.born.0 (sym born_is
      ∙ subst (λ (list : List FrozenPair). IsSomeAnd (slice_get list 0) (λ p. p.born ≡ job.born.0)) (sym are) oldest),
)
  where
    same_pair : pair ≡ other
    same_pair = cc

    born_is : (frozen_in other).born ≡ born
    born_is = ap (λ (p : declared.FrozenPair). (frozen_in p).born) (sym same_pair) ∙ sym is

pub no_pair : (pairs : List declared.FrozenPair) (store : MemoryState) (job : FlushJob) → map frozen_in pairs ≡ store.frozen
    → None ≡ slice_get pairs 0 → IsTrue false ↔ HasOldestBorn job store
no_pair [] store job are none = (
  (λ is. absurd (false≢true is)),
  (λ oldest. absurd (subst (λ (list : List FrozenPair). IsSomeAnd (slice_get list 0) (λ p. p.born ≡ job.born.0)) (sym
      are)
      oldest)),
)
no_pair (other ∷ pairs) store job are none = absurd cc

module _ {J F S R P : Type 0} {means : disk.Ghosts J} {counts : counted.Ghosts J} where
  -- a job of the oldest pair with numbers from the next one on is of the oldest pair, since none was committed there
  pub oldest_still : (new : Core J F S R P means counts) (job : FlushJob) (next k : ℕ) (pairs : List FrozenPair)
      → (memory_of (logged_of new)).frozen ≡ pairs
      → IsSomeAnd (slice_get pairs 0) (λ pair. (pair.born ≡ job.born.0) × (pair.pair ≡ arc_value job.pair))
      → drawn_for job ≡ range_with_len next k → flushed_below new ≤ next → IsOldestPair new job
  oldest_still new job next k pairs same oldest numbers low = record {
    born = subst (λ (frozen : List FrozenPair). IsSomeAnd (slice_get frozen 0) (λ pair. pair.born ≡ job.born.0))
        (sym same) (born_of (slice_get pairs 0) oldest);
    since = subst (Each (λ n. flushed_below new ≤ n)) (sym numbers) (range_from (flushed_below new) next k low);
  }
    where
      born_of : (o : Option FrozenPair)
          → IsSomeAnd o (λ pair. (pair.born ≡ job.born.0) × (pair.pair ≡ arc_value job.pair))
          → IsSomeAnd o (λ pair. pair.born ≡ job.born.0)
      born_of None is = is
      born_of (Some pair) is = is.0

pub due_pair : (pairs : List declared.FrozenPair) (pair : declared.FrozenPair) (born upto : ℕ) (test : Bool)
    → Some pair ≡ slice_get pairs 0 → born ≡ (frozen_in pair).born → IsTrue test ↔ (born ≤ upto)
    → IsTrue test ↔ IsDue upto (map frozen_in pairs)
due_pair [] pair born upto test first is tested = absurd cc
due_pair (other ∷ pairs) pair born upto test first is tested = (
  λ holds. subst (λ b. b ≤ upto) born_is (tested.0 holds),
  λ due. tested.1 (subst (λ b. b ≤ upto) (sym born_is) due),
)
  where
    same_pair : pair ≡ other
    same_pair = cc

    born_is : born ≡ (frozen_in other).born
    born_is = is ∙ ap (λ (p : declared.FrozenPair). (frozen_in p).born) same_pair

pub none_due : (pairs : List declared.FrozenPair) (upto : ℕ) → None ≡ slice_get pairs 0
    → IsTrue false ↔ IsDue upto (map frozen_in pairs)
none_due [] upto none = ((λ is. absurd (false≢true is)), λ due. absurd due)
none_due (other ∷ pairs) upto none = absurd cc

not_reached : (a b : ℕ) → ¬ (a ≤ b) → b < a
not_reached a b not = by (nat_lt b a) refl
  where
    by : (t : Bool) → nat_lt b a ≡ t → b < a
    by true e = grind (arith, nat_tests)
    by false e = absurd (not (grind (arith, nat_tests)))

-- where the oldest is not due, no pair is: the others were not frozen before it
pub none_reached : (upto stamp : ℕ) (frozen : List FrozenPair) → AreFrozenInTurn stamp frozen → ¬ IsDue upto frozen
    → Each (λ pair. upto < pair.born) frozen
none_reached upto stamp [] are not = tt
none_reached upto stamp (oldest ∷ newer) are not = (
  first,
  each_weaker (λ (pair : FrozenPair). oldest.born ≤ pair.born) (λ pair. upto < pair.born)
      (λ pair h. omega (arith, first, h)) newer are.rising.0,
)
  where
    first : upto < oldest.born
    first = not_reached oldest.born upto not

-- ---- the least born with those of a job

pub count_is : (job : FlushJob) → length (drawn_for job) ≡ length (if_some job.sequence) + length (if_some
    job.unsequence)
count_is job = omega (
  arith,
  length-append (numbers_if job.sequence) (numbers_if job.unsequence),
  length-map (if_some job.sequence) (λ (n : FileNumber). n.0),
  length-map (if_some job.unsequence) (λ (n : FileNumber). n.0),
)

module _ (least : Option Stamp) (born : ℕ) (borns : List ℕ) (is : IsLeastOf least borns) where
  with_none : (numbers : List ℕ) → length numbers ≡ 0 → IsLeastOf least (borns ++ map (λ n. born) numbers)
  with_none [] none = subst (IsLeastOf least) (sym (append-nil borns)) is
  with_none (n ∷ numbers) none = absurd (omega (arith, none))

  with_some : (numbers : List ℕ) → 1 ≤ length numbers
      → IsLeastOf (Some (lesser_born least born)) (borns ++ map (λ n. born) numbers)
  with_some [] some = absurd (omega (arith, some))
  with_some (n ∷ numbers) some = (
    ⊎_elim (λ there. among_left borns (born ∷ map (λ n. born) numbers) (lesser_born least born).0 there)
        (λ there. among_right borns (born ∷ map (λ n. born) numbers) (lesser_born least born).0
        (among_left (born ∷ []) (map (λ n. born) numbers) (lesser_born least born).0 there))
        (among_either borns (born ∷ []) (lesser_born least born).0 pushed.0),
    each_append Above borns (born ∷ map (λ n. born) numbers) (each_left Above borns (born ∷ []) pushed.1)
        (last, each_map Above (λ (m : ℕ). born) numbers (each_all (λ m. Above born) (λ m. last) numbers)),
  )
    where
      Above : ℕ → Type 0
      Above b = (lesser_born least born).0 ≤ b

      pushed : IsLeastOf (Some (lesser_born least born)) (borns ++ born ∷ [])
      pushed = least_push least borns born is

      last : (lesser_born least born).0 ≤ born
      last = (each_right (λ b. (lesser_born least born).0 ≤ b) borns (born ∷ []) pushed.1).0

pub not_none : (n m : ℕ) → n ≡ m → (n ≡ 0 → ⊥) → 1 ≤ m
not_none zero m is never = absurd (never refl)
not_none (suc n) m is never = omega (arith, is)

pub least_without : (least : Option Stamp) (job : FlushJob) (borns : List ℕ)
    → length (if_some job.sequence) + length (if_some job.unsequence) ≡ 0 → IsLeastOf least borns
    → IsLeastWith least job borns
least_without least job borns none is = with_none least job.born.0 borns is (drawn_for job) (count_is job ∙ none)

pub least_with_job : (least : Option Stamp) (job : FlushJob) (borns : List ℕ)
    → 1 ≤ length (if_some job.sequence) + length (if_some job.unsequence) → IsLeastOf least borns
    → IsLeastWith (Some (lesser_born least job.born.0)) job borns
least_with_job least job borns some is =
    with_some least job.born.0 borns is (drawn_for job) (omega (arith, some, count_is job))
