-- What a change answers whose record was appended, or whose append failed.
use Rattle.std.proofs.Common.{◌≡◌, ◌∙◌, ℕ, List, [], ◌∷◌, ◌++◌, None, Result, Ok, Err, ap}
use Rattle.std.specs.Prelude.{◌<◌, IsSome}
use Rattle.std.specs.Result.{IsErr}
use Rattle.tsdb_base.specs.declared.answers.Answer.TheVariants.{Done}
use Rattle.tsdb_memory.specs.Answers.{IsAccepted, IsCreateAnswer, IsDeleteAnswer, IsFreezeAnswer, answer_by}
use Rattle.tsdb_memory.specs.StateOfMemory.{number_of}
use Rattle.tsdb_memory.specs.Store.{FrozenPair, MemoryState, frozen_with_working}
use Rattle.tsdb_memtable.specs.Pairs.{Pair}
use Rattle.tsdb_outside.specs.declared.faults.StoreFault.{StoreFault}
use Rattle.tsdb_outside.specs.declared.faults.StoreFault.TheVariants as fault
use Rattle.tsdb_base.specs.Limits.{end_of_numbers}

pub create_answered : (store : MemoryState) (path : List ℕ) (result : Result (Unit {0}) StoreFault)
    → number_of store.series path ≡ None → store.stamp < end_of_numbers → IsCreateAnswer store path (answer_by result)
create_answered store path (Ok done) free stamp = (free, stamp)
create_answered store path (Err fault.Failed) free stamp = (free, stamp)
create_answered store path (Err fault.Memory) free stamp = tt

pub delete_answered : (store : MemoryState) (path : List ℕ) (result : Result (Unit {0}) StoreFault)
    → IsSome (number_of store.series path) → store.stamp < end_of_numbers
    → IsDeleteAnswer store path (answer_by result)
delete_answered store path (Ok done) there stamp = (there, stamp)
delete_answered store path (Err fault.Failed) there stamp = (there, stamp)
delete_answered store path (Err fault.Memory) there stamp = tt

pub insert_answered : (stamp : ℕ) (result : Result (Unit {0}) StoreFault) → stamp < end_of_numbers
    → IsAccepted stamp (answer_by result)
insert_answered stamp (Ok done) below = below
insert_answered stamp (Err fault.Failed) below = below
insert_answered stamp (Err fault.Memory) below = tt

pub freeze_answered : (result : Result (Unit {0}) StoreFault) → IsFreezeAnswer (answer_by result)
freeze_answered (Ok done) = tt
freeze_answered (Err fault.Failed) = tt
freeze_answered (Err fault.Memory) = tt

-- where it failed, nothing is done
pub err_not_done : (result : Result (Unit {0}) StoreFault) → IsErr result → answer_by result ≡ Done → ⊥
err_not_done (Ok outcome) is done = cc
err_not_done (Err fault.Failed) is done = cc
err_not_done (Err fault.Memory) is done = cc

-- the frozen pairs after a freeze depend on the pairs and the stamp alone
pub same_frozen : (old new : MemoryState) → new.frozen ≡ old.frozen → new.stamp ≡ old.stamp → new.working ≡ old.working
    → frozen_with_working new ≡ frozen_with_working old
same_frozen old new frozen stamp working =
    ap (λ (f : List FrozenPair). made f new.stamp new.working) frozen
    ∙ ap (λ (n : ℕ). made old.frozen n new.working) stamp
    ∙ ap (λ (p : Pair). made old.frozen old.stamp p) working
  where
    made : List FrozenPair → ℕ → Pair → List FrozenPair
    made frozen stamp working = frozen ++ record { born = stamp; pair = working } ∷ []
