-- What a change answers, by what is in memory.
use Rattle.std.specs.Prelude.{◌≡◌, ◌<◌, ℕ, List, None, IsSome, Result}
use Rattle.std.specs.declared.result.Result.TheVariants.{Ok, Err}
use Rattle.tsdb_base.specs.declared.answers.Answer.{Answer}
use Rattle.tsdb_base.specs.declared.answers.Answer.TheVariants.{Done, NoPath, WrongType, Exists, Device, Memory, Full}
use Rattle.tsdb_memory.specs.StateOfMemory.{number_of}
use Rattle.tsdb_memory.specs.Store.{MemoryState}
use Rattle.tsdb_outside.specs.declared.faults.StoreFault.{StoreFault}
use Rattle.tsdb_outside.specs.declared.faults.StoreFault.TheVariants as store
use Rattle.tsdb_base.specs.Limits.{end_of_numbers}

-- the answers to a change that the map accepts: full exactly where the stamp is at its end, and then with it
abbrev pub IsAccepted : ℕ → Answer → Type 0
IsAccepted stamp Done = stamp < end_of_numbers
IsAccepted stamp Device = stamp < end_of_numbers
IsAccepted stamp Memory = Unit {0}
IsAccepted stamp (Full counter) = (stamp ≡ end_of_numbers) × (counter ≡ stamp)
IsAccepted stamp NoPath = ⊥
IsAccepted stamp WrongType = ⊥
IsAccepted stamp Exists = ⊥

-- what a creation answers: a series of the path is there, or it is accepted
abbrev pub IsCreateAnswer : MemoryState → List ℕ → Answer → Type 0
IsCreateAnswer store path Exists = IsSome (number_of store.series path)
IsCreateAnswer store path Done = (number_of store.series path ≡ None) × IsAccepted store.stamp Done
IsCreateAnswer store path Device = (number_of store.series path ≡ None) × IsAccepted store.stamp Device
IsCreateAnswer store path Memory = Unit {0}
IsCreateAnswer store path (Full counter) = (number_of store.series path ≡ None) × IsAccepted store.stamp (Full counter)
IsCreateAnswer store path NoPath = ⊥
IsCreateAnswer store path WrongType = ⊥

-- what a deletion answers: no series of the path is there, or it is accepted
abbrev pub IsDeleteAnswer : MemoryState → List ℕ → Answer → Type 0
IsDeleteAnswer store path NoPath = number_of store.series path ≡ None
IsDeleteAnswer store path Done = IsSome (number_of store.series path) × IsAccepted store.stamp Done
IsDeleteAnswer store path Device = IsSome (number_of store.series path) × IsAccepted store.stamp Device
IsDeleteAnswer store path Memory = Unit {0}
IsDeleteAnswer store path (Full counter) = IsSome (number_of store.series path) × IsAccepted store.stamp (Full counter)
IsDeleteAnswer store path WrongType = ⊥
IsDeleteAnswer store path Exists = ⊥

-- what a freeze answers
abbrev pub IsFreezeAnswer : Answer → Type 0
IsFreezeAnswer Done = Unit {0}
IsFreezeAnswer NoPath = ⊥
IsFreezeAnswer WrongType = ⊥
IsFreezeAnswer Exists = ⊥
IsFreezeAnswer Device = Unit {0}
IsFreezeAnswer Memory = Unit {0}
IsFreezeAnswer (Full counter) = ⊥

-- nothing was changed, in memory and in the log
abbrev pub IsRefusal : Answer → Type 0
IsRefusal Done = ⊥
IsRefusal NoPath = Unit {0}
IsRefusal WrongType = Unit {0}
IsRefusal Exists = Unit {0}
IsRefusal Device = ⊥
IsRefusal Memory = ⊥
IsRefusal (Full counter) = Unit {0}

-- what a change answers, by how its record was appended
abbrev pub answer_by : Result (Unit {0}) StoreFault → Answer
answer_by (Ok done) = Done
answer_by (Err store.Failed) = Device
answer_by (Err store.Memory) = Memory
