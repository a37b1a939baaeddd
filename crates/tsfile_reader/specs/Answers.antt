-- What a call that reads a file through a port answers.
use Rattle.std.specs.Prelude.{ℕ, ◌≤◌, List, Result, Ok, Err, IfSome, IsErrOf}
use Rattle.std.specs.declared.option.Option.{Option}
use Rattle.tsdb_fields.specs.declared.fault.FieldFault.{FieldFault}
use Rattle.tsdb_fields.specs.declared.fault.FieldFault.TheVariants as field
use Rattle.tsdb_index.specs.declared.fault.IndexFault.{IndexFault}
use Rattle.tsdb_index.specs.declared.fault.IndexFault.TheVariants as index
use Rattle.tsdb_base.specs.Causes.{Rose}
use Rattle.tsfile_reader.specs.declared.fault.ReadFault.{ReadFault}
use Rattle.tsfile_reader.specs.declared.fault.ReadFault.TheVariants.{Failed, Damaged, Memory}

-- the count never falls, and the call returns `Failed` only where the count has risen
pub record HasReadCause {T : Type 0} (before now : ℕ) (result : Result T ReadFault) : Type 0 where
  pub later : before ≤ now
  pub failed : IsErrOf result Failed → Rose before now

-- Where the bytes are told: what is read is so in them, and a place of damage is one that they blame.
abbrev pub Answers : {T : Type 0} → (List ℕ → T → Type 0) → (List ℕ → ℕ → Type 0) → Option (List ℕ) → Result T ReadFault
    → Type 0
Answers Is Blame told (Ok found) = IfSome told (λ bytes. Is bytes found)
Answers Is Blame told (Err (Damaged at)) = IfSome told (λ bytes. Blame bytes at)
Answers Is Blame told (Err Failed) = Unit {0}
Answers Is Blame told (Err Memory) = Unit {0}

-- where damage is answered, this holds of its place
abbrev pub IfDamaged : {T : Type 0} → Result T ReadFault → (ℕ → Type 0) → Type 0
IfDamaged (Ok found) P = Unit {0}
IfDamaged (Err (Damaged at)) P = P at
IfDamaged (Err Failed) P = Unit {0}
IfDamaged (Err Memory) P = Unit {0}

-- no damage is answered
abbrev pub IsNotDamaged : {T : Type 0} → Result T ReadFault → Type 0
IsNotDamaged (Ok found) = Unit {0}
IsNotDamaged (Err (Damaged at)) = ⊥
IsNotDamaged (Err Failed) = Unit {0}
IsNotDamaged (Err Memory) = Unit {0}

-- the fault of the part at this place, of which a field could not be read
abbrev pub as_read_fault : ℕ → FieldFault → ReadFault
as_read_fault at (field.Bad place) = Damaged at
as_read_fault at field.Memory = Memory

-- the fault of an index
abbrev pub of_index : IndexFault → ReadFault
of_index (index.Bad at) = Damaged at
of_index index.Memory = Memory
