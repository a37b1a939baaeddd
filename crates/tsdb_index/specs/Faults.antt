-- What reading an index answers.
use Rattle.std.specs.Prelude.{ℕ, List, Result, Ok, Err}
use Rattle.tsdb_fields.specs.declared.fault.FieldFault.{FieldFault}
use Rattle.tsdb_fields.specs.declared.fault.FieldFault.TheVariants as field
use Rattle.tsdb_index.specs.declared.fault.IndexFault.{IndexFault}
use Rattle.tsdb_index.specs.declared.fault.IndexFault.TheVariants.{Bad, Memory}
use Rattle.tsdb_index.specs.declared.index.IndexEntry.{IndexEntry}
use Rattle.tsdb_index.specs.Entries.{IsIndex}
use Rattle.tsdb_index.specs.Parts.{IsFirstBadIndexPart}
use Rattle.tsdb_index.specs.Spelling.{IsIndexSpelling}

-- these are the entries of the index that the bytes are
pub record IsIndexRead (version place root : ℕ) (bytes : List ℕ) (entries : List IndexEntry) : Type 0 where
  pub index : IsIndex version entries
  pub spelling : IsIndexSpelling place root entries bytes

-- no index is written so
abbrev pub IsNone : ℕ → ℕ → ℕ → List ℕ → Type 0
IsNone version place root bytes = (entries : List IndexEntry) → IsIndexRead version place root bytes entries → ⊥

-- no index is written so, and its first bad part begins at this place
abbrev pub IsIndexFault : ℕ → ℕ → ℕ → List ℕ → IndexFault → Type 0
IsIndexFault version place root bytes (Bad at) =
    IsNone version place root bytes × IsFirstBadIndexPart version place root bytes at
IsIndexFault version place root bytes Memory = Unit {0}

-- all of the bytes are these things, or they are none, unless memory runs out
abbrev pub ReadsWhole : {A B : Type 0} → (A → Type 0) → (B → A) → Result B FieldFault → Type 0
ReadsWhole IsIt view (Ok found) = IsIt (view found)
ReadsWhole {A} IsIt view (Err (field.Bad at)) = (it : A) → IsIt it → ⊥
ReadsWhole IsIt view (Err field.Memory) = Unit {0}

-- the fault of the part at this place, of which a field could not be read
abbrev pub as_index_fault : ℕ → FieldFault → IndexFault
as_index_fault at (field.Bad place) = Bad at
as_index_fault at field.Memory = Memory
