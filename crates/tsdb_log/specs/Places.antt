-- How far bytes are those of fields.
use Rattle.std.specs.Prelude.{◌≡◌, ℕ, ◌+◌, ◌<◌, ◌≤◌, List, ◌++◌, length, Result, Ok, Err}
use Rattle.tsdb_log.specs.declared.fault.LogFault.{LogFault}
use Rattle.tsdb_log.specs.declared.fault.LogFault.TheVariants.{Memory}
use Rattle.tsdb_log.specs.declared.record.LogRecord.{LogRecord}
use Rattle.tsdb_log.specs.Spelling.{joined_fields, fields, spelling, IsRecord}

-- the bytes up to this place are the first fields of something that is written in such fields
pub record ReachesField {A : Type 0} (fields : A → List (List ℕ)) (Is : A → Type 0) (bytes : List ℕ)
    (at : ℕ) : Type 0 where
  pub whole : A
  pub is : Is whole
  pub first : List (List ℕ)
  pub more : List (List ℕ)
  pub rest : List ℕ
  pub begins : fields whole ≡ first ++ more
  pub splits : bytes ≡ joined_fields first ++ rest
  pub place : at ≡ length (joined_fields first)

-- this is the furthest such place: there stands the first field that is none, or the first byte after the last field
pub record IsFurthest {A : Type 0} (fields : A → List (List ℕ)) (Is : A → Type 0) (bytes : List ℕ)
    (at : ℕ) : Type 0 where
  pub reached : ReachesField fields Is bytes at
  pub none_beyond : (place : ℕ) → ReachesField fields Is bytes place → place ≤ at

-- no record has these bytes
abbrev pub SpellNoRecord : List ℕ → Type 0
SpellNoRecord bytes = (item : LogRecord) → IsRecord item → bytes ≡ spelling item → ⊥

-- no record has these bytes, and up to this place they are fields of a record
pub record IsBadRecord (bytes : List ℕ) (at : ℕ) : Type 0 where
  pub none : SpellNoRecord bytes
  pub place : IsFurthest fields IsRecord bytes at

-- no record begins with these bytes
abbrev pub BeginNoRecord : List ℕ → Type 0
BeginNoRecord bytes = (item : LogRecord) (behind : List ℕ) → IsRecord item → bytes ++ behind ≡ spelling item → ⊥

-- the most bytes of a field: those of a text, and of its length before it
abbrev pub most_field_bytes : ℕ
most_field_bytes = 65537

-- the bytes are fields of a record up to a place from which on they may be a field that is cut
abbrev pub AreFieldsNearTheirEnd : List ℕ → Type 0
AreFieldsNearTheirEnd bytes = (at : ℕ) → IsFurthest fields IsRecord bytes at → length bytes < at + most_field_bytes

-- the record was read, or memory ran out
abbrev pub IsReadAs : LogRecord → Result LogRecord LogFault → Type 0
IsReadAs item (Ok found) = found ≡ item
IsReadAs item (Err fault) = fault ≡ Memory
