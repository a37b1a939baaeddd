-- What reading some of the fields says. No public clause speaks of these.
use Rattle.std.specs.Prelude.{◌≡◌, ℕ, ◌+◌, List, ◌++◌, length, Result, Ok, Err}
use Rattle.tsdb_base.specs.Plain.{BeginsWithNone}
use Rattle.tsdb_fields.specs.declared.fault.FieldFault.{FieldFault}
use Rattle.tsdb_fields.specs.declared.fault.FieldFault.TheVariants.{Bad, Memory}
use Rattle.tsdb_fields.specs.declared.rest.Rest.{Rest}
use Rattle.tsdb_fields.specs.Reading.{TakesBytes}
use Rattle.tsdb_log.specs.declared.fault.LogFault.{LogFault}
use Rattle.tsdb_log.specs.declared.fault.LogFault.TheVariants as log
use Rattle.tsdb_log.specs.declared.record.LogRecord.{LogRecord}
use Rattle.tsdb_log.specs.Places.{IsFurthest}
use Rattle.tsdb_log.specs.Spelling.{joined_fields, fields, spelling, IsRecord}

-- bytes from a place on begin with none that is written in such fields, and up to this place they are its first ones
pub record IsMissingField {A : Type 0} (fields : A → List (List ℕ)) (Is : A → Type 0) (start : ℕ) (bytes : List ℕ)
    (at : ℕ) : Type 0 where
  pub none : BeginsWithNone (λ a. joined_fields (fields a)) Is bytes
  pub count : ℕ
  pub place : at ≡ start + count
  pub furthest : IsFurthest fields Is bytes count

-- no such fields stand there, and this fault says where they stop, or memory ran out
abbrev pub FailsToRead : {A : Type 0} → (A → List (List ℕ)) → (A → Type 0) → ℕ → List ℕ → FieldFault → Type 0
FailsToRead fields Is start bytes (Bad at) = IsMissingField fields Is start bytes at
FailsToRead fields Is start bytes Memory = Unit {0}

-- what is left begins with such fields, which are read, or the place where they stop is the fault's
abbrev pub ReadsFields : {A B : Type 0} → (A → List (List ℕ)) → (A → Type 0) → Rest → (B → A)
    → Result (B × Rest) FieldFault → Type 0
ReadsFields fields Is old view (Ok r) = TakesBytes old (joined_fields (fields (view r.0))) r.1 × Is (view r.0)
ReadsFields fields Is old view (Err fault) = FailsToRead fields Is old.at old.bytes.now fault

-- the bytes begin with this record, and the rest is left
pub record BeginsWithRecord (bytes : List ℕ) (item : LogRecord) (rest : Rest) : Type 0 where
  pub is : IsRecord item
  pub splits : bytes ≡ spelling item ++ rest.bytes.now
  pub place : rest.at ≡ length (spelling item)

-- the bytes begin with a record, which is read, or the place where they stop is the fault's
abbrev pub ReadsRecord : List ℕ → Result (LogRecord × Rest) FieldFault → Type 0
ReadsRecord bytes (Ok r) = BeginsWithRecord bytes r.0 r.1
ReadsRecord bytes (Err fault) = FailsToRead fields IsRecord 0 bytes fault

-- the same fault of a record
abbrev pub log_fault : FieldFault → LogFault
log_fault (Bad at) = log.Bad at
log_fault Memory = log.Memory
