-- What reading one field says of the bytes that are left.
use Rattle.std.specs.Prelude.{◌≡◌, ℕ, ◌+◌, ◌<◌, List, ◌++◌, length, All, Result, Ok, Err}
use Rattle.std.specs.List.{flat_map}
use Rattle.tsdb_base.specs.Plain.{BeginsWithNone}
use Rattle.tsdb_fields.specs.declared.fault.FieldFault.{FieldFault}
use Rattle.tsdb_fields.specs.declared.fault.FieldFault.TheVariants.{Bad, Memory}
use Rattle.tsdb_fields.specs.declared.rest.Rest.{Rest}

-- what is left begins with these bytes, and then the other is left
pub record TakesBytes (old : Rest) (text : List ℕ) (new : Rest) : Type 0 where
  pub bytes : old.bytes.now ≡ text ++ new.bytes.now
  pub place : new.at ≡ old.at + length text

-- what is left begins with no such field, and this is its place
pub record Lacks {A : Type 0} (spelling : A → List ℕ) (IsField : A → Type 0) (old : Rest) (at : ℕ) : Type 0 where
  pub place : at ≡ old.at
  pub none : (field : A) (behind : List ℕ) → IsField field → old.bytes.now ≡ spelling field ++ behind → ⊥

-- a field is read exactly where what is left begins with one, unless memory runs out
abbrev pub Reads : {A B : Type 0} → (A → List ℕ) → (A → Type 0) → Rest → (B → A) → Result (B × Rest) FieldFault → Type 0
Reads spelling IsField old view (Ok r) = TakesBytes old (spelling (view r.0)) r.1 × IsField (view r.0)
Reads spelling IsField old view (Err (Bad at)) = Lacks spelling IsField old at
Reads spelling IsField old view (Err Memory) = Unit {0}

-- a field is read where what is left begins with one; where it does not, the fault's place says this of where the field
-- would begin and of the bytes from there on
abbrev pub ReadsOr : {A B : Type 0} → (A → List ℕ) → (A → Type 0) → (ℕ → List ℕ → ℕ → Type 0) → Rest → (B → A)
    → Result (B × Rest) FieldFault → Type 0
ReadsOr spelling IsField IsBad old view (Ok r) = TakesBytes old (spelling (view r.0)) r.1 × IsField (view r.0)
ReadsOr spelling IsField IsBad old view (Err (Bad at)) = IsBad old.at old.bytes.now at
ReadsOr spelling IsField IsBad old view (Err Memory) = Unit {0}

-- no such field begins there, and the place is that of some part
abbrev pub LacksPart : {A : Type 0} → (A → List ℕ) → (A → Type 0) → ℕ → List ℕ → ℕ → Type 0
LacksPart spelling IsField start bytes at = BeginsWithNone spelling IsField bytes

-- as `Reads`, for a field of several parts: the fault has the place of some part
abbrev pub ReadsParts : {A B : Type 0} → (A → List ℕ) → (A → Type 0) → Rest → (B → A) → Result (B × Rest) FieldFault
    → Type 0
ReadsParts spelling IsField = ReadsOr spelling IsField (LacksPart spelling IsField)

-- fewer fields than so many stand there, and what follows them is bad in this way
pub record IsBadBehind {A : Type 0} (spelling : A → List ℕ) (IsField : A → Type 0) (IsBad : ℕ → List ℕ → ℕ → Type 0)
    (count start : ℕ) (bytes : List ℕ) (at : ℕ) : Type 0 where
  pub fields : List A
  pub good : All IsField fields
  pub few : length fields < count
  pub next : ℕ
  pub behind : List ℕ
  pub place : next ≡ start + length (flat_map spelling fields)
  pub splits : bytes ≡ flat_map spelling fields ++ behind
  pub bad : IsBad next behind at
