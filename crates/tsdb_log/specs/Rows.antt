-- Rows of fields, put together from their parts. No public clause speaks of these.
use Rattle.std.specs.Prelude.{◌≡◌, ℕ, ◌<◌, ◌≤◌, ◌^◌, List, [], ◌∷◌, ◌++◌, length}
use Rattle.tsdb_base.specs.declared.ids.Space.{Space}
use Rattle.tsdb_base.specs.Fields.{number64}
use Rattle.tsdb_log.specs.Places.{ReachesField}
use Rattle.tsdb_log.specs.Spelling.{joined_fields, space_field}

-- no row begins another, and a row that stands there is as far as rows of its kind go
pub record IsRowForm {A : Type 0} (fields : A → List (List ℕ)) (Is : A → Type 0) : Type 0 where
  pub free : (a b : A) (x y : List ℕ) → Is a → Is b → joined_fields (fields a) ++ x ≡ joined_fields (fields b) ++ y
      → (a ≡ b) × (x ≡ y)
  pub full : (a : A) (behind : List ℕ) (j : ℕ) → Is a → ReachesField fields Is (joined_fields (fields a) ++ behind) j
      → j ≤ length (joined_fields (fields a))

-- one row of fields, and then another that may depend on it
abbrev pub both : {A B : Type 0} → (A → List (List ℕ)) → (B → List (List ℕ)) → A × B → List (List ℕ)
both first second pair = first pair.0 ++ second pair.1

abbrev pub AreBoth : {A B : Type 0} → (A → Type 0) → (A → B → Type 0) → A × B → Type 0
AreBoth IsFirst IsSecond pair = IsFirst pair.0 × IsSecond pair.0 pair.1

-- a row of one field
abbrev pub field : {A : Type 0} → (A → List ℕ) → A → List (List ℕ)
field spelling a = spelling a ∷ []

abbrev pub IsAny : {A : Type 0} → A → Type 0
IsAny a = Unit {0}

abbrev pub IsNumber64 : ℕ → Type 0
IsNumber64 n = n < 2 ^ 64

-- the place of the output in its list, and its number
abbrev pub place_row : ℕ × ℕ → List (List ℕ)
place_row = both (field number64) (field number64)

abbrev pub ArePlace : ℕ × ℕ → Type 0
ArePlace = AreBoth IsNumber64 (λ _. IsNumber64)

-- its space before these
abbrev pub space_row : Space × (ℕ × ℕ) → List (List ℕ)
space_row = both (field space_field) place_row

abbrev pub AreSpace : Space × (ℕ × ℕ) → Type 0
AreSpace = AreBoth IsAny (λ _. ArePlace)

-- its born before these
abbrev pub output_row : ℕ × (Space × (ℕ × ℕ)) → List (List ℕ)
output_row = both (field number64) space_row

abbrev pub AreOutput : ℕ × (Space × (ℕ × ℕ)) → Type 0
AreOutput = AreBoth IsNumber64 (λ _. AreSpace)
