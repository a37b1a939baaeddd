-- The bytes of one value by itself, as the encodings, the index and the log write it.
use Rattle.std.specs.Prelude.{◌≡◌, ℕ, ℤ, Bool, true, false, ◌≤◌, ◌/◌, ◌%◌, ◌^◌, List, [], ◌∷◌, ◌++◌, length, All}
use Rattle.std.specs.Int.{w16, w32, w64, w128, to_be_bytes, cast_unsigned}
use Rattle.tsdb_base.specs.Limits.{max_text_bytes}

-- one byte, 0 or 1
abbrev pub plain_bool : Bool → List ℕ
plain_bool false = 0 ∷ []
plain_bool true = 1 ∷ []

-- four bytes, the highest first
abbrev pub plain_i32 : ℤ → List ℕ
plain_i32 number = to_be_bytes w32 (cast_unsigned w32 number)

-- eight bytes, the highest first
abbrev pub plain_i64 : ℤ → List ℕ
plain_i64 number = to_be_bytes w64 (cast_unsigned w64 number)

-- sixteen bytes, the highest first: the higher eight, and the lower
abbrev pub plain_i128 : ℤ → List ℕ
plain_i128 number =
    to_be_bytes w64 (cast_unsigned w128 number / 2 ^ 64) ++ to_be_bytes w64 (cast_unsigned w128 number % 2 ^ 64)

-- two bytes of length, the higher first, and the text's bytes
abbrev pub plain_text : List ℕ → List ℕ
plain_text text = to_be_bytes w16 (length text) ++ text

-- the bytes of a text
abbrev pub IsText : List ℕ → Type 0
IsText text = length text ≤ max_text_bytes

-- the bytes begin with those of no value
abbrev pub BeginsWithNone : {A : Type 0} → (A → List ℕ) → (A → Type 0) → List ℕ → Type 0
BeginsWithNone {A} spelling IsValue bytes = (value : A) (rest : List ℕ) → IsValue value → bytes ≡ spelling value ++ rest
    → ⊥

-- so many values
abbrev pub AreValues : {A : Type 0} → (A → Type 0) → ℕ → List A → Type 0
AreValues IsValue count values = (length values ≡ count) × All IsValue values
