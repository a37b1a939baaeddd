-- The lists that an encoding may have, and what a decoder answers.
use Rattle.std.specs.Prelude.{◌≡◌, ℕ, ◌<◌, ◌≤◌, ◌^◌, List, length, All}
use Rattle.tsdb_base.specs.Limits.{max_values}

-- at most 1,000 values of the type
pub record IsListOf {A : Type 0} (IsValue : A → Type 0) (values : List A) : Type 0 where
  pub few : length values ≤ max_values
  pub typed : All IsValue values

-- the bytes are those of the list
pub record IsSpelling {A : Type 0} (spelling : List A → List ℕ) (IsValue : A → Type 0) (bytes : List ℕ)
    (values : List A)
    : Type 0 where
  pub list : IsListOf IsValue values
  pub bytes_are : bytes ≡ spelling values

-- the list has the bytes, and no other list has
abbrev pub IsOnly : {A : Type 0} → (List A → List ℕ) → (A → Type 0) → List ℕ → List A → Type 0
IsOnly {A} spelling IsValue bytes found = (values : List A) → IsSpelling spelling IsValue bytes values → values ≡ found

-- nothing is so
abbrev pub HasNone : {A : Type 0} → (A → Type 0) → Type 0
HasNone {A} P = (x : A) → P x → ⊥

-- no list has the bytes
abbrev pub SpellNone : {A : Type 0} → (List A → List ℕ) → (A → Type 0) → List ℕ → Type 0
SpellNone spelling IsValue bytes = HasNone (IsSpelling spelling IsValue bytes)

-- two lists with the same bytes are equal
abbrev pub HasOneSpelling : {A : Type 0} → (List A → List ℕ) → (A → Type 0) → Type 0
HasOneSpelling {A} spelling IsValue =
    (xs ys : List A) → IsListOf IsValue xs → IsListOf IsValue ys → spelling xs ≡ spelling ys → xs ≡ ys

-- a list has fewer than 2 ^ 30 bytes, so two lists have fewer than 2 ^ 32 together with the lengths before them
abbrev pub IsShort : {A : Type 0} → (List A → List ℕ) → (A → Type 0) → Type 0
IsShort {A} spelling IsValue = (values : List A) → IsListOf IsValue values → length (spelling values) < 2 ^ 30
