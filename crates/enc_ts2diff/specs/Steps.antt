-- Steps of the proofs: what the private parts of the decoder answer.
use Rattle.std.specs.Prelude.{◌≡◌, ℕ, ℤ, pos, ◌+ℤ◌, ◌≤ℤ◌, min, fold, map, List, [], ◌∷◌, length, Result, Ok, Err, Vec}
use Rattle.std.specs.Prelude.{All, FitsSigned}
use Rattle.std.specs.Global.{Global}
use Rattle.std.specs.Int.{w64}
use Rattle.tsdb_bits.specs.Lists.{IsListOf}
use Rattle.enc_ts2diff.specs.Spelling.{differences, least, offsets, offset_width, block, spelling}
use Rattle.tsdb_base.specs.declared.fault.DecodeFault.{DecodeFault}
use Rattle.tsdb_base.specs.declared.fault.DecodeFault.TheVariants as fault

-- the list itself, unless memory ran out
abbrev pub Finds : {X : Type 0} → (X → List ℤ) → Result X DecodeFault → List ℤ → Type 0
Finds view (Ok found) values = view found ≡ values
Finds view (Err fault.Bad) values = ⊥
Finds view (Err fault.Memory) values = Unit {0}

-- where a list has the bytes, the result is this list, unless memory ran out
abbrev pub FindsList : List ℕ → Result (Vec ℤ Global) DecodeFault → Type 0
FindsList bytes result =
    (values : List ℤ) → IsListOf (FitsSigned w64) values → spelling values ≡ bytes
    → Finds (λ found. found.items) result values

-- the least of the differences, where there is one, and the offsets from it
abbrev pub IsBlockOf : ℤ → List ℕ → List ℤ → Type 0
IsBlockOf base above [] = above ≡ []
IsBlockOf base above (step ∷ steps) = (base ≡ least step steps) × (above ≡ offsets base (step ∷ steps))

-- that block, unless memory ran out
abbrev pub FindsBlock : Result (ℤ × Vec ℕ Global) DecodeFault → List ℤ → Type 0
FindsBlock (Ok found) steps = IsBlockOf found.0 found.1.items steps
FindsBlock (Err fault.Bad) steps = ⊥
FindsBlock (Err fault.Memory) steps = Unit {0}

-- where the bytes are the block of differences, the result is this block, unless memory ran out
abbrev pub FindsBlockOf : ℕ → List ℕ → Result (ℤ × Vec ℕ Global) DecodeFault → Type 0
FindsBlockOf count bytes result =
    (steps : List ℤ) → length steps ≡ count → All (FitsSigned w64) steps → block steps ≡ bytes → FindsBlock result steps

-- the values go on from the previous one by these offsets
pub record Continues (base previous : ℤ) (above : List ℕ) (values : List ℤ) : Type 0 where
  pub fits : All (FitsSigned w64) values
  pub lowest : All (λ step. base ≤ℤ step) (differences previous values)
  pub differ : above ≡ offsets base (differences previous values)

-- the differences that are so much above the least one
abbrev pub offsets_above : ℤ → List ℕ → List ℤ
offsets_above base above = map (λ offset. base +ℤ pos offset) above

-- the least of the offsets is 0, and the greatest has so many binary digits
abbrev pub AreOffsets : List ℕ → ℕ → Type 0
AreOffsets [] digits = ⊥
AreOffsets (offset ∷ more) digits = (fold min offset more ≡ 0) × (offset_width (offset ∷ more) ≡ digits)

-- the last of the values behind a first one
unfoldable pub last_value_of : ℤ → List ℤ → ℤ
last_value_of first [] = first
last_value_of first (value ∷ values) = last_value_of value values

-- the values are the first one and those with these differences; the last of them is the previous one
pub record Restores (base first previous : ℤ) (above : List ℕ) (values : List ℤ) : Type 0 where
  pub rest : List ℤ
  pub whole : values ≡ first ∷ rest
  pub steps : differences first rest ≡ offsets_above base above
  pub last : last_value_of first rest ≡ previous
  pub fits : All (FitsSigned w64) values

-- where values go on from the first one, the result is this list, unless memory ran out
abbrev pub FindsRest : ℤ → ℤ → List ℕ → Result (Vec ℤ Global) DecodeFault → Type 0
FindsRest base first above result =
    (values : List ℤ) → Continues base first above values → Finds (λ found. found.items) result (first ∷ values)
