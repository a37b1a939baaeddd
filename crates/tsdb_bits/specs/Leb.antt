-- LEB128: groups of seven bits, the lowest first. Each byte but the last has its top bit set.
use Rattle.std.specs.Prelude.{ℕ, suc, zero, ◌+◌, ◌/◌, ◌%◌, ◌<◌, ◌≤◌, List, [], ◌∷◌, length, nat_lt, if◌then◌else◌, All}

-- the groups of a number, where `turns` is more than how often it can be divided by 128
unfoldable pub leb_within : ℕ → ℕ → List ℕ
leb_within zero number = []
leb_within (suc turns) number = if nat_lt number 128 then number ∷ []
    else (number % 128 + 128) ∷ leb_within turns (number / 128)

-- the LEB128 spelling of a number, the shortest one
unfoldable pub leb : ℕ → List ℕ
leb number = leb_within (suc number) number

-- the bytes end within a number: fewer than ten, possibly none, and all with the top bit
pub record IsCutShort (bytes : List ℕ) : Type 0 where
  pub few : length bytes < 10
  pub open_ended : All (λ byte. 128 ≤ byte) bytes
