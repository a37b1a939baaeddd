-- How the least, the greatest and the sum are found, value by value. No public clause speaks of these.
use Rattle.std.specs.Prelude.{ℕ, ◌*◌, ◌^◌, ℤ, pos, neg_ℤ, ◌+ℤ◌, ◌≤ℤ◌, Option, None, Some, IfSome}
use Rattle.tsdb_base.specs.declared.value.Value.{Value}
use Rattle.tsdb_base.specs.declared.value.Value.TheVariants as value
use Rattle.tsdb_model.specs.Folds.{if_number, as_number}
use Rattle.tsdb_stats.specs.declared.extreme.Number.{Number}
use Rattle.tsdb_stats.specs.declared.extreme.Number.TheVariants as number

-- a value that is a number
abbrev pub number_in : Value → Option Value
number_in value = if_number (as_number value) value

-- f of two, where both are there, and else the one that is
abbrev pub join_options : {A : Type 0} → (A → A → A) → Option A → Option A → Option A
join_options f None b = b
join_options f (Some a) None = Some a
join_options f (Some a) (Some b) = Some (f a b)

-- the value that a number is
abbrev pub as_value : Number → Value
as_value (number.I32 n) = value.I32 n
as_value (number.I64 n) = value.I64 n

-- two numbers together
abbrev pub plus : ℤ → ℤ → ℤ
plus a b = a +ℤ b

-- no more than so many numbers of 64 bits can come to
abbrev pub IsWithinCount : ℕ → ℤ → Type 0
IsWithinCount count sum = (neg_ℤ (pos (count * 2 ^ 63)) ≤ℤ sum) × (sum ≤ℤ pos (count * 2 ^ 63))

abbrev pub IsSumWithin : ℕ → Option ℤ → Type 0
IsSumWithin count sum = IfSome sum (IsWithinCount count)
