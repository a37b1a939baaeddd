-- Times counted from the least one.
use Rattle.std.specs.Prelude.{ℕ, ℤ, pos, negsuc, ◌+◌, ◌-◌, ◌^◌, suc}

-- how far a time is from the least one of 64 bits
abbrev pub moment : ℤ → ℕ
moment (pos n) = n + 2 ^ 63
moment (negsuc n) = 2 ^ 63 - suc n
