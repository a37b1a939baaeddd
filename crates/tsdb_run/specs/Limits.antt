-- The limits of the options, and what holds where one is not given.
use Rattle.std.specs.Prelude.{ℕ}

-- the most digits of a number
abbrev pub max_digits : ℕ
max_digits = 7

-- the workers of a kind where `--workers` is not given
abbrev pub default_workers : ℕ
default_workers = 1
