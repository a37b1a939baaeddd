-- The files that a port has open.
use Rattle.std.specs.Prelude.{ℕ, List, filter, nat_eq, not}

-- all but those with this number
abbrev pub without_number : {F : Type 0} → (F → ℕ) → ℕ → List F → List F
without_number number n files = filter (λ file. not (nat_eq (number file) n)) files
