-- The row of counted calls.
use Rattle.std.specs.Prelude.{◌≡◌, ℕ, List, []}
use Rattle.std.specs.Prelude.{◌≤◌, Contains}
use Rattle.mem_outside.specs.declared.row.Drawn.{Drawn}
use Rattle.mem_outside.specs.declared.row.CallRow.{CallRow}

-- the numbers of its calls on files that fail
abbrev pub failing_numbers : CallRow → List ℕ
failing_numbers row = row.failing.items

-- none of its calls on files fails
abbrev pub never_fails : CallRow → Type 0
never_fails row = failing_numbers row ≡ []

-- places and numbers are counted from 1
pub record IsCountedFromOne (drawn : Drawn) : Type 0 where
  pub place : 1 ≤ drawn.place
  pub number : 1 ≤ drawn.number

-- the call that drew this is one of those that fail
abbrev pub IsFailing : CallRow → Drawn → Type 0
IsFailing row drawn = Contains (failing_numbers row) drawn.number
