-- Calls that fail by their number.
use Rattle.std.specs.Prelude.{ℕ, ◌+◌, ◌-◌, ◌^◌, min, Contains}
use Rattle.mem_outside.specs.declared.calls.Calls.{Calls}

-- the number of the next call, from 1
abbrev pub next_call : Calls → ℕ
next_call c = min (c.made + 1) (2 ^ 64 - 1)

-- the next call is one of those that fail
abbrev pub NextFails : Calls → Type 0
NextFails c = Contains c.fails.items (next_call c)

-- after one more call
abbrev pub with_call : Calls → Calls
with_call c = record c { made = next_call c }

-- after one more fault
abbrev pub with_fault : Calls → Calls
with_fault c = record c { faults = min (c.faults + 1) (2 ^ 64 - 1) }

-- before the first fault
abbrev pub without_faults : Calls → Calls
without_faults c = record c { faults = 0 }
