-- The entries that were looked at are copied, where they are there.
use Rattle.std.proofs.Common.{◌≡◌, ◌++◌, map, filter}
use Rattle.mem_outside.specs.Entry.{is_left, entry_files}
use Rattle.mem_outside.proofs.entry.copy_whole.Given as goal

abbrev pub invariant-loop-entry : goal.invariant-loop-entry
invariant-loop-entry l = entry_files l.into ≡ entry_files l.fn.into ++ entry_files (filter (is_left l.kind l.moment) (map (λ e. e.now) l.yielded))
