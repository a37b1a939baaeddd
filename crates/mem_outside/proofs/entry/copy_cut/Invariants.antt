-- The entries that were looked at are copied, in half, where such a stop cuts them.
use Rattle.std.proofs.Common.{◌≡◌, ◌++◌, map, filter}
use Rattle.mem_outside.specs.Entry.{is_cut, entry_files, half_file}
use Rattle.mem_outside.proofs.entry.copy_cut.Given as goal

abbrev pub invariant-loop-entry : goal.invariant-loop-entry
invariant-loop-entry l = entry_files l.into ≡ entry_files l.fn.into ++ map half_file (filter (is_cut l.kind l.moment) (map (λ e. e.now) l.yielded))
