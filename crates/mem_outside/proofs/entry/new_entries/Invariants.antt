-- The files that were taken have their entries.
use Rattle.std.proofs.Common.{◌≡◌, map}
use Rattle.mem_outside.specs.Entry.{entry_files, handed_in}
use Rattle.mem_outside.proofs.entry.new_entries.Given as goal

abbrev pub invariant-loop-number : goal.invariant-loop-number
invariant-loop-number l = entry_files l.entries ≡ map handed_in l.yielded
