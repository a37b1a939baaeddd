use Rattle.std.proofs.Common.{◌≡◌, ◌++◌, take}
use Rattle.tsdb_fileset.specs.Lines.{file_lines_of}
use Rattle.tsdb_fileset.proofs.lines.add_lines.Given as goal

abbrev pub invariant-loop-entry : goal.invariant-loop-entry
invariant-loop-entry l = l.lines.items ≡ l.initial.lines.items ++ file_lines_of l.space (take l.entry-index l.entries)
