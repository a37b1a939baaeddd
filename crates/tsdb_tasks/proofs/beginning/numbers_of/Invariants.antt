use Rattle.std.proofs.Common.{◌≡◌, map, take}
use Rattle.tsdb_plan.specs.declared.entry.FileEntry.{FileEntry}
use Rattle.tsdb_tasks.proofs.beginning.numbers_of.Given as goal

abbrev pub invariant-loop-entry : goal.invariant-loop-entry
invariant-loop-entry l = l.numbers.items ≡ map (λ (entry : FileEntry). entry.number) (take l.entry-index l.entries)
