use Rattle.std.proofs.Common.{◌≡◌, drop, map}
use Rattle.tsdb_flush.specs.Least.{least_with}
use Rattle.tsdb_plan.specs.declared.entry.FileEntry.{FileEntry}
use Rattle.tsdb_fileset.proofs.replacing.least_of.Given as goal

abbrev pub invariant-loop-entry : goal.invariant-loop-entry
invariant-loop-entry l = record {
  rest : least_with l.least (map (λ (e : FileEntry). e.born.0) (drop l.entry-index l.entries))
      ≡ least_with l.initial.least (map (λ (e : FileEntry). e.born.0) l.entries);
}
