use Rattle.std.proofs.Common.{◌≡◌, drop}
use Rattle.tsdb_memory.specs.Least.{least_with}
use Rattle.tsdb_redo.specs.Lists.{borns_of_files, listed_files}
use Rattle.tsdb_redo.proofs.lists.least_with.Given as goal

abbrev pub invariant-loop-file : goal.invariant-loop-file
invariant-loop-file l = record {
  rest : least_with l.least (borns_of_files (listed_files (drop l.file-index l.files)))
      ≡ least_with l.fn.least (borns_of_files (listed_files l.files));
}
