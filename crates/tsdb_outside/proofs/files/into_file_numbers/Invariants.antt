-- The numbers up to here are in the list.
use Rattle.std.proofs.Common.{◌≡◌, ◌++◌, drop}
use Rattle.tsdb_outside.specs.Files.{plain_numbers}
use Rattle.tsdb_outside.proofs.files.into_file_numbers.Given as goal

abbrev pub invariant-loop-number : goal.invariant-loop-number
invariant-loop-number l = plain_numbers l.list.items ++ drop l.number-index l.number-items ≡ l.number-items
