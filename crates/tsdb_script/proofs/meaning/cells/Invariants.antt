use Rattle.std.proofs.Common.{◌≡◌, ◌+◌, ◌++◌, length, map, take}
use Rattle.std.specs.Prelude.{reverse}
use Rattle.std.specs.List.{AllByRecursion, AllZip}
use Rattle.tsdb_script.specs.Meaning.{IsGood, IsLiteral, Scalar}
use Rattle.tsdb_script.proofs.meaning.cells.Given as goal

abbrev pub invariant-loop-operand : goal.invariant-loop-operand
invariant-loop-operand l = record {
  names : map (λ cell. cell.measurement) l.cells.items ++ reverse l.names.items ≡ l.fn.names.items;
  values : AllZip IsLiteral (take l.operand-index l.operands) (map (λ cell. cell.value) l.cells.items);
  good : AllByRecursion IsGood (map Scalar (take l.operand-index l.operands));
  left : length l.names.items + l.operand-index ≡ length l.operands;
}
