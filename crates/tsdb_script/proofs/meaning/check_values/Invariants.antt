use Rattle.std.proofs.Common.{map, take}
use Rattle.std.specs.List.{AllByRecursion}
use Rattle.tsdb_script.specs.Meaning.{IsGood, Scalar}
use Rattle.tsdb_script.proofs.meaning.check_values.Given as goal

abbrev pub invariant-loop-operand : goal.invariant-loop-operand
invariant-loop-operand l = AllByRecursion IsGood (map Scalar (take l.operand-index l.operands))
