use Rattle.std.proofs.Common.{take}
use Rattle.std.specs.List.{AllByRecursion}
use Rattle.tsdb_script.specs.Meaning.{IsGood, IsRangeOf, condition_roles}
use Rattle.tsdb_script.proofs.conditions.range_of.Given as goal

abbrev pub invariant-loop-condition : goal.invariant-loop-condition
invariant-loop-condition l = record {
  found : IsRangeOf (take l.condition-index l.conditions) l.range;
  good : AllByRecursion IsGood (condition_roles (take l.condition-index l.conditions));
}
