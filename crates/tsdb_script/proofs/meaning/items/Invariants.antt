use Rattle.std.proofs.Common.{take}
use Rattle.std.specs.List.{AllByRecursion, AllZip, flat_map}
use Rattle.tsdb_script.specs.Meaning.{IsGood, IsItem, column_role}
use Rattle.tsdb_script.proofs.meaning.items.Given as goal

abbrev pub invariant-loop-column : goal.invariant-loop-column
invariant-loop-column l = record {
  found : AllZip IsItem (take l.column-index l.columns) l.items.items;
  good : AllByRecursion IsGood (flat_map column_role (take l.column-index l.columns));
}
