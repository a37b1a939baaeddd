use Rattle.std.proofs.Common.{◌≡◌, ◌++◌, take}
use Rattle.std.specs.List.{flat_map}
use Rattle.tsdb_base.proofs.plain.put_all.Given as goal

abbrev pub invariant-loop-value : goal.invariant-loop-value
invariant-loop-value g l = l.into.items ≡ l.fn.into.items ++ flat_map g.T.PlainValue.spelling (take l.value-index l.values)
