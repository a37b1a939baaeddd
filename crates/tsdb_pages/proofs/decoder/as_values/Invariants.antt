use Rattle.std.proofs.Common.{◌≡◌, map}
use Rattle.tsdb_pages.proofs.decoder.as_values.Given as goal

abbrev pub invariant-loop-item : goal.invariant-loop-item
invariant-loop-item g l = l.values.items ≡ map g.T.ValueType.as_value l.yielded
