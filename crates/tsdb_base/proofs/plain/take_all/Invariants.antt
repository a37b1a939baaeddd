use Rattle.std.proofs.Common.{◌≡◌, ◌++◌, length}
use Rattle.std.specs.Prelude.{All}
use Rattle.std.specs.List.{flat_map}
use Rattle.tsdb_base.proofs.plain.take_all.Given as goal

-- the bytes are those of the values so far, and then the rest
abbrev pub invariant-loop : goal.invariant-loop
invariant-loop g l = record { count : length l.values.items ≡ l.counter; values : All g.T.PlainValue.is_value l.values.items; found : l.bytes ≡ flat_map g.T.PlainValue.spelling l.values.items ++ l.rest }
