use Rattle.std.proofs.Common.{◌≡◌, ◌≤◌, ◌++◌, take}
use Rattle.std.specs.Prelude.{All}
use Rattle.std.specs.List.{flat_map}
use Rattle.std.specs.Vec.{vec_capacity}
use Rattle.tsdb_log.specs.Spelling.{joined_fields}
use Rattle.tsdb_log.proofs.part.write_parts.Given as goal

abbrev pub invariant-loop-part : goal.invariant-loop-part
invariant-loop-part g l = record {
  are : All g.T.Part.is_part (take l.part-index l.parts);
  bytes : l.into.items ≡ l.fn.into.items ++ joined_fields (flat_map g.T.Part.fields (take l.part-index l.parts));
  capacity : vec_capacity l.fn.into ≤ vec_capacity l.into;
}
