use Rattle.std.proofs.Common.{◌≡◌, ◌≤◌, ◌++◌, length, take, vec_len}
use Rattle.std.specs.List.{flat_map}
use Rattle.tsdb_base.specs.Fields.{value_field}
use Rattle.tsdb_bits.specs.Leb.{leb}
use Rattle.tsdb_pages.proofs.encoder.append_plain.Given as goal

abbrev pub invariant-loop-item : goal.invariant-loop-item
invariant-loop-item g l = record {
  bytes : l.into.items ≡ l.fn.into.items ++ (leb (length l.items) ++ flat_map (λ item. value_field (g.T.HasValue.value_of item)) (take l.item-index l.items));
  longer : length l.fn.into.items ≤ length l.into.items;
  kept : take (vec_len l.fn.into) l.into.items ≡ l.fn.into.items;
}
