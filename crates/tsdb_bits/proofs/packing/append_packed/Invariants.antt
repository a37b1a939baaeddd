use Rattle.std.proofs.Common.{◌≡◌, ◌++◌, ◌<◌, ◌≤◌, ◌^◌, length, take, drop, vec_len}
use Rattle.tsdb_bits.specs.Packing.{pack_bytes}
use Rattle.tsdb_bits.proofs.Moving.{pending}
use Rattle.tsdb_bits.proofs.packing.append_packed.Given as goal

abbrev pub invariant-loop-value : goal.invariant-loop-value
invariant-loop-value l = record {
  filled_less : l.filled < 64;
  word_fits : l.word < 2 ^ l.filled;
  to_come : l.into.items ++ pending l.filled l.word l.width (drop l.value-index l.values) ≡ l.initial.into.items ++ pack_bytes l.width l.values;
  longer : length l.initial.into.items ≤ length l.into.items;
  kept : take (vec_len l.initial.into) l.into.items ≡ l.initial.into.items;
}
