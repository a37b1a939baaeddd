use Rattle.std.proofs.Common.{◌≡◌, ◌-◌, ◌*◌, ◌<◌, ◌^◌, length, drop}
use Rattle.tsdb_bits.specs.Packing.{number_of_bytes}
use Rattle.tsdb_bits.proofs.packing.last_word.Given as goal

abbrev pub invariant-loop-i : goal.invariant-loop-i
invariant-loop-i l = record {
  below : l.word < 2 ^ (8 * (length l.bytes - l.i));
  number : l.word ≡ number_of_bytes (drop l.i l.bytes);
}
