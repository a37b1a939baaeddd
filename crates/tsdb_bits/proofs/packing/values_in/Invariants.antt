use Rattle.std.proofs.Common.{◌≡◌, ◌+◌, ◌*◌, ◌<◌, ◌^◌, ◌⊎◌, length, All}
use Rattle.tsdb_bits.specs.Packing.{from_digits, number_of_bytes}
use Rattle.tsdb_bits.proofs.packing.values_in.Given as goal

abbrev pub invariant-loop : goal.invariant-loop
invariant-loop l = record {
  number_is : length l.values.items ≡ l.counter;
  below : All (λ value. value < 2 ^ l.width) l.values.items;
  filled_less : l.filled < 64;
  word_fits : l.word < 2 ^ l.filled;
  stream : number_of_bytes l.bytes ≡ from_digits l.width l.values.items + 2 ^ (l.counter * l.width) * (l.word + 2 ^ l.filled * number_of_bytes l.rest);
  left : (length l.rest ≡ 0) ⊎ (8 * length l.rest + l.filled + l.counter * l.width ≡ 8 * length l.bytes);
}
