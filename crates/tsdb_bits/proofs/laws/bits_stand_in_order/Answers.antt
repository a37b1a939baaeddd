use Rattle.tsdb_bits.proofs.BitOrder.{bit_of_packed}
use Rattle.tsdb_bits.proofs.laws.bits_stand_in_order.Goals as goal

pub returns : goal.returns
returns c = bit_of_packed
