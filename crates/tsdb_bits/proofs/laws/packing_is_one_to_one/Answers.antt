use Rattle.tsdb_bits.proofs.PackingLaws.{same_from_packed}
use Rattle.tsdb_bits.proofs.laws.packing_is_one_to_one.Goals as goal

pub returns : goal.returns
returns c = same_from_packed
