use Rattle.tsdb_bits.proofs.LebLaws.{leb_prefix_free}
use Rattle.tsdb_bits.proofs.laws.leb_is_prefix_free.Goals as goal

pub returns : goal.returns
returns c = leb_prefix_free
