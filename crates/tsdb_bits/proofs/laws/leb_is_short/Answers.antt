use Rattle.std.proofs.Common.{arith}
use Rattle.tsdb_bits.proofs.LebLaws.{length-leb}
use Rattle.tsdb_bits.proofs.laws.leb_is_short.Goals as goal

pub returns : goal.returns
returns c = λ number small. length-leb 9 number (omega arith)
