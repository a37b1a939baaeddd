use Rattle.std.proofs.Common.{rules}
use Rattle.tsdb_bits.proofs.zigzag_code.unzigzag.Goals as goal

pub returns-then-value-eq0 : goal.returns-then-value-eq0
returns-then-value-eq0 c = search rules

pub returns-else-value-eq0 : goal.returns-else-value-eq0
returns-else-value-eq0 c = search rules
