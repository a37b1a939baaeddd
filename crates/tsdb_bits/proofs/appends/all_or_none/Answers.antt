use Rattle.std.proofs.Common.{rules}
use Rattle.tsdb_bits.proofs.appends.all_or_none.Goals as goal

pub returns-then-is_err-clause-memory : goal.returns-then-is_err-clause-memory
returns-then-is_err-clause-memory c = search rules
