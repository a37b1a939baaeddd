use Rattle.std.proofs.Common.{rules}
use Rattle.mem_outside.proofs.entry.place_of.Goals as goal

pub returns-clause-first : goal.returns-clause-first
returns-clause-first c = search rules
