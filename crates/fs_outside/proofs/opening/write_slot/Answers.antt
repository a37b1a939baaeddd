use Rattle.std.proofs.Common.{rules}
use Rattle.fs_outside.proofs.opening.write_slot.Goals as goal

pub returns-clause-written : goal.returns-clause-written
returns-clause-written c = search rules
