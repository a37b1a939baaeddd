use Rattle.std.proofs.Common.{rules}
use Rattle.mem_outside.proofs.files.MemPortPort.read.Goals as goal

pub returns-clause-bytes : goal.returns-clause-bytes
returns-clause-bytes c = search rules
