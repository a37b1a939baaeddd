use Rattle.std.proofs.Common.{rules}
use Rattle.mem_outside.proofs.files.MemFilesFiles.port.Goals as goal

pub returns-clause-store : goal.returns-clause-store
returns-clause-store c = search rules
