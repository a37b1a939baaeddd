use Rattle.std.proofs.Common.{rules}
use Rattle.mem_outside.proofs.files.MemFilesFiles.end_port.Goals as goal

pub returns-clause-faults : goal.returns-clause-faults
returns-clause-faults c = search rules

pub returns-clause-no_more : goal.returns-clause-no_more
returns-clause-no_more c = search rules
