use Rattle.std.proofs.Common.{rules}
use Rattle.fs_outside.proofs.files.FsPortPort.size.Goals as goal

pub returns-in_default-clause-reason : goal.returns-in_default-clause-reason
returns-in_default-clause-reason c = search rules
