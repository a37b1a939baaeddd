use Rattle.std.proofs.Common.{length}
use Rattle.fs_outside.proofs.FileLemmas.{MayWriteFile-silent}
use Rattle.fs_outside.proofs.slot_file.FileSlotFile.write_at.Goals as goal

pub returns-clause-writes : goal.returns-clause-writes
returns-clause-writes c = MayWriteFile-silent c.args.at (length c.args.bytes.now)
