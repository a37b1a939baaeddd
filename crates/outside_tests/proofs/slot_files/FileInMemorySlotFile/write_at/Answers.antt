use Rattle.std.proofs.Common.{length}
use Rattle.outside_tests.proofs.SilentFiles.{MayWriteFile-silent}
use Rattle.outside_tests.proofs.slot_files.FileInMemorySlotFile.write_at.Goals as goal

pub returns-then-write_over-clause-writes : goal.returns-then-write_over-clause-writes
returns-then-write_over-clause-writes c = MayWriteFile-silent c.args.at (length c.args.bytes.now)

pub returns-else-write_over-clause-writes : goal.returns-else-write_over-clause-writes
returns-else-write_over-clause-writes c = MayWriteFile-silent c.args.at (length c.args.bytes.now)
