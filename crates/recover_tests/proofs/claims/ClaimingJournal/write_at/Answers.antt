use Rattle.std.proofs.Common.{length}
use Rattle.tsdb_outside.proofs.DiskLemmas.{MayWrite-silent}
use Rattle.recover_tests.proofs.claims.ClaimingJournal.write_at.Goals as goal

pub returns-clause-writes : goal.returns-clause-writes
returns-clause-writes c = MayWrite-silent c.args._slot c.args._at (length c.args._bytes.now)
