use Rattle.std.proofs.Common.{length, refl}
use Rattle.tsdb_outside.proofs.DiskLemmas.{MayWrite-silent}
use Rattle.fs_outside.proofs.CauseLemmas.{cause_of_first, cause_of_second}
use Rattle.fs_outside.proofs.journal.FsJournalJournal.write_at.Goals as goal

pub returns-in-A-clause-bytes : goal.returns-in-A-clause-bytes
returns-in-A-clause-bytes g c = rw c.in-A.is c.write_at.ensures.bytes

pub returns-in-A-clause-limit : goal.returns-in-A-clause-limit
returns-in-A-clause-limit g c = c.write_at.ensures.limit

pub returns-in-A-clause-writes : goal.returns-in-A-clause-writes
returns-in-A-clause-writes g c = MayWrite-silent c.args.slot c.args.at (length c.args.bytes.now)

pub returns-in-A-clause-cause : goal.returns-in-A-clause-cause
returns-in-A-clause-cause g c = cause_of_first c.write_at.result _ _ c.args.self.now.b.faults c.write_at.ensures.cause

pub returns-in-A-clause-file : goal.returns-in-A-clause-file
returns-in-A-clause-file g c = rw c.in-A.is c.write_at.ensures.writes

pub returns-in-A-clause-elsewhere : goal.returns-in-A-clause-elsewhere
returns-in-A-clause-elsewhere g c = rw c.in-A.is refl

pub returns-in-A-clause-reason : goal.returns-in-A-clause-reason
returns-in-A-clause-reason g c = rw c.in-A.is c.write_at.ensures.reason

pub returns-in-A-clause-refused : goal.returns-in-A-clause-refused
returns-in-A-clause-refused g c = rw c.in-A.is c.write_at.ensures.refused

pub returns-in-A-clause-same : goal.returns-in-A-clause-same
returns-in-A-clause-same g c = rw c.in-A.is c.write_at.ensures.same

pub returns-in-B-clause-bytes : goal.returns-in-B-clause-bytes
returns-in-B-clause-bytes g c = rw c.in-B.is c.write_at-in-B.ensures.bytes

pub returns-in-B-clause-limit : goal.returns-in-B-clause-limit
returns-in-B-clause-limit g c = c.write_at-in-B.ensures.limit

pub returns-in-B-clause-writes : goal.returns-in-B-clause-writes
returns-in-B-clause-writes g c = MayWrite-silent c.args.slot c.args.at (length c.args.bytes.now)

pub returns-in-B-clause-cause : goal.returns-in-B-clause-cause
returns-in-B-clause-cause g c = cause_of_second c.write_at-in-B.result _ _ c.args.self.now.a.faults c.write_at-in-B.ensures.cause

pub returns-in-B-clause-file : goal.returns-in-B-clause-file
returns-in-B-clause-file g c = rw c.in-B.is c.write_at-in-B.ensures.writes

pub returns-in-B-clause-elsewhere : goal.returns-in-B-clause-elsewhere
returns-in-B-clause-elsewhere g c = rw c.in-B.is refl

pub returns-in-B-clause-reason : goal.returns-in-B-clause-reason
returns-in-B-clause-reason g c = rw c.in-B.is c.write_at-in-B.ensures.reason

pub returns-in-B-clause-refused : goal.returns-in-B-clause-refused
returns-in-B-clause-refused g c = rw c.in-B.is c.write_at-in-B.ensures.refused

pub returns-in-B-clause-same : goal.returns-in-B-clause-same
returns-in-B-clause-same g c = rw c.in-B.is c.write_at-in-B.ensures.same
