use Rattle.std.proofs.Common.{refl}
use Rattle.tsdb_outside.specs.Disk.{silent_state}
use Rattle.tsdb_outside.proofs.DiskLemmas.{Keeps-same}
use Rattle.fs_outside.proofs.CauseLemmas.{cause_of_first, cause_of_second}
use Rattle.fs_outside.proofs.journal.FsJournalJournal.read_at.Goals as goal

pub returns-in-A-clause-bytes : goal.returns-in-A-clause-bytes
returns-in-A-clause-bytes g c = rw c.in-A.is c.read_at.ensures.bytes

pub returns-in-A-clause-keeps : goal.returns-in-A-clause-keeps
returns-in-A-clause-keeps g c = Keeps-same silent_state

pub returns-in-A-clause-cause : goal.returns-in-A-clause-cause
returns-in-A-clause-cause g c = cause_of_first c.read_at.result _ _ c.args.self.now.b.faults c.read_at.ensures.cause

pub returns-in-A-clause-file : goal.returns-in-A-clause-file
returns-in-A-clause-file g c = rw c.in-A.is c.read_at.ensures.keeps

pub returns-in-A-clause-elsewhere : goal.returns-in-A-clause-elsewhere
returns-in-A-clause-elsewhere g c = rw c.in-A.is refl

pub returns-in-A-clause-reason : goal.returns-in-A-clause-reason
returns-in-A-clause-reason g c = rw c.in-A.is c.read_at.ensures.reason

pub returns-in-A-clause-same : goal.returns-in-A-clause-same
returns-in-A-clause-same g c = rw c.in-A.is c.read_at.ensures.same

pub returns-in-B-clause-bytes : goal.returns-in-B-clause-bytes
returns-in-B-clause-bytes g c = rw c.in-B.is c.read_at-in-B.ensures.bytes

pub returns-in-B-clause-keeps : goal.returns-in-B-clause-keeps
returns-in-B-clause-keeps g c = Keeps-same silent_state

pub returns-in-B-clause-cause : goal.returns-in-B-clause-cause
returns-in-B-clause-cause g c = cause_of_second c.read_at-in-B.result _ _ c.args.self.now.a.faults c.read_at-in-B.ensures.cause

pub returns-in-B-clause-file : goal.returns-in-B-clause-file
returns-in-B-clause-file g c = rw c.in-B.is c.read_at-in-B.ensures.keeps

pub returns-in-B-clause-elsewhere : goal.returns-in-B-clause-elsewhere
returns-in-B-clause-elsewhere g c = rw c.in-B.is refl

pub returns-in-B-clause-reason : goal.returns-in-B-clause-reason
returns-in-B-clause-reason g c = rw c.in-B.is c.read_at-in-B.ensures.reason

pub returns-in-B-clause-same : goal.returns-in-B-clause-same
returns-in-B-clause-same g c = rw c.in-B.is c.read_at-in-B.ensures.same
