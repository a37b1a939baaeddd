use Rattle.std.proofs.Common.{refl}
use Rattle.tsdb_outside.specs.Disk.{silent_state}
use Rattle.tsdb_outside.proofs.DiskLemmas.{Keeps-same}
use Rattle.fs_outside.proofs.CauseLemmas.{cause_of_first, cause_of_second}
use Rattle.fs_outside.proofs.journal.FsJournalJournal.length.Goals as goal

pub returns-in-A-clause-length : goal.returns-in-A-clause-length
returns-in-A-clause-length g c = rw c.in-A.is c.length.ensures.length

pub returns-in-A-clause-limit : goal.returns-in-A-clause-limit
returns-in-A-clause-limit g c = c.length.ensures.limit

pub returns-in-A-clause-keeps : goal.returns-in-A-clause-keeps
returns-in-A-clause-keeps g c = Keeps-same silent_state

pub returns-in-A-clause-cause : goal.returns-in-A-clause-cause
returns-in-A-clause-cause g c = cause_of_first c.length.result _ _ c.args.self.now.b.faults c.length.ensures.cause

pub returns-in-A-clause-file : goal.returns-in-A-clause-file
returns-in-A-clause-file g c = rw c.in-A.is c.length.ensures.keeps

pub returns-in-A-clause-elsewhere : goal.returns-in-A-clause-elsewhere
returns-in-A-clause-elsewhere g c = rw c.in-A.is refl

pub returns-in-A-clause-reason : goal.returns-in-A-clause-reason
returns-in-A-clause-reason g c = rw c.in-A.is c.length.ensures.reason

pub returns-in-A-clause-same : goal.returns-in-A-clause-same
returns-in-A-clause-same g c = rw c.in-A.is c.length.ensures.same

pub returns-in-B-clause-length : goal.returns-in-B-clause-length
returns-in-B-clause-length g c = rw c.in-B.is c.length-in-B.ensures.length

pub returns-in-B-clause-limit : goal.returns-in-B-clause-limit
returns-in-B-clause-limit g c = c.length-in-B.ensures.limit

pub returns-in-B-clause-keeps : goal.returns-in-B-clause-keeps
returns-in-B-clause-keeps g c = Keeps-same silent_state

pub returns-in-B-clause-cause : goal.returns-in-B-clause-cause
returns-in-B-clause-cause g c = cause_of_second c.length-in-B.result _ _ c.args.self.now.a.faults c.length-in-B.ensures.cause

pub returns-in-B-clause-file : goal.returns-in-B-clause-file
returns-in-B-clause-file g c = rw c.in-B.is c.length-in-B.ensures.keeps

pub returns-in-B-clause-elsewhere : goal.returns-in-B-clause-elsewhere
returns-in-B-clause-elsewhere g c = rw c.in-B.is refl

pub returns-in-B-clause-reason : goal.returns-in-B-clause-reason
returns-in-B-clause-reason g c = rw c.in-B.is c.length-in-B.ensures.reason

pub returns-in-B-clause-same : goal.returns-in-B-clause-same
returns-in-B-clause-same g c = rw c.in-B.is c.length-in-B.ensures.same
