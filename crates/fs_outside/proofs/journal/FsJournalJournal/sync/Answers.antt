use Rattle.std.proofs.Common.{refl}
use Rattle.tsdb_outside.specs.Disk.{silent_state}
use Rattle.tsdb_outside.proofs.DiskLemmas.{Keeps-same}
use Rattle.fs_outside.proofs.CauseLemmas.{cause_of_first, cause_of_second}
use Rattle.fs_outside.proofs.journal.FsJournalJournal.sync.Goals as goal

pub returns-in-A-clause-durable : goal.returns-in-A-clause-durable
returns-in-A-clause-durable g c = rw c.in-A.is c.sync.ensures.durable

pub returns-in-A-clause-keeps : goal.returns-in-A-clause-keeps
returns-in-A-clause-keeps g c = Keeps-same silent_state

pub returns-in-A-clause-cause : goal.returns-in-A-clause-cause
returns-in-A-clause-cause g c = cause_of_first c.sync.result _ _ c.args.self.now.b.faults c.sync.ensures.cause

pub returns-in-A-clause-file : goal.returns-in-A-clause-file
returns-in-A-clause-file g c = rw c.in-A.is c.sync.ensures.keeps

pub returns-in-A-clause-elsewhere : goal.returns-in-A-clause-elsewhere
returns-in-A-clause-elsewhere g c = rw c.in-A.is refl

pub returns-in-A-clause-reason : goal.returns-in-A-clause-reason
returns-in-A-clause-reason g c = rw c.in-A.is c.sync.ensures.reason

pub returns-in-A-clause-refused : goal.returns-in-A-clause-refused
returns-in-A-clause-refused g c = rw c.in-A.is c.sync.ensures.refused

pub returns-in-A-clause-failed : goal.returns-in-A-clause-failed
returns-in-A-clause-failed g c = rw c.in-A.is c.sync.ensures.failed

pub returns-in-B-clause-durable : goal.returns-in-B-clause-durable
returns-in-B-clause-durable g c = rw c.in-B.is c.sync-in-B.ensures.durable

pub returns-in-B-clause-keeps : goal.returns-in-B-clause-keeps
returns-in-B-clause-keeps g c = Keeps-same silent_state

pub returns-in-B-clause-cause : goal.returns-in-B-clause-cause
returns-in-B-clause-cause g c = cause_of_second c.sync-in-B.result _ _ c.args.self.now.a.faults c.sync-in-B.ensures.cause

pub returns-in-B-clause-file : goal.returns-in-B-clause-file
returns-in-B-clause-file g c = rw c.in-B.is c.sync-in-B.ensures.keeps

pub returns-in-B-clause-elsewhere : goal.returns-in-B-clause-elsewhere
returns-in-B-clause-elsewhere g c = rw c.in-B.is refl

pub returns-in-B-clause-reason : goal.returns-in-B-clause-reason
returns-in-B-clause-reason g c = rw c.in-B.is c.sync-in-B.ensures.reason

pub returns-in-B-clause-refused : goal.returns-in-B-clause-refused
returns-in-B-clause-refused g c = rw c.in-B.is c.sync-in-B.ensures.refused

pub returns-in-B-clause-failed : goal.returns-in-B-clause-failed
returns-in-B-clause-failed g c = rw c.in-B.is c.sync-in-B.ensures.failed
