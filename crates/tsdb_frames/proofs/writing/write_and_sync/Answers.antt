use Rattle.std.proofs.Common.{length}
use Rattle.tsdb_frames.proofs.StepLemmas.{always_on_ok, torn_since, still_torn, still_torn_left, still_torn_since, written_if_synced, reaches_behind_sync, cause_of_second}
use Rattle.tsdb_frames.proofs.writing.write_and_sync.Goals as goal

pub returns-in_err-write_at-clause-left : goal.returns-in_err-write_at-clause-left
returns-in_err-write_at-clause-left g c = λ image left.
    let from = c.write_at.ensures.writes.crash image left in
    record { before = from.0; left = from.1; torn = from.2 }

pub returns-in_err-write_at-clause-torn : goal.returns-in_err-write_at-clause-torn
returns-in_err-write_at-clause-torn g c = c.write_at.ensures.writes.torn

pub returns-in_err-write_at-clause-moments : goal.returns-in_err-write_at-clause-moments
returns-in_err-write_at-clause-moments g c =
    torn_since c.args.slot c.args.at (length c.args.bytes.now) (g.J.Disk.state c.args.journal.now) (g.J.Disk.state c.write_at.new.self)
    (g.J.Disk.lawful c.args.journal.now) (g.J.Disk.lawful c.write_at.new.self) c.write_at.ensures.writes

pub returns-clause-written : goal.returns-clause-written
returns-clause-written g c =
    written_if_synced c.args.slot c.args.at c.args.bytes.now (g.J.Disk.state c.args.journal.now) (g.J.Disk.state c.write_at.new.self)
    (g.J.Disk.state c.sync.new.self) c.sync.result (g.J.Disk.lawful c.args.journal.now) c.in_ok-write_at.ensures.bytes c.sync.ensures.durable

pub returns-clause-long : goal.returns-clause-long
returns-clause-long g c = always_on_ok c.sync.result
    (reaches_behind_sync c.args.slot c.args.at c.args.bytes.now (g.J.Disk.state c.args.journal.now) (g.J.Disk.state c.write_at.new.self)
    (g.J.Disk.state c.sync.new.self) c.sync.ensures.keeps c.in_ok-write_at.ensures.bytes c.requires)

pub returns-clause-left : goal.returns-clause-left
returns-clause-left g c =
    still_torn_left c.args.slot c.args.at (length c.args.bytes.now) (g.J.Disk.state c.args.journal.now) (g.J.Disk.state c.write_at.new.self)
    (g.J.Disk.state c.sync.new.self) (g.J.Disk.lawful c.args.journal.now) (g.J.Disk.lawful c.write_at.new.self)
    (g.J.Disk.lawful c.sync.new.self) c.write_at.ensures.writes c.sync.ensures.keeps

pub returns-clause-torn : goal.returns-clause-torn
returns-clause-torn g c =
    still_torn c.args.slot c.args.at (length c.args.bytes.now) (g.J.Disk.state c.args.journal.now) (g.J.Disk.state c.write_at.new.self)
    (g.J.Disk.state c.sync.new.self) (g.J.Disk.lawful c.args.journal.now) (g.J.Disk.lawful c.write_at.new.self)
    (g.J.Disk.lawful c.sync.new.self) c.write_at.ensures.writes c.sync.ensures.keeps

pub returns-clause-moments : goal.returns-clause-moments
returns-clause-moments g c =
    still_torn_since c.args.slot c.args.at (length c.args.bytes.now) (g.J.Disk.state c.args.journal.now) (g.J.Disk.state c.write_at.new.self)
    (g.J.Disk.state c.sync.new.self) (g.J.Disk.lawful c.args.journal.now) (g.J.Disk.lawful c.write_at.new.self)
    (g.J.Disk.lawful c.sync.new.self) c.write_at.ensures.writes c.sync.ensures.keeps

pub returns-clause-limit : goal.returns-clause-limit
returns-clause-limit g c = always_on_ok c.sync.result c.in_ok-write_at.ensures.limit

pub returns-clause-cause : goal.returns-clause-cause
returns-clause-cause g c = cause_of_second _ _ _ c.sync.result c.write_at.ensures.cause.later c.sync.ensures.cause
