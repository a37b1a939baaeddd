use Rattle.std.proofs.Common.{ap, subst, Err, None}
use Rattle.tsdb_frames.specs.Frames.{IsLog}
use Rattle.tsdb_frames.specs.Slots.{HasRecords}
use Rattle.tsdb_outside.specs.declared.disk.Slot.TheVariants.{A}
use Rattle.tsdb_recover.proofs.LogLemmas.{damaged_each, damaged_told, if_told, whole_each}
use Rattle.tsdb_recover.proofs.log.read_log.Goals as goal

pub returns-in-Ok-clause-read : goal.returns-in-Ok-clause-read
returns-in-Ok-clause-read g c =
    let seen = (g.J.Disk.state c.args.journal).seen in
    let all = c.in-Ok.ensures.read c.args.journal c.new-reader.ensures in
    let log = c.of_reader.result in
    let scanned = c.of_reader.ensures c.args.journal A all.frames all.whole in
    let same = all.read.replayed.payloads in
    record {
      items = all.read.replayed.items;
      good = all.read.replayed.good;
      recorded = all.read.recorded;
      replayed = all.read.replayed.replayed;
      shown = all.read.shown;
      records = if_told seen _ _ (λ image has. subst (λ l. HasRecords l image.a) same has) scanned.records;
      acknowledged = λ settled. if_told seen _ _ (λ image is. subst (λ l. IsLog log l None) same is) (scanned.log settled);
      no_doubt = scanned.no_doubt;
      slot = scanned.slot;
      keeps = scanned.keeps;
      later = scanned.later;
    }

pub returns-in-Ok-clause-each : goal.returns-in-Ok-clause-each
returns-in-Ok-clause-each g c =
    let all = c.in-Ok.ensures.read c.args.journal c.new-reader.ensures in
    whole_each all.frames c.in-Ok.opening (g.J.Disk.state c.args.journal).seen all.whole.records all.read

pub returns-in-Err-clause-damaged : goal.returns-in-Err-clause-damaged
returns-in-Err-clause-damaged g c =
    damaged_told c.in-Err.fault (g.J.Disk.state c.args.journal).seen
    (λ part at is. let found = c.in-Err.ensures.damaged part at (ap (λ x. Err x) is) in (found.0, found.1 c.args.journal c.new-reader.ensures))

pub returns-in-Err-clause-each : goal.returns-in-Err-clause-each
returns-in-Err-clause-each g c =
    let seen = (g.J.Disk.state c.args.journal).seen in
    damaged_each c.in-Err.fault seen (damaged_told c.in-Err.fault seen
    (λ part at is. let found = c.in-Err.ensures.damaged part at (ap (λ x. Err x) is) in (found.0, found.1 c.args.journal c.new-reader.ensures)))
