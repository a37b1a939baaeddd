use Rattle.std.proofs.Common.{Err, ap, arith, subst, sym}
use Rattle.tsdb_frames.specs.Scans.{IsScanRefused}
use Rattle.tsdb_frames.specs.Slots.{payloads_of}
use Rattle.tsdb_frames.proofs.ScanLemmas.{torn_each, torn_told, whole_each}
use Rattle.tsdb_frames.proofs.frames.Frames.scan.Goals as goal

pub returns-in-Ok-clause-each : goal.returns-in-Ok-clause-each
returns-in-Ok-clause-each g c =
    let whole = c.in-Ok.ensures.whole c.args.journal c.args.slot c.new-reader.ensures in
    whole_each c.args.slot (payloads_of c.in-Ok.frames.items) (g.J.Disk.state c.args.journal).seen whole.records

pub returns-in-Err-clause-refused : goal.returns-in-Err-clause-refused
returns-in-Err-clause-refused g c =
    let journal = c.args.journal in
    let old = g.J.Disk.state journal in
    let fault = c.in-Err.fault in
    let before = g.J.Counted.faults journal in
    let reading = c.new-reader.ensures in
    subst (λ (now : g.row.J.Denot). IsScanRefused c.args.slot old (g.J.Disk.state now) before (g.J.Counted.faults now) fault) (sym c.end.ensures) (record {
      torn = torn_told c.args.slot fault old.seen (λ at is. c.in-Err.ensures.torn at (ap (λ x. Err x) is) journal c.args.slot reading);
      keeps = c.in-Err.ensures.keeps journal c.args.slot reading;
      later = omega (arith, reading.later, c.in-Err.ensures.cause.later);
      cause = λ is. omega (arith, reading.later, c.in-Err.ensures.cause.failed (ap (λ x. Err x) is));
    })

pub returns-in-Err-clause-each : goal.returns-in-Err-clause-each
returns-in-Err-clause-each g c =
    let journal = c.args.journal in
    let seen = (g.J.Disk.state journal).seen in
    torn_each c.args.slot c.in-Err.fault seen
    (torn_told c.args.slot c.in-Err.fault seen (λ at is. c.in-Err.ensures.torn at (ap (λ x. Err x) is) journal c.args.slot c.new-reader.ensures))
