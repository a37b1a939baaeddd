use Rattle.std.proofs.Common.{◌≡◌, ℕ, ◌+◌, ◌<◌, ◌≤◌, List, [], ap, arith, length, refl, rules, subst}
use Rattle.tsdb_frames.specs.Readers.{left_of}
use Rattle.tsdb_frames.specs.Slots.{HasRecords}
use Rattle.tsdb_frames.specs.Steps.{BeginsAs}
use Rattle.tsdb_frames.specs.declared.reading.Start.{Start}
use Rattle.tsdb_frames.proofs.ReaderLemmas.{shut_ends, whole_read}
use Rattle.tsdb_frames.proofs.reader.FrameReader.next.Goals as goal

pub returns-in-Shut-clause-next : goal.returns-in-Shut-clause-next
returns-in-Shut-clause-next g c =
    let reader = c.args.self.now in
    let shut = subst (λ (s : Start). BeginsAs s (left_of reader)) c.in-Shut.is c.in_ok-start.ensures.begins in
    (whole_read reader shut, shut_ends reader.at reader.end (left_of reader) reader.within.inside shut)

pub returns-in-Whole-clause-next : goal.returns-in-Whole-clause-next
returns-in-Whole-clause-next g c = (c.advance.ensures.frame, c.advance.ensures.forward)

pub returns-in-Broken-clause-next : goal.returns-in-Broken-clause-next
returns-in-Broken-clause-next g c =
    (refl, subst (λ (s : Start). BeginsAs s (left_of c.args.self.now)) c.in-Broken.is c.in_ok-start.ensures.begins)
