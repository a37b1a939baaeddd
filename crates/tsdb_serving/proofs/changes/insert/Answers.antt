use Rattle.std.proofs.Common.{◌++◌, inl, inr, arith, refl, subst, sym, ◌∙◌}
use Rattle.tsdb_core.proofs.Out.{files_handed}
use Rattle.tsdb_core.specs.Core.{logged_of}
use Rattle.tsdb_core.specs.FilesetFiles.{KeptFiles}
use Rattle.tsdb_core.specs.Rows.{IsRowCommand}
use Rattle.tsdb_frames.proofs.CallLemmas.{keeps_to_slot_on}
use Rattle.tsdb_memory.specs.LogState.{memory_of}
use Rattle.tsdb_model.specs.declared.command.Command.TheVariants.{Insert}
use Rattle.tsdb_model.specs.declared.reply.Reply.TheVariants.{Plain}
use Rattle.tsdb_serving.proofs.Answered.{HasStamp, allowed, behind, flush_failed, insert_stamp, row_answered, stamp_is}
use Rattle.tsdb_serving.proofs.Answered.{world_is}
use Rattle.tsdb_serving.proofs.Causes.{device_cause, full_cause, rose_later}
use Rattle.tsdb_serving.proofs.Counts.{counted_row, fault_counts, same_answer}
use Rattle.tsdb_serving.proofs.Full.{by_number, by_stamp, next_counter}
use Rattle.tsdb_serving.proofs.Jobs.{drawn_first, drawn_second}
use Rattle.tsdb_serving.proofs.Slots.{row_slot}
use Rattle.tsdb_serving.proofs.Swept.{read_without_faults}
use Rattle.tsdb_serving.specs.Flushing.{faults_under}
use Rattle.tsdb_serving.specs.Serving.{IsAnsweredBy, IsDrawn, log_under}
use Rattle.tsdb_serving.specs.Sweeping.{AreOutgoingRead}
use Rattle.tsdb_serving.proofs.changes.insert.Goals as goal

pub returns-in-Ok-clause-answer : goal.returns-in-Ok-clause-answer
returns-in-Ok-clause-answer g c = inl (same_answer (memory_of (logged_of c.make_room.new.core))
    (memory_of (logged_of c.args.core.now)) c.args.device.now c.args.row.now c.insert.result
    c.make_room.ensures.goes_on.counted.series c.make_room.ensures.goes_on.counted.stamp c.insert.ensures.answer)

pub returns-in-Err-clause-answer : goal.returns-in-Err-clause-answer
returns-in-Err-clause-answer g c = inr (c.in-Err.ensures.needed, c.in-Err.fault, c.answer.ensures)

pub returns-in-Ok-clause-memory : goal.returns-in-Ok-clause-memory
returns-in-Ok-clause-memory g c = counted_row c.args.core.now c.make_room.new.core c.insert.new.self c.insert.result
    c.make_room.ensures.goes_on.counted c.insert.ensures.memory

pub returns-in-Err-clause-memory : goal.returns-in-Err-clause-memory
returns-in-Err-clause-memory g c = fault_counts c.args.core.now c.make_room.new.core c.in-Err.fault c.answer.result
    c.answer.ensures c.make_room.ensures.goes_on.counted

pub returns-in-Ok-clause-answers : goal.returns-in-Ok-clause-answers
returns-in-Ok-clause-answers g c = λ tells loans files at next serving.
    let first = c.make_room.ensures.goes_on.keeps tells loans files at next serving in
    behind g.J.Disk.lawful c.args.core.now c.make_room.new.core c.insert.new.self c.args.device.now c.args.row.now loans files
    at next c.make_room.ensures.goes_on.serves.stays.slot.same first
    (drawn_first c.args.core.now c.make_room.new.core c.insert.new.self c.insert.ensures.kept.next)
    (drawn_second c.args.core.now c.make_room.new.core c.insert.new.self c.make_room.ensures.goes_on.serves.stays.next)
    c.insert.result
    (row_answered g.J.Disk.lawful (IsDrawn c.make_room.new.core c.insert.new.self) c.make_room.new.core c.insert.new.self
    c.args.device.now c.args.row.now loans (files ++ first.put) at first.doubt first.serving c.insert.result
    c.insert.ensures.row
    (c.insert.ensures.map.answers at.world
    (world_is loans c.make_room.new.core (files ++ first.put) at first.doubt first.serving))
    (allowed at (Insert c.args.device.now c.args.row.now) (λ is. absurd cc) refl c.insert.result
    (c.insert.ensures.map.answers at.world
    (world_is loans c.make_room.new.core (files ++ first.put) at first.doubt first.serving))
    (subst (λ stamp. HasStamp stamp c.insert.result)
    (stamp_is loans c.make_room.new.core (files ++ first.put) at first.doubt first.serving)
    (insert_stamp (memory_of (logged_of c.make_room.new.core)) c.args.device.now c.args.row.now c.insert.result
    c.insert.ensures.answer))))

pub returns-in-Ok-clause-cause : goal.returns-in-Ok-clause-cause
returns-in-Ok-clause-cause g c = λ device. inl (rose_later (faults_under c.args.core.now) (faults_under c.make_room.new.core)
    (faults_under c.insert.new.self) c.make_room.ensures.goes_on.serves.later.0 (c.insert.ensures.cause device))

pub returns-in-Err-clause-answers : goal.returns-in-Err-clause-answers
returns-in-Err-clause-answers g c = λ tells loans files at next serving.
    subst (λ answer. IsAnsweredBy (IsDrawn c.args.core.now c.make_room.new.core) loans c.args.core.now c.make_room.new.core
    files at next (Insert c.args.device.now c.args.row.now) (Plain answer)) (sym c.answer.ensures)
    (flush_failed g.J.Disk.lawful c.args.core.now c.make_room.new.core c.args.device.now c.args.row.now loans files at next
    c.in-Err.fault (full_cause _ _ _ _ _ c.in-Err.fault c.in-Err.ensures.cause) serving
    (c.make_room.ensures.goes_on.keeps tells loans files at next serving))

pub returns-in-Err-clause-cause : goal.returns-in-Err-clause-cause
returns-in-Err-clause-cause g c = λ device. device_cause _ _ _ _ _ c.in-Err.fault (sym c.answer.ensures ∙ device)
    c.in-Err.ensures.cause

pub returns-in-Ok-clause-full : goal.returns-in-Ok-clause-full
returns-in-Ok-clause-full g c = by_stamp c.make_room.new.core c.insert.new.self c.insert.result
    (insert_stamp (memory_of (logged_of c.make_room.new.core)) c.args.device.now c.args.row.now c.insert.result
    c.insert.ensures.answer)
    (λ counter is. subst (IsRowCommand c.args.device.now c.args.row.now c.make_room.new.core c.insert.new.self) is
    c.insert.ensures.row)

pub returns-in-Err-clause-full : goal.returns-in-Err-clause-full
returns-in-Err-clause-full g c = by_number c.args.core.now c.make_room.new.core c.answer.result
    (next_counter _ _ _ _ _ c.in-Err.fault c.in-Err.ensures.cause c.answer.result c.answer.ensures)

pub returns-in-Ok-clause-swept : goal.returns-in-Ok-clause-swept
returns-in-Ok-clause-swept g c = λ read calm counted. subst (λ (files : KeptFiles). AreOutgoingRead files)
    (sym c.insert.ensures.kept.files)
    (read_without_faults c.make_room.new.core (g.F.Port.Counted.faults c.args.port.now)
    (g.F.Port.Counted.faults c.make_room.new.port) (c.make_room.ensures.swept read) calm
    (omega (arith, c.insert.ensures.later, counted)))

pub returns-in-Err-clause-swept : goal.returns-in-Err-clause-swept
returns-in-Err-clause-swept g c = λ read. read_without_faults c.make_room.new.core
    (g.F.Port.Counted.faults c.args.port.now) (g.F.Port.Counted.faults c.make_room.new.port)
    (c.make_room.ensures.swept read)

pub returns-in-Ok-clause-serves : goal.returns-in-Ok-clause-serves
returns-in-Ok-clause-serves g c =
    let part = c.make_room.ensures.goes_on.serves in
    let same = c.insert.ensures.kept.next in
    let from = part.stays.next in
    let drawn = part.draws in
    let counted_first = part.later.0 in
    let counted_second = c.insert.ensures.later in
    record {
      keeps_all = λ out kept. files_handed c.make_room.new.core c.insert.new.self c.insert.ensures.kept
          (g.F.Port.Port.store c.args.port.now) out (part.keeps_all out kept);
      stays = record {
        slot = keeps_to_slot_on (log_under c.args.core.now) (log_under c.make_room.new.core) (log_under c.insert.new.self)
            part.stays.slot (row_slot c.make_room.new.core c.insert.new.self c.args.device.now c.args.row.now
            c.insert.result c.insert.ensures.row);
        next = omega (arith, same, from);
      };
      draws = omega (arith, same, drawn);
      same_store = part.same_store;
      later = (omega (arith, counted_first, counted_second), part.later.1);
    }

pub returns-in-Err-clause-serves : goal.returns-in-Err-clause-serves
returns-in-Err-clause-serves g c = c.make_room.ensures.goes_on.serves
