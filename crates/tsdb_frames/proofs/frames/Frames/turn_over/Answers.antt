use Rattle.std.proofs.Common.{ap, inl, inr, ⊎_elim, subst, ◌∙◌, None, Some, []}
use Rattle.tsdb_outside.specs.Disk.{in_slot}
use Rattle.tsdb_outside.specs.Moments.{LeavesFirstThen, other}
use Rattle.tsdb_outside.specs.declared.disk.Slot.{Slot}
use Rattle.tsdb_frames.specs.Asides.{HasRecordsOrNone}
use Rattle.tsdb_frames.specs.Frames.{disk_of, slot_of, settled_aside}
use Rattle.tsdb_frames.specs.Log.{HasRecordsOrOneMore, payload_of}
use Rattle.tsdb_frames.specs.Slots.{HasRecords}
use Rattle.tsdb_frames.proofs.AsideLemmas.{left_moments}
use Rattle.tsdb_frames.proofs.CallLemmas.{first_false, keeps_log, keeps_moments, left_aside, moved_moments, on_err, on_ok, on_ok_both, settled_then, three_ways}
use Rattle.tsdb_frames.proofs.LogLemmas.{always_on_err}
use Rattle.tsdb_frames.proofs.MomentLemmas.{first_then, leaves_on, then_turns}
use Rattle.tsdb_frames.proofs.StepLemmas.{cause_of_fault, cause_of_second}
use Rattle.tsdb_frames.proofs.frames.Frames.turn_over.Goals as goal

pub returns-in_err-settle-clause-failed : goal.returns-in_err-settle-clause-failed
returns-in_err-settle-clause-failed g c = always_on_err c.from_residual.result (λ acknowledged in_doubt log.
    inr (c.in_err-settle.ensures.failed acknowledged in_doubt log))

pub returns-in_err-settle-clause-aside_failed : goal.returns-in_err-settle-clause-aside_failed
returns-in_err-settle-clause-aside_failed g c = always_on_err c.from_residual.result (λ records aside.
    ⊎_elim (λ same. inl same) (λ settled. three_ways c.args.self.now c.settle.new.self records _ settled)
    (c.in_err-settle.ensures.aside.failed records aside))

pub returns-in_err-settle-clause-moments : goal.returns-in_err-settle-clause-moments
returns-in_err-settle-clause-moments g c acknowledged in_doubt log = inl (c.settle.ensures.moments acknowledged in_doubt log)

pub returns-in_err-settle-clause-aside_moments : goal.returns-in_err-settle-clause-aside_moments
returns-in_err-settle-clause-aside_moments g c records aside = inl (inl (c.settle.ensures.aside.moments records aside))

pub returns-in_err-length-clause-failed : goal.returns-in_err-length-clause-failed
returns-in_err-length-clause-failed g c = always_on_err c.from_residual-in_err-length.result (λ acknowledged in_doubt log.
    inl (keeps_log c.settle.new.self c.close_aside.new.self (g.J.Disk.lawful c.close_aside.new.self.journal) c.close_aside.ensures.log
    acknowledged None (c.in_ok-settle.ensures.settled acknowledged in_doubt log)))

pub returns-in_err-length-clause-same_slot : goal.returns-in_err-length-clause-same_slot
returns-in_err-length-clause-same_slot g c = always_on_err c.from_residual-in_err-length.result
    (c.close_aside.ensures.log.slot ∙ c.settle.ensures.slot.same)

pub returns-in_err-length-clause-aside_failed : goal.returns-in_err-length-clause-aside_failed
returns-in_err-length-clause-aside_failed g c = always_on_err c.from_residual-in_err-length.result (λ records aside.
    three_ways c.args.self.now c.close_aside.new.self records _
    (c.in_err-length.ensures.failed (settled_aside c.args.self.now records) (c.in_ok-settle.ensures.aside.settled records aside)))

pub returns-in_err-length-clause-moments : goal.returns-in_err-length-clause-moments
returns-in_err-length-clause-moments g c acknowledged in_doubt log =
    let old = c.args.self.now in
    let mid = c.settle.new.self in
    let new = c.close_aside.new.self in
    first_then (disk_of old) (disk_of mid) (disk_of new) (g.J.Disk.lawful new.journal)
    (λ image. HasRecordsOrOneMore acknowledged in_doubt (in_slot (slot_of old) image))
    (λ image. HasRecords acknowledged (in_slot (slot_of old) image))
    (c.settle.ensures.moments acknowledged in_doubt log)
    (moved_moments (disk_of mid) (disk_of new) (slot_of mid) (slot_of old) c.settle.ensures.slot.same (HasRecords acknowledged)
    (keeps_moments mid new (g.J.Disk.lawful new.journal) c.close_aside.ensures.log acknowledged None
    (c.in_ok-settle.ensures.settled acknowledged in_doubt log)))

pub returns-in_err-length-clause-aside_moments : goal.returns-in_err-length-clause-aside_moments
returns-in_err-length-clause-aside_moments g c records aside =
    let new = c.close_aside.new.self in
    inl (inl (settled_then c.args.self.now c.settle.new.self new (g.J.Disk.lawful new.journal) c.settle.ensures.slot.same records
    (c.settle.ensures.aside.moments records aside)
    (c.close_aside.ensures.moments (settled_aside c.args.self.now records) (c.in_ok-settle.ensures.aside.settled records aside))))

pub returns-clause-turned : goal.returns-clause-turned
returns-clause-turned g c = on_ok c.begin_aside.result (λ turned acknowledged in_doubt records log aside.
    turned (c.in_ok-length.ensures.closed (settled_aside c.args.self.now records) (c.in_ok-settle.ensures.aside.settled records aside))
    (keeps_log c.settle.new.self c.close_aside.new.self (g.J.Disk.lawful c.close_aside.new.self.journal) c.close_aside.ensures.log
    acknowledged None (c.in_ok-settle.ensures.settled acknowledged in_doubt log)).doubt) c.begin_aside.ensures.turned

pub returns-clause-slot : goal.returns-clause-slot
returns-clause-slot g c = on_ok c.begin_aside.result (λ same. same ∙ ap other (c.close_aside.ensures.log.slot ∙ c.settle.ensures.slot.same))
    c.begin_aside.ensures.slot

pub returns-clause-no_doubt : goal.returns-clause-no_doubt
returns-clause-no_doubt g c = on_ok c.begin_aside.result
    (λ none. none (c.close_aside.ensures.log.doubt ∙ first_false _ _ c.in_ok-settle.ensures.no_doubt)) c.begin_aside.ensures.no_doubt

pub returns-clause-aside : goal.returns-clause-aside
returns-clause-aside g c = on_ok c.begin_aside.result (λ both acknowledged in_doubt log.
    left_aside c.close_aside.new.self c.begin_aside.new.self (g.J.Disk.lawful c.begin_aside.new.self.journal) both.0 both.1
    c.begin_aside.ensures.leaves acknowledged
    (keeps_log c.settle.new.self c.close_aside.new.self (g.J.Disk.lawful c.close_aside.new.self.journal) c.close_aside.ensures.log
    acknowledged None (c.in_ok-settle.ensures.settled acknowledged in_doubt log)))
    (on_ok_both c.begin_aside.result _ _ c.begin_aside.ensures.slot c.begin_aside.ensures.settled)

pub returns-clause-failed : goal.returns-clause-failed
returns-clause-failed g c = on_err c.begin_aside.result (λ keeps acknowledged in_doubt log.
    inl (keeps_log c.close_aside.new.self c.begin_aside.new.self (g.J.Disk.lawful c.begin_aside.new.self.journal) keeps acknowledged None
    (keeps_log c.settle.new.self c.close_aside.new.self (g.J.Disk.lawful c.close_aside.new.self.journal) c.close_aside.ensures.log
    acknowledged None (c.in_ok-settle.ensures.settled acknowledged in_doubt log)))) c.begin_aside.ensures.log

pub returns-clause-same_slot : goal.returns-clause-same_slot
returns-clause-same_slot g c = on_err c.begin_aside.result
    (λ keeps. keeps.slot ∙ c.close_aside.ensures.log.slot ∙ c.settle.ensures.slot.same) c.begin_aside.ensures.log

pub returns-clause-aside_failed : goal.returns-clause-aside_failed
returns-clause-aside_failed g c = on_err c.begin_aside.result (λ failed records aside.
    inr (failed (c.in_ok-length.ensures.closed (settled_aside c.args.self.now records) (c.in_ok-settle.ensures.aside.settled records aside))))
    c.begin_aside.ensures.failed

pub returns-clause-moments : goal.returns-clause-moments
returns-clause-moments g c acknowledged in_doubt log =
    let old = c.args.self.now in
    let mid = c.settle.new.self in
    let closed = c.close_aside.new.self in
    let new = c.begin_aside.new.self in
    let settled = c.in_ok-settle.ensures.settled acknowledged in_doubt log in
    let kept = keeps_log mid closed (g.J.Disk.lawful closed.journal) c.close_aside.ensures.log acknowledged None settled in
    first_then (disk_of old) (disk_of mid) (disk_of new) (g.J.Disk.lawful new.journal)
    (λ image. HasRecordsOrOneMore acknowledged in_doubt (in_slot (slot_of old) image))
    (λ image. HasRecords acknowledged (in_slot (slot_of old) image))
    (c.settle.ensures.moments acknowledged in_doubt log)
    (moved_moments (disk_of mid) (disk_of new) (slot_of mid) (slot_of old) c.settle.ensures.slot.same (HasRecords acknowledged)
    (leaves_on (disk_of mid) (disk_of closed) (disk_of new) (g.J.Disk.lawful new.journal)
    (λ image. HasRecords acknowledged (in_slot (slot_of mid) image))
    (keeps_moments mid closed (g.J.Disk.lawful closed.journal) c.close_aside.ensures.log acknowledged None settled)
    (moved_moments (disk_of closed) (disk_of new) (slot_of closed) (slot_of mid) c.close_aside.ensures.log.slot (HasRecords acknowledged)
    (left_moments (slot_of closed) (disk_of closed) (disk_of new) (g.J.Disk.lawful new.journal) c.begin_aside.ensures.leaves
    (HasRecords acknowledged) kept.stands.left))))

pub returns-clause-aside_moments : goal.returns-clause-aside_moments
returns-clause-aside_moments g c records aside =
    let old = c.args.self.now in
    let closed = c.close_aside.new.self in
    let new = c.begin_aside.new.self in
    let settled = c.in_ok-settle.ensures.aside.settled records aside in
    then_turns (disk_of old) (disk_of closed) (disk_of new) (g.J.Disk.lawful new.journal)
    (λ image. HasRecordsOrNone records (in_slot (other (slot_of old)) image))
    (λ image. HasRecords [] (in_slot (other (slot_of old)) image))
    (λ image. HasRecordsOrOneMore [] (Some (payload_of c.args.framed.now)) (in_slot (other (slot_of old)) image))
    (settled_then old c.settle.new.self closed (g.J.Disk.lawful closed.journal) c.settle.ensures.slot.same records
    (c.settle.ensures.aside.moments records aside) (c.close_aside.ensures.moments (settled_aside old records) settled))
    (subst (λ (s : Slot). LeavesFirstThen (disk_of closed) (disk_of new) (λ image. HasRecords [] (in_slot (other s) image))
    (λ image. HasRecordsOrOneMore [] (Some (payload_of c.args.framed.now)) (in_slot (other s) image)))
    (c.close_aside.ensures.log.slot ∙ c.settle.ensures.slot.same)
    (c.begin_aside.ensures.moments (c.in_ok-length.ensures.closed (settled_aside old records) settled)))

pub returns-in_err-length-clause-cause : goal.returns-in_err-length-clause-cause
returns-in_err-length-clause-cause g c =
    cause_of_fault _ _ _ c.from_residual-in_err-length.result c.settle.ensures.cause.later c.close_aside.ensures.cause.later
    c.in_err-length.ensures.cause.failed

pub returns-clause-cause : goal.returns-clause-cause
returns-clause-cause g c = cause_of_second _ _ _ c.begin_aside.result c.settle.ensures.cause.later
    (cause_of_second _ _ _ c.begin_aside.result c.close_aside.ensures.cause.later c.begin_aside.ensures.cause)
