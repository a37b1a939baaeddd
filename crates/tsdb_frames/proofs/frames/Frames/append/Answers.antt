use Rattle.std.proofs.Common.{inl, inr, ⊎_elim, rules, Some}
use Rattle.tsdb_outside.specs.Disk.{in_slot}
use Rattle.tsdb_frames.specs.Frames.{disk_of, slot_of}
use Rattle.tsdb_frames.specs.Log.{HasRecordsOrOneMore, payload_of}
use Rattle.tsdb_frames.proofs.CallLemmas.{aside_keeps_to_slot, keeps_to_slot_on, settles_then, moved_moments, on_err, on_ok}
use Rattle.tsdb_frames.proofs.LogLemmas.{always_on_err}
use Rattle.tsdb_frames.proofs.MomentLemmas.{first_then}
use Rattle.tsdb_frames.proofs.StepLemmas.{cause_of_second}
use Rattle.tsdb_frames.proofs.frames.Frames.append.Goals as goal

pub returns-in_err-settle-clause-failed : goal.returns-in_err-settle-clause-failed
returns-in_err-settle-clause-failed g c = always_on_err c.from_residual.result (λ acknowledged in_doubt log.
    inr (inl (c.in_err-settle.ensures.failed acknowledged in_doubt log)))

pub returns-in_err-settle-clause-moments : goal.returns-in_err-settle-clause-moments
returns-in_err-settle-clause-moments g c acknowledged in_doubt log = inl (c.settle.ensures.moments acknowledged in_doubt log)

pub returns-clause-added : goal.returns-clause-added
returns-clause-added g c = on_ok c.add.result (λ added acknowledged in_doubt log.
    added acknowledged (c.in_ok-settle.ensures.settled acknowledged in_doubt log)) c.add.ensures.added

pub returns-clause-no_doubt : goal.returns-clause-no_doubt
returns-clause-no_doubt g c = on_ok c.add.result (λ none. none c.in_ok-settle.ensures.no_doubt) c.add.ensures.no_doubt

pub returns-clause-failed : goal.returns-clause-failed
returns-clause-failed g c = on_err c.add.result (λ failed acknowledged in_doubt log.
    ⊎_elim (λ none. inl none) (λ this. inr (inr this)) (failed acknowledged (c.in_ok-settle.ensures.settled acknowledged in_doubt log)))
    c.add.ensures.failed

pub returns-clause-moments : goal.returns-clause-moments
returns-clause-moments g c acknowledged in_doubt log =
    let old = c.args.self.now in
    let mid = c.settle.new.self in
    let new = c.add.new.self in
    first_then (disk_of old) (disk_of mid) (disk_of new) (g.J.Disk.lawful new.journal)
    (λ image. HasRecordsOrOneMore acknowledged in_doubt (in_slot (slot_of old) image))
    (λ image. HasRecordsOrOneMore acknowledged (Some (payload_of c.args.framed.now)) (in_slot (slot_of old) image))
    (c.settle.ensures.moments acknowledged in_doubt log)
    (moved_moments (disk_of mid) (disk_of new) (slot_of mid) (slot_of old) c.settle.ensures.slot.same
    (HasRecordsOrOneMore acknowledged (Some (payload_of c.args.framed.now)))
    (c.add.ensures.moments acknowledged (c.in_ok-settle.ensures.settled acknowledged in_doubt log)))

pub returns-clause-slot : goal.returns-clause-slot
returns-clause-slot g c = keeps_to_slot_on c.args.self.now c.settle.new.self c.add.new.self c.settle.ensures.slot
    (aside_keeps_to_slot c.settle.new.self c.add.new.self c.add.ensures.aside)

pub returns-clause-cause : goal.returns-clause-cause
returns-clause-cause g c = cause_of_second _ _ _ c.add.result c.settle.ensures.cause.later c.add.ensures.cause

pub returns-in_err-settle-clause-aside : goal.returns-in_err-settle-clause-aside
returns-in_err-settle-clause-aside g c = record {
  settled = search rules;
  failed = always_on_err c.from_residual.result c.in_err-settle.ensures.aside.failed;
  moments = c.settle.ensures.aside.moments;
}

pub returns-clause-aside : goal.returns-clause-aside
returns-clause-aside g c =
    settles_then c.args.self.now c.settle.new.self c.add.new.self (g.J.Disk.lawful c.add.new.self.journal) c.settle.ensures.slot.same
    c.add.ensures.aside c.in_ok-settle.ensures.aside.settled c.settle.ensures.aside.moments c.add.result
