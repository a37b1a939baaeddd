use Rattle.std.proofs.Common.{inl, rules, sym, ◌∙◌}
use Rattle.tsdb_outside.specs.Disk.{in_slot}
use Rattle.tsdb_frames.specs.Frames.{disk_of, slot_of}
use Rattle.tsdb_frames.specs.Log.{HasRecordsOrOneMore}
use Rattle.tsdb_frames.proofs.CallLemmas.{aside_keeps_to_slot, idle_keeps_to_slot, keeps_to_slot_on, settles_then, either_same, err_is_not_ok, first_false, first_true, keeps_log, keeps_moments, moved_moments, on_err, on_ok, second_false}
use Rattle.tsdb_frames.proofs.LogLemmas.{always_on_err}
use Rattle.tsdb_frames.proofs.MomentLemmas.{leaves_on}
use Rattle.tsdb_frames.proofs.StepLemmas.{cause_of_second}
use Rattle.tsdb_frames.proofs.frames.Frames.settle.Goals as goal

pub returns-in_err-settle_aside-clause-failed : goal.returns-in_err-settle_aside-clause-failed
returns-in_err-settle_aside-clause-failed g c = always_on_err c.from_residual.result
    (keeps_log c.args.self.now c.settle_aside.new.self (g.J.Disk.lawful c.settle_aside.new.self.journal) c.settle_aside.ensures.log)

pub returns-in_err-settle_aside-clause-same_doubt : goal.returns-in_err-settle_aside-clause-same_doubt
returns-in_err-settle_aside-clause-same_doubt g c = always_on_err c.from_residual.result
    (either_same _ _ _ _ c.settle_aside.ensures.log.doubt c.in_err-settle_aside.ensures.same_doubt)

pub returns-in_err-settle_aside-clause-moments : goal.returns-in_err-settle_aside-clause-moments
returns-in_err-settle_aside-clause-moments g c =
    keeps_moments c.args.self.now c.settle_aside.new.self (g.J.Disk.lawful c.settle_aside.new.self.journal) c.settle_aside.ensures.log

pub returns-in_err-settle_aside-clause-idle : goal.returns-in_err-settle_aside-clause-idle
returns-in_err-settle_aside-clause-idle g c none =
    absurd (err_is_not_ok c.settle_aside.result c.in_err-settle_aside.field-0.0 c.in_err-settle_aside.was
    (c.settle_aside.ensures.idle (second_false _ _ none)).0)

pub returns-clause-settled : goal.returns-clause-settled
returns-clause-settled g c = on_ok c.settle_gate.result (λ settled acknowledged in_doubt log.
    settled acknowledged in_doubt (keeps_log c.args.self.now c.settle_aside.new.self (g.J.Disk.lawful c.settle_aside.new.self.journal)
    c.settle_aside.ensures.log acknowledged in_doubt log)) c.settle_gate.ensures.settled

pub returns-clause-no_doubt : goal.returns-clause-no_doubt
returns-clause-no_doubt g c = on_ok c.settle_gate.result (λ none. none c.in_ok-settle_aside.ensures.no_doubt) c.settle_gate.ensures.no_doubt

pub returns-clause-failed : goal.returns-clause-failed
returns-clause-failed g c = on_err c.settle_gate.result (λ failed acknowledged in_doubt log.
    failed acknowledged in_doubt (keeps_log c.args.self.now c.settle_aside.new.self (g.J.Disk.lawful c.settle_aside.new.self.journal)
    c.settle_aside.ensures.log acknowledged in_doubt log)) c.settle_gate.ensures.failed

pub returns-clause-same_doubt : goal.returns-clause-same_doubt
returns-clause-same_doubt g c = on_err c.settle_gate.result (λ still.
    first_true _ _ still.1 ∙ sym (first_true _ _ (sym c.settle_aside.ensures.log.doubt ∙ still.0))) c.settle_gate.ensures.still

pub returns-clause-idle : goal.returns-clause-idle
returns-clause-idle g c none =
    let there = c.settle_aside.ensures.idle (second_false _ _ none) in
    let done = c.settle_gate.ensures.idle (c.settle_aside.ensures.log.doubt ∙ first_false _ _ none) in
    (done.0, done.1 ∙ there.1)

pub returns-clause-moments : goal.returns-clause-moments
returns-clause-moments g c acknowledged in_doubt log =
    let old = c.args.self.now in
    let mid = c.settle_aside.new.self in
    let new = c.settle_gate.new.self in
    let mid_laws = g.J.Disk.lawful mid.journal in
    leaves_on (disk_of old) (disk_of mid) (disk_of new) (g.J.Disk.lawful new.journal)
    (λ image. HasRecordsOrOneMore acknowledged in_doubt (in_slot (slot_of old) image))
    (keeps_moments old mid mid_laws c.settle_aside.ensures.log acknowledged in_doubt log)
    (moved_moments (disk_of mid) (disk_of new) (slot_of mid) (slot_of old) c.settle_aside.ensures.log.slot
    (HasRecordsOrOneMore acknowledged in_doubt)
    (c.settle_gate.ensures.moments acknowledged in_doubt (keeps_log old mid mid_laws c.settle_aside.ensures.log acknowledged in_doubt log)))

pub returns-clause-slot : goal.returns-clause-slot
returns-clause-slot g c =
    let old = c.args.self.now in
    let mid = c.settle_aside.new.self in
    let new = c.settle_gate.new.self in
    keeps_to_slot_on old mid new
    (idle_keeps_to_slot old mid c.settle_aside.ensures.log.slot (λ none. (c.settle_aside.ensures.idle none).1))
    (aside_keeps_to_slot mid new c.settle_gate.ensures.aside)

pub returns-in_err-settle_aside-clause-slot : goal.returns-in_err-settle_aside-clause-slot
returns-in_err-settle_aside-clause-slot g c =
    idle_keeps_to_slot c.args.self.now c.settle_aside.new.self c.settle_aside.ensures.log.slot
    (λ none. (c.settle_aside.ensures.idle none).1)

pub returns-clause-cause : goal.returns-clause-cause
returns-clause-cause g c = cause_of_second _ _ _ c.settle_gate.result c.settle_aside.ensures.cause.later c.settle_gate.ensures.cause

pub returns-in_err-settle_aside-clause-aside : goal.returns-in_err-settle_aside-clause-aside
returns-in_err-settle_aside-clause-aside g c = record {
  settled = search rules;
  failed = always_on_err c.from_residual.result (λ records aside. inl (c.in_err-settle_aside.ensures.failed records aside));
  moments = c.settle_aside.ensures.moments;
}

pub returns-clause-aside : goal.returns-clause-aside
returns-clause-aside g c =
    let old = c.args.self.now in
    let mid = c.settle_aside.new.self in
    settles_then old mid c.settle_gate.new.self (g.J.Disk.lawful c.settle_gate.new.self.journal) c.settle_aside.ensures.log.slot
    c.settle_gate.ensures.aside
    c.in_ok-settle_aside.ensures.aside c.settle_aside.ensures.moments c.settle_gate.result
