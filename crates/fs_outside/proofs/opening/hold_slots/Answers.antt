use Rattle.std.proofs.lemmas.Result.{IfOk-from_err}
use Rattle.fs_outside.proofs.CauseLemmas.{cause_passed, cause_then, same_count}
use Rattle.fs_outside.proofs.DirectoryLemmas.{where_ok}
use Rattle.fs_outside.proofs.OpeningLemmas.{durable_locked, locked_then, named_locked, stays_twice}
use Rattle.fs_outside.proofs.opening.hold_slots.Goals as goal

pub returns-in_err-lock_slots-clause-durable : goal.returns-in_err-lock_slots-clause-durable
returns-in_err-lock_slots-clause-durable g c = IfOk-from_err c.from_residual.result _ c.from_residual.ensures.0

pub returns-in_err-lock_slots-clause-named : goal.returns-in_err-lock_slots-clause-named
returns-in_err-lock_slots-clause-named g c = IfOk-from_err c.from_residual.result _ c.from_residual.ensures.0

pub returns-in_err-lock_slots-clause-locked : goal.returns-in_err-lock_slots-clause-locked
returns-in_err-lock_slots-clause-locked g c = IfOk-from_err c.from_residual.result _ c.from_residual.ensures.0

pub returns-in_err-lock_slots-clause-stays : goal.returns-in_err-lock_slots-clause-stays
returns-in_err-lock_slots-clause-stays g c = c.lock_slots.ensures.stays

pub returns-in_err-lock_slots-clause-cause : goal.returns-in_err-lock_slots-clause-cause
returns-in_err-lock_slots-clause-cause g c =
    cause_passed c.from_residual.result _ _ _ (same_count _) c.lock_slots.ensures.cause.later c.in_err-lock_slots.ensures.cause.failed

pub returns-clause-durable : goal.returns-clause-durable
returns-clause-durable g c = where_ok c.sync_slots.result (λ durable first second. durable_locked
    (g.D.File.OpenSlot.slot c.args.a.now) (g.D.File.OpenSlot.slot c.args.b.now)
    (g.D.SlotDirectory.state c.args.directory.now).seen (g.D.SlotDirectory.state c.lock_slots.new.self).seen
    (g.D.SlotDirectory.state c.sync_slots.new.directory) c.in_ok-lock_slots.ensures.ok (durable first second))
    c.sync_slots.ensures.durable

pub returns-clause-named : goal.returns-clause-named
returns-clause-named g c = where_ok c.sync_slots.result (λ stays named. stays (named_locked
    (g.D.File.OpenSlot.slot c.args.a.now) (g.D.File.OpenSlot.slot c.args.b.now)
    (g.D.SlotDirectory.state c.args.directory.now).seen (g.D.SlotDirectory.state c.lock_slots.new.self).seen
    c.in_ok-lock_slots.ensures.ok named)) c.sync_slots.ensures.named

pub returns-clause-locked : goal.returns-clause-locked
returns-clause-locked g c = where_ok c.sync_slots.result (λ stays first second. locked_then
    (g.D.File.OpenSlot.slot c.args.a.now) (g.D.File.OpenSlot.slot c.args.b.now)
    (g.D.SlotDirectory.state c.args.directory.now).seen (g.D.SlotDirectory.state c.lock_slots.new.self).seen
    first second c.in_ok-lock_slots.ensures.ok stays) c.sync_slots.ensures.locked

pub returns-clause-stays : goal.returns-clause-stays
returns-clause-stays g c = stays_twice _ _ _ c.lock_slots.ensures.stays c.sync_slots.ensures.stays

pub returns-clause-cause : goal.returns-clause-cause
returns-clause-cause g c = cause_then c.sync_slots.result _ _ _ c.lock_slots.ensures.cause.later c.sync_slots.ensures.cause
