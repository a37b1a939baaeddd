use Rattle.std.proofs.lemmas.Result.{IfOk-from_err}
use Rattle.fs_outside.proofs.CauseLemmas.{always_on_ok, cause_passed, cause_then, same_count}
use Rattle.fs_outside.proofs.DirectoryLemmas.{where_ok}
use Rattle.fs_outside.proofs.OpeningLemmas.{slots_are_durable, stays_locked, stays_named, stays_twice}
use Rattle.fs_outside.proofs.opening.sync_slots.Goals as goal

pub returns-clause-durable : goal.returns-clause-durable
returns-clause-durable g c = where_ok c.sync_names.result (λ names first second. slots_are_durable
    (g.D.File.OpenSlot.slot c.args.a.now) (g.D.File.OpenSlot.slot c.args.b.now)
    (g.D.SlotDirectory.state c.args.directory.now).seen (g.D.SlotDirectory.state c.sync_slot.new.self).seen
    (g.D.SlotDirectory.state c.sync_slot-2.new.self).seen (g.D.SlotDirectory.state c.sync_names.new.self)
    first second c.in_ok-sync_slot.ensures.ok c.in_ok-sync_slot-2.ensures.ok c.sync_names.ensures.keeps.seen names)
    c.sync_names.ensures.durable

pub returns-in_err-sync_slot-clause-stays : goal.returns-in_err-sync_slot-clause-stays
returns-in_err-sync_slot-clause-stays g c = c.sync_slot.ensures.stays

pub returns-in_err-sync_slot-clause-cause : goal.returns-in_err-sync_slot-clause-cause
returns-in_err-sync_slot-clause-cause g c =
    cause_passed c.from_residual.result _ _ _ (same_count _) c.sync_slot.ensures.cause.later c.in_err-sync_slot.ensures.cause.failed

pub returns-in_err-sync_slot-2-clause-stays : goal.returns-in_err-sync_slot-2-clause-stays
returns-in_err-sync_slot-2-clause-stays g c = stays_twice _ _ _ c.sync_slot.ensures.stays c.sync_slot-2.ensures.stays

pub returns-in_err-sync_slot-2-clause-cause : goal.returns-in_err-sync_slot-2-clause-cause
returns-in_err-sync_slot-2-clause-cause g c = cause_passed c.from_residual-in_err-sync_slot-2.result _ _ _ c.sync_slot.ensures.cause.later
    c.sync_slot-2.ensures.cause.later c.in_err-sync_slot-2.ensures.cause.failed

pub returns-clause-named : goal.returns-clause-named
returns-clause-named g c = always_on_ok c.sync_names.result (λ named. stays_named (g.D.File.OpenSlot.slot c.args.a.now)
    (g.D.File.OpenSlot.slot c.args.b.now) (g.D.SlotDirectory.state c.args.directory.now).seen
    (g.D.SlotDirectory.state c.sync_slot.new.self).seen (g.D.SlotDirectory.state c.sync_slot-2.new.self).seen
    (g.D.SlotDirectory.state c.sync_names.new.self).seen c.in_ok-sync_slot.ensures.ok c.in_ok-sync_slot-2.ensures.ok
    c.sync_names.ensures.keeps.seen named)

pub returns-clause-locked : goal.returns-clause-locked
returns-clause-locked g c = always_on_ok c.sync_names.result (λ locked. stays_locked (g.D.File.OpenSlot.slot c.args.a.now)
    (g.D.File.OpenSlot.slot c.args.b.now) (g.D.SlotDirectory.state c.args.directory.now).seen
    (g.D.SlotDirectory.state c.sync_slot.new.self).seen (g.D.SlotDirectory.state c.sync_slot-2.new.self).seen
    (g.D.SlotDirectory.state c.sync_names.new.self).seen c.in_ok-sync_slot.ensures.ok c.in_ok-sync_slot-2.ensures.ok
    c.sync_names.ensures.keeps.seen locked)

pub returns-clause-stays : goal.returns-clause-stays
returns-clause-stays g c =
    stays_twice _ _ _ (stays_twice _ _ _ c.sync_slot.ensures.stays c.sync_slot-2.ensures.stays) c.sync_names.ensures.keeps.stays

pub returns-clause-cause : goal.returns-clause-cause
returns-clause-cause g c = cause_then c.sync_names.result _ _ _ c.sync_slot.ensures.cause.later
    (cause_then c.sync_names.result _ _ _ c.sync_slot-2.ensures.cause.later c.sync_names.ensures.cause)

pub returns-in_err-sync_slot-clause-durable : goal.returns-in_err-sync_slot-clause-durable
returns-in_err-sync_slot-clause-durable g c = IfOk-from_err c.from_residual.result _ c.from_residual.ensures.0

pub returns-in_err-sync_slot-clause-named : goal.returns-in_err-sync_slot-clause-named
returns-in_err-sync_slot-clause-named g c = IfOk-from_err c.from_residual.result _ c.from_residual.ensures.0

pub returns-in_err-sync_slot-2-clause-durable : goal.returns-in_err-sync_slot-2-clause-durable
returns-in_err-sync_slot-2-clause-durable g c = IfOk-from_err c.from_residual-in_err-sync_slot-2.result _ c.from_residual-in_err-sync_slot-2.ensures.0

pub returns-in_err-sync_slot-2-clause-named : goal.returns-in_err-sync_slot-2-clause-named
returns-in_err-sync_slot-2-clause-named g c = IfOk-from_err c.from_residual-in_err-sync_slot-2.result _ c.from_residual-in_err-sync_slot-2.ensures.0

pub returns-in_err-sync_slot-clause-locked : goal.returns-in_err-sync_slot-clause-locked
returns-in_err-sync_slot-clause-locked g c = IfOk-from_err c.from_residual.result _ c.from_residual.ensures.0

pub returns-in_err-sync_slot-2-clause-locked : goal.returns-in_err-sync_slot-2-clause-locked
returns-in_err-sync_slot-2-clause-locked g c = IfOk-from_err c.from_residual-in_err-sync_slot-2.result _ c.from_residual-in_err-sync_slot-2.ensures.0
