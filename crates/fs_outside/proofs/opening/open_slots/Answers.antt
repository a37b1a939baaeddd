use Rattle.std.proofs.Common.{arith, inl}
use Rattle.std.proofs.lemmas.Result.{IfOk-from_err}
use Rattle.fs_outside.proofs.DirectoryLemmas.{always_on_err}
use Rattle.fs_outside.proofs.OpeningLemmas.{keeps_then_stays, makes_then_stays, not_reopened, opens_store, locked_opened}
use Rattle.fs_outside.proofs.opening.open_slots.Goals as goal

pub returns-in_err-hold_slots-clause-made : goal.returns-in_err-hold_slots-clause-made
returns-in_err-hold_slots-clause-made g c =
    let before = g.D.SlotDirectory.state c.args.directory.now in
    let finished = g.D.SlotDirectory.state c.finish_store.new.directory in
    let opened = g.D.SlotDirectory.state c.open_both.new.directory in
    let synced = g.D.SlotDirectory.state c.hold_slots.new.directory in
    makes_then_stays before opened synced (makes_then_stays before finished opened c.finish_store.ensures.moments
    c.open_both.ensures.keeps.stays) c.hold_slots.ensures.stays

pub returns-clause-made : goal.returns-clause-made
returns-clause-made g c =
    let before = g.D.SlotDirectory.state c.args.directory.now in
    let finished = g.D.SlotDirectory.state c.finish_store.new.directory in
    let opened = g.D.SlotDirectory.state c.open_both.new.directory in
    let synced = g.D.SlotDirectory.state c.hold_slots.new.directory in
    makes_then_stays before opened synced (makes_then_stays before finished opened c.finish_store.ensures.moments
    c.open_both.ensures.keeps.stays) c.hold_slots.ensures.stays

pub returns-in_err-hold_slots-clause-kept : goal.returns-in_err-hold_slots-clause-kept
returns-in_err-hold_slots-clause-kept g c =
    let before = g.D.SlotDirectory.state c.args.directory.now in
    let finished = g.D.SlotDirectory.state c.finish_store.new.directory in
    let opened = g.D.SlotDirectory.state c.open_both.new.directory in
    let synced = g.D.SlotDirectory.state c.hold_slots.new.directory in
    keeps_then_stays before opened synced (keeps_then_stays before finished opened c.finish_store.ensures.kept
    c.open_both.ensures.keeps.stays) c.hold_slots.ensures.stays

pub returns-clause-kept : goal.returns-clause-kept
returns-clause-kept g c =
    let before = g.D.SlotDirectory.state c.args.directory.now in
    let finished = g.D.SlotDirectory.state c.finish_store.new.directory in
    let opened = g.D.SlotDirectory.state c.open_both.new.directory in
    let synced = g.D.SlotDirectory.state c.hold_slots.new.directory in
    keeps_then_stays before opened synced (keeps_then_stays before finished opened c.finish_store.ensures.kept
    c.open_both.ensures.keeps.stays) c.hold_slots.ensures.stays

pub returns-in_err-finish_store-clause-made : goal.returns-in_err-finish_store-clause-made
returns-in_err-finish_store-clause-made g c = c.finish_store.ensures.moments

pub returns-in_err-finish_store-clause-kept : goal.returns-in_err-finish_store-clause-kept
returns-in_err-finish_store-clause-kept g c = c.finish_store.ensures.kept

pub returns-in_err-finish_store-clause-reason : goal.returns-in_err-finish_store-clause-reason
returns-in_err-finish_store-clause-reason g c = always_on_err c.from_residual.result c.in_err-finish_store.ensures.reason

pub returns-in_err-finish_store-clause-later : goal.returns-in_err-finish_store-clause-later
returns-in_err-finish_store-clause-later g c = c.finish_store.ensures.later

pub returns-in_err-a-clause-made : goal.returns-in_err-a-clause-made
returns-in_err-a-clause-made g c =
    makes_then_stays (g.D.SlotDirectory.state c.args.directory.now) (g.D.SlotDirectory.state c.finish_store.new.directory)
    (g.D.SlotDirectory.state c.open_both.new.directory) c.finish_store.ensures.moments c.open_both.ensures.keeps.stays

pub returns-in_err-a-clause-kept : goal.returns-in_err-a-clause-kept
returns-in_err-a-clause-kept g c =
    keeps_then_stays (g.D.SlotDirectory.state c.args.directory.now) (g.D.SlotDirectory.state c.finish_store.new.directory)
    (g.D.SlotDirectory.state c.open_both.new.directory) c.finish_store.ensures.kept c.open_both.ensures.keeps.stays

pub returns-in_err-a-clause-reason : goal.returns-in_err-a-clause-reason
returns-in_err-a-clause-reason g c =
    let first = g.D.SlotDirectory.state c.args.directory.now in
    let finished = g.D.SlotDirectory.state c.finish_store.new.directory in
    let opened = g.D.SlotDirectory.state c.open_both.new.directory in
    always_on_err c.from_residual-in_err-a.result (not_reopened first.seen finished.seen first.faults finished.faults opened.faults
    c.in_ok-finish_store.ensures.finished c.finish_store.ensures.later c.in_err-a.ensures.reason)

pub returns-in_err-a-clause-later : goal.returns-in_err-a-clause-later
returns-in_err-a-clause-later g c = omega (arith, c.finish_store.ensures.later, c.open_both.ensures.later)

pub returns-in_err-hold_slots-clause-reason : goal.returns-in_err-hold_slots-clause-reason
returns-in_err-hold_slots-clause-reason g c = always_on_err c.from_residual-in_err-hold_slots.result
    (inl (omega (arith, c.finish_store.ensures.later, c.open_both.ensures.later, c.in_err-hold_slots.ensures.cause.failed)))

pub returns-in_err-hold_slots-clause-later : goal.returns-in_err-hold_slots-clause-later
returns-in_err-hold_slots-clause-later g c =
    omega (arith, c.finish_store.ensures.later, c.open_both.ensures.later, c.hold_slots.ensures.cause.later)

pub returns-clause-slots : goal.returns-clause-slots
returns-clause-slots g c = c.in_ok-a.ensures.slots

pub returns-clause-opened : goal.returns-clause-opened
returns-clause-opened g c =
    opens_store (g.D.SlotDirectory.state c.args.directory.now).seen (g.D.SlotDirectory.state c.finish_store.new.directory).seen
    (g.D.SlotDirectory.state c.open_both.new.directory).seen (g.D.SlotDirectory.state c.hold_slots.new.directory)
    c.in_ok-finish_store.ensures.finished c.open_both.ensures.keeps.seen c.in_ok-a.ensures.there
    (c.in_ok-hold_slots.ensures.durable c.in_ok-a.ensures.slots.0 c.in_ok-a.ensures.slots.1) c.in_ok-hold_slots.ensures.named

pub returns-clause-later : goal.returns-clause-later
returns-clause-later g c = omega (arith, c.finish_store.ensures.later, c.open_both.ensures.later, c.hold_slots.ensures.cause.later)

pub returns-in_err-finish_store-clause-slots : goal.returns-in_err-finish_store-clause-slots
returns-in_err-finish_store-clause-slots g c = IfOk-from_err c.from_residual.result _ c.from_residual.ensures.0

pub returns-in_err-finish_store-clause-opened : goal.returns-in_err-finish_store-clause-opened
returns-in_err-finish_store-clause-opened g c = IfOk-from_err c.from_residual.result _ c.from_residual.ensures.0

pub returns-in_err-a-clause-slots : goal.returns-in_err-a-clause-slots
returns-in_err-a-clause-slots g c = IfOk-from_err c.from_residual-in_err-a.result _ c.from_residual-in_err-a.ensures.0

pub returns-in_err-a-clause-opened : goal.returns-in_err-a-clause-opened
returns-in_err-a-clause-opened g c = IfOk-from_err c.from_residual-in_err-a.result _ c.from_residual-in_err-a.ensures.0

pub returns-in_err-hold_slots-clause-slots : goal.returns-in_err-hold_slots-clause-slots
returns-in_err-hold_slots-clause-slots g c = IfOk-from_err c.from_residual-in_err-hold_slots.result _ c.from_residual-in_err-hold_slots.ensures.0

pub returns-in_err-hold_slots-clause-opened : goal.returns-in_err-hold_slots-clause-opened
returns-in_err-hold_slots-clause-opened g c = IfOk-from_err c.from_residual-in_err-hold_slots.result _ c.from_residual-in_err-hold_slots.ensures.0

pub returns-clause-locked : goal.returns-clause-locked
returns-clause-locked g c =
    locked_opened (g.D.SlotDirectory.state c.args.directory.now).seen (g.D.SlotDirectory.state c.finish_store.new.directory).seen
    (g.D.SlotDirectory.state c.open_both.new.directory).seen (g.D.SlotDirectory.state c.hold_slots.new.directory)
    c.in_ok-finish_store.ensures.finished c.open_both.ensures.keeps.seen
    (c.in_ok-hold_slots.ensures.locked c.in_ok-a.ensures.slots.0 c.in_ok-a.ensures.slots.1)

pub returns-in_err-finish_store-clause-locked : goal.returns-in_err-finish_store-clause-locked
returns-in_err-finish_store-clause-locked g c = IfOk-from_err c.from_residual.result _ c.from_residual.ensures.0

pub returns-in_err-a-clause-locked : goal.returns-in_err-a-clause-locked
returns-in_err-a-clause-locked g c = IfOk-from_err c.from_residual-in_err-a.result _ c.from_residual-in_err-a.ensures.0

pub returns-in_err-hold_slots-clause-locked : goal.returns-in_err-hold_slots-clause-locked
returns-in_err-hold_slots-clause-locked g c = IfOk-from_err c.from_residual-in_err-hold_slots.result _ c.from_residual-in_err-hold_slots.ensures.0
