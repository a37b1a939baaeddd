use Rattle.std.proofs.lemmas.Result.{IfOk-from_err}
use Rattle.fs_outside.proofs.CauseLemmas.{cause_passed, cause_then, same_count}
use Rattle.fs_outside.proofs.OpeningLemmas.{second_made, stays_makes, store_made, store_making}
use Rattle.fs_outside.proofs.opening.make_store.Goals as goal

pub returns-in_err-sync_parent-clause-moments : goal.returns-in_err-sync_parent-clause-moments
returns-in_err-sync_parent-clause-moments g c = stays_makes _ _ c.sync_parent.ensures.stays

pub returns-in_err-sync_parent-clause-cause : goal.returns-in_err-sync_parent-clause-cause
returns-in_err-sync_parent-clause-cause g c =
    cause_passed c.from_residual.result _ _ _ (same_count _) c.sync_parent.ensures.cause.later c.in_err-sync_parent.ensures.cause.failed

pub returns-in_err-make_slot-clause-moments : goal.returns-in_err-make_slot-clause-moments
returns-in_err-make_slot-clause-moments g c = second_made (g.D.SlotDirectory.state c.args.directory.now)
    (g.D.SlotDirectory.state c.sync_parent.new.self) (g.D.SlotDirectory.state c.make_slot.new.directory) c.in_ok-sync_parent.ensures.ok
    c.sync_parent.ensures.stays c.make_slot.ensures.moments

pub returns-in_err-make_slot-clause-cause : goal.returns-in_err-make_slot-clause-cause
returns-in_err-make_slot-clause-cause g c = cause_passed c.from_residual-in_err-make_slot.result _ _ _ c.sync_parent.ensures.cause.later
    c.make_slot.ensures.cause.later c.in_err-make_slot.ensures.cause.failed

pub returns-clause-made : goal.returns-clause-made
returns-clause-made g c = store_made c.make_slot-2.result (g.D.SlotDirectory.state c.args.directory.now)
    (g.D.SlotDirectory.state c.sync_parent.new.self) (g.D.SlotDirectory.state c.make_slot.new.directory)
    (g.D.SlotDirectory.state c.make_slot-2.new.directory) c.in_ok-sync_parent.ensures.ok c.in_ok-make_slot.ensures.made
    c.make_slot-2.ensures.made

pub returns-clause-moments : goal.returns-clause-moments
returns-clause-moments g c =
    let first = g.D.SlotDirectory.state c.args.directory.now in
    let named = g.D.SlotDirectory.state c.sync_parent.new.self in
    let second = g.D.SlotDirectory.state c.make_slot.new.directory in
    let last = g.D.SlotDirectory.state c.make_slot-2.new.directory in
    store_making first named second last (g.D.SlotDirectory.lawful c.args.directory.now) c.in_ok-sync_parent.ensures.ok
    c.in_ok-make_slot.ensures.made (second_made first named second c.in_ok-sync_parent.ensures.ok c.sync_parent.ensures.stays
    c.make_slot.ensures.moments) c.in_ok-make_slot.ensures.durable c.make_slot-2.ensures.moments

pub returns-clause-cause : goal.returns-clause-cause
returns-clause-cause g c = cause_then c.make_slot-2.result _ _ _ c.sync_parent.ensures.cause.later
    (cause_then c.make_slot-2.result _ _ _ c.make_slot.ensures.cause.later c.make_slot-2.ensures.cause)

pub returns-in_err-sync_parent-clause-made : goal.returns-in_err-sync_parent-clause-made
returns-in_err-sync_parent-clause-made g c = IfOk-from_err c.from_residual.result _ c.from_residual.ensures.0

pub returns-in_err-make_slot-clause-made : goal.returns-in_err-make_slot-clause-made
returns-in_err-make_slot-clause-made g c = IfOk-from_err c.from_residual-in_err-make_slot.result _ c.from_residual-in_err-make_slot.ensures.0
