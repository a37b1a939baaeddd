use Rattle.std.proofs.Common.{[], ◌∷◌, true}
use Rattle.std.proofs.lemmas.Result.{IfOk-from_err}
use Rattle.fs_outside.specs.SlotDirectory.{with_renamed, with_unfinished}
use Rattle.fs_outside.proofs.CauseLemmas.{always_on_ok, cause_passed, cause_then, same_count}
use Rattle.fs_outside.proofs.DirectoryLemmas.{becomes_still, becomes_twice}
use Rattle.fs_outside.proofs.OpeningLemmas.{making_then_stays, renamed_makes, stays_making}
use Rattle.fs_outside.proofs.opening.make_slot.Goals as goal

pub returns-in_err-write_slot-clause-moments : goal.returns-in_err-write_slot-clause-moments
returns-in_err-write_slot-clause-moments g c = stays_making c.args.slot (g.D.SlotDirectory.state c.args.directory.now)
    (g.D.SlotDirectory.state c.write_slot.new.directory) c.write_slot.ensures.stays

pub returns-in_err-write_slot-clause-cause : goal.returns-in_err-write_slot-clause-cause
returns-in_err-write_slot-clause-cause g c =
    cause_passed c.from_residual.result _ _ _ (same_count _) c.write_slot.ensures.cause.later c.in_err-write_slot.ensures.cause.failed

pub returns-in_err-rename-clause-moments : goal.returns-in_err-rename-clause-moments
returns-in_err-rename-clause-moments g c = renamed_makes c.args.slot (g.D.SlotDirectory.state c.args.directory.now)
    (g.D.SlotDirectory.state c.write_slot.new.directory) (g.D.SlotDirectory.state c.rename.new.self) c.in_ok-write_slot.ensures.written
    c.write_slot.ensures.stays c.rename.ensures.moves

pub returns-in_err-rename-clause-cause : goal.returns-in_err-rename-clause-cause
returns-in_err-rename-clause-cause g c = cause_passed c.from_residual-in_err-rename.result _ _ _ c.write_slot.ensures.cause.later
    c.rename.ensures.cause.later c.in_err-rename.ensures.cause.failed

pub returns-clause-made : goal.returns-clause-made
returns-clause-made g c =
    let first = (g.D.SlotDirectory.state c.args.directory.now).seen in
    let written = (g.D.SlotDirectory.state c.write_slot.new.directory).seen in
    let renamed = (g.D.SlotDirectory.state c.rename.new.self).seen in
    let named = (g.D.SlotDirectory.state c.sync_names.new.self).seen in
    always_on_ok c.sync_names.result (becomes_still (λ view. with_renamed c.args.slot (with_unfinished (0 ∷ []) true view)) first renamed named
    (becomes_twice (with_unfinished (0 ∷ []) true) (with_renamed c.args.slot) first written renamed c.in_ok-write_slot.ensures.written
    c.in_ok-rename.ensures.ok) c.sync_names.ensures.keeps.seen)

pub returns-clause-durable : goal.returns-clause-durable
returns-clause-durable g c = c.sync_names.ensures.durable

pub returns-clause-moments : goal.returns-clause-moments
returns-clause-moments g c =
    let first = g.D.SlotDirectory.state c.args.directory.now in
    let written = g.D.SlotDirectory.state c.write_slot.new.directory in
    let renamed = g.D.SlotDirectory.state c.rename.new.self in
    let named = g.D.SlotDirectory.state c.sync_names.new.self in
    making_then_stays c.args.slot first renamed named (renamed_makes c.args.slot first written renamed c.in_ok-write_slot.ensures.written
    c.write_slot.ensures.stays c.rename.ensures.moves) c.sync_names.ensures.keeps.stays

pub returns-clause-cause : goal.returns-clause-cause
returns-clause-cause g c = cause_then c.sync_names.result _ _ _ c.write_slot.ensures.cause.later
    (cause_then c.sync_names.result _ _ _ c.rename.ensures.cause.later c.sync_names.ensures.cause)

pub returns-in_err-write_slot-clause-made : goal.returns-in_err-write_slot-clause-made
returns-in_err-write_slot-clause-made g c = IfOk-from_err c.from_residual.result _ c.from_residual.ensures.0

pub returns-in_err-write_slot-clause-durable : goal.returns-in_err-write_slot-clause-durable
returns-in_err-write_slot-clause-durable g c = IfOk-from_err c.from_residual.result _ c.from_residual.ensures.0

pub returns-in_err-rename-clause-made : goal.returns-in_err-rename-clause-made
returns-in_err-rename-clause-made g c = IfOk-from_err c.from_residual-in_err-rename.result _ c.from_residual-in_err-rename.ensures.0

pub returns-in_err-rename-clause-durable : goal.returns-in_err-rename-clause-durable
returns-in_err-rename-clause-durable g c = IfOk-from_err c.from_residual-in_err-rename.result _ c.from_residual-in_err-rename.ensures.0
