use Rattle.std.proofs.Common.{inl, inr, arith, ◌∙◌}
use Rattle.std.proofs.lemmas.Result.{IfOk-from_err}
use Rattle.fs_outside.proofs.CauseLemmas.{rose_later}
use Rattle.fs_outside.proofs.DirectoryLemmas.{always_on_err, where_err}
use Rattle.fs_outside.proofs.OpeningLemmas.{finished_before, finished_new, none_to_keep, slot_is_lost, stays_keeps, stays_makes, stays_then_makes, stays_twice}
use Rattle.fs_outside.proofs.opening.finish_store.Goals as goal

pub returns-in_err-has_slot-clause-moments : goal.returns-in_err-has_slot-clause-moments
returns-in_err-has_slot-clause-moments g c = stays_makes _ _ c.has_slot.ensures.keeps.stays

pub returns-in_err-has_slot-clause-kept : goal.returns-in_err-has_slot-clause-kept
returns-in_err-has_slot-clause-kept g c = stays_keeps _ _ c.has_slot.ensures.keeps.stays

pub returns-in_err-has_slot-clause-reason : goal.returns-in_err-has_slot-clause-reason
returns-in_err-has_slot-clause-reason g c = always_on_err c.from_residual.result (inl c.in_err-has_slot.ensures.cause.failed)

pub returns-in_err-has_slot-clause-later : goal.returns-in_err-has_slot-clause-later
returns-in_err-has_slot-clause-later g c = c.has_slot.ensures.cause.later

pub returns-then-branch-clause-finished : goal.returns-then-branch-clause-finished
returns-then-branch-clause-finished g c =
    finished_before (g.D.SlotDirectory.state c.args.directory.now) (g.D.SlotDirectory.state c.has_slot.new.self) c.in_ok-has_slot.field-0
    c.if-branch.true c.in_ok-has_slot.ensures.there c.has_slot.ensures.keeps.seen

pub returns-then-branch-clause-moments : goal.returns-then-branch-clause-moments
returns-then-branch-clause-moments g c = stays_makes _ _ c.has_slot.ensures.keeps.stays

pub returns-then-branch-clause-kept : goal.returns-then-branch-clause-kept
returns-then-branch-clause-kept g c = stays_keeps _ _ c.has_slot.ensures.keeps.stays

pub returns-then-branch-clause-later : goal.returns-then-branch-clause-later
returns-then-branch-clause-later g c = c.has_slot.ensures.cause.later

pub returns-in_err-is_unfinished-clause-moments : goal.returns-in_err-is_unfinished-clause-moments
returns-in_err-is_unfinished-clause-moments g c =
    stays_makes _ _ (stays_twice _ _ _ c.has_slot.ensures.keeps.stays c.is_unfinished.ensures.keeps.stays)

pub returns-in_err-is_unfinished-clause-kept : goal.returns-in_err-is_unfinished-clause-kept
returns-in_err-is_unfinished-clause-kept g c =
    stays_keeps _ _ (stays_twice _ _ _ c.has_slot.ensures.keeps.stays c.is_unfinished.ensures.keeps.stays)

pub returns-in_err-is_unfinished-clause-reason : goal.returns-in_err-is_unfinished-clause-reason
returns-in_err-is_unfinished-clause-reason g c = always_on_err c.from_residual-in_err-is_unfinished.result
    (inl (rose_later _ _ _ c.has_slot.ensures.cause.later c.in_err-is_unfinished.ensures.cause.failed))

pub returns-in_err-is_unfinished-clause-later : goal.returns-in_err-is_unfinished-clause-later
returns-in_err-is_unfinished-clause-later g c = omega (arith, c.has_slot.ensures.cause.later, c.is_unfinished.ensures.cause.later)

pub returns-then-not-branch-clause-moments : goal.returns-then-not-branch-clause-moments
returns-then-not-branch-clause-moments g c =
    stays_makes _ _ (stays_twice _ _ _ c.has_slot.ensures.keeps.stays c.is_unfinished.ensures.keeps.stays)

pub returns-then-not-branch-clause-kept : goal.returns-then-not-branch-clause-kept
returns-then-not-branch-clause-kept g c =
    stays_keeps _ _ (stays_twice _ _ _ c.has_slot.ensures.keeps.stays c.is_unfinished.ensures.keeps.stays)

pub returns-then-not-branch-clause-reason : goal.returns-then-not-branch-clause-reason
returns-then-not-branch-clause-reason g c =
    inr (slot_is_lost (g.D.SlotDirectory.state c.args.directory.now) (g.D.SlotDirectory.state c.has_slot.new.self) c.in_ok-has_slot.field-0
    c.in_ok-is_unfinished.field-0 c.if-branch.false c.in_ok-has_slot.ensures.there c.has_slot.ensures.keeps.seen c.if-not-branch.true
    c.in_ok-is_unfinished.ensures.exact)

pub returns-then-not-branch-clause-later : goal.returns-then-not-branch-clause-later
returns-then-not-branch-clause-later g c = omega (arith, c.has_slot.ensures.cause.later, c.is_unfinished.ensures.cause.later)

pub returns-clause-finished : goal.returns-clause-finished
returns-clause-finished g c =
    finished_new c.make_store.result (g.D.SlotDirectory.state c.args.directory.now) (g.D.SlotDirectory.state c.has_slot.new.self)
    (g.D.SlotDirectory.state c.is_unfinished.new.directory) (g.D.SlotDirectory.state c.make_store.new.directory) c.in_ok-has_slot.field-0
    c.in_ok-is_unfinished.field-0 c.if-branch.false c.in_ok-has_slot.ensures.there c.has_slot.ensures.keeps.seen c.if-not-branch.false
    c.in_ok-is_unfinished.ensures.exact c.is_unfinished.ensures.keeps.seen c.make_store.ensures.made

pub returns-clause-moments : goal.returns-clause-moments
returns-clause-moments g c =
    stays_then_makes (g.D.SlotDirectory.state c.args.directory.now) (g.D.SlotDirectory.state c.is_unfinished.new.directory)
    (g.D.SlotDirectory.state c.make_store.new.directory) (c.is_unfinished.ensures.keeps.seen ∙ c.has_slot.ensures.keeps.seen)
    (stays_twice _ _ _ c.has_slot.ensures.keeps.stays c.is_unfinished.ensures.keeps.stays) c.make_store.ensures.moments

pub returns-clause-kept : goal.returns-clause-kept
returns-clause-kept g c =
    none_to_keep (g.D.SlotDirectory.state c.args.directory.now) (g.D.SlotDirectory.state c.make_store.new.directory) c.in_ok-has_slot.field-0
    c.if-branch.false c.in_ok-has_slot.ensures.there

pub returns-clause-reason : goal.returns-clause-reason
returns-clause-reason g c = where_err c.make_store.result
    (λ rose. inl (rose_later _ _ _ c.has_slot.ensures.cause.later (rose_later _ _ _ c.is_unfinished.ensures.cause.later rose)))
    c.make_store.ensures.cause.failed

pub returns-clause-later : goal.returns-clause-later
returns-clause-later g c =
    omega (arith, c.has_slot.ensures.cause.later, c.is_unfinished.ensures.cause.later, c.make_store.ensures.cause.later)

pub returns-in_err-has_slot-clause-finished : goal.returns-in_err-has_slot-clause-finished
returns-in_err-has_slot-clause-finished g c = IfOk-from_err c.from_residual.result _ c.from_residual.ensures.0

pub returns-in_err-is_unfinished-clause-finished : goal.returns-in_err-is_unfinished-clause-finished
returns-in_err-is_unfinished-clause-finished g c =
    IfOk-from_err c.from_residual-in_err-is_unfinished.result _ c.from_residual-in_err-is_unfinished.ensures.0
