use Rattle.std.proofs.Common.{arith}
use Rattle.std.proofs.lemmas.Result.{IfOk-from_err}
use Rattle.fs_outside.proofs.CauseLemmas.{cause_passed, cause_then, same_count}
use Rattle.fs_outside.proofs.OpeningLemmas.{asked_files, asked_missing, asked_zero, looks_twice}
use Rattle.fs_outside.proofs.opening.is_unfinished.Goals as goal

pub returns-in_err-has_files-clause-keeps : goal.returns-in_err-has_files-clause-keeps
returns-in_err-has_files-clause-keeps g c = c.has_files.ensures.keeps

pub returns-in_err-has_files-clause-cause : goal.returns-in_err-has_files-clause-cause
returns-in_err-has_files-clause-cause g c =
    cause_passed c.from_residual.result _ _ _ (same_count _) c.has_files.ensures.cause.later c.in_err-has_files.ensures.cause.failed

pub returns-then-branch-clause-exact : goal.returns-then-branch-clause-exact
returns-then-branch-clause-exact g c =
    asked_files (g.D.SlotDirectory.state c.args.directory.now) c.in_ok-has_files.field-0 c.if-branch.true c.in_ok-has_files.ensures.files

pub returns-then-branch-clause-keeps : goal.returns-then-branch-clause-keeps
returns-then-branch-clause-keeps g c = c.has_files.ensures.keeps

pub returns-then-branch-clause-cause : goal.returns-then-branch-clause-cause
returns-then-branch-clause-cause g c = record { later = c.has_files.ensures.cause.later; failed = tt }

pub returns-in_err-has_slot-clause-keeps : goal.returns-in_err-has_slot-clause-keeps
returns-in_err-has_slot-clause-keeps g c = looks_twice _ _ _ c.has_files.ensures.keeps c.has_slot.ensures.keeps

pub returns-in_err-has_slot-clause-cause : goal.returns-in_err-has_slot-clause-cause
returns-in_err-has_slot-clause-cause g c = cause_passed c.from_residual-in_err-has_slot.result _ _ _ c.has_files.ensures.cause.later
    c.has_slot.ensures.cause.later c.in_err-has_slot.ensures.cause.failed

pub returns-then-not-branch-clause-exact : goal.returns-then-not-branch-clause-exact
returns-then-not-branch-clause-exact g c =
    asked_missing (g.D.SlotDirectory.state c.args.directory.now) (g.D.SlotDirectory.state c.has_files.new.self) c.in_ok-has_files.field-0
    c.in_ok-has_slot.field-0 c.if-branch.false c.in_ok-has_files.ensures.files c.has_files.ensures.keeps.seen c.if-not-branch.true
    c.in_ok-has_slot.ensures.there

pub returns-then-not-branch-clause-keeps : goal.returns-then-not-branch-clause-keeps
returns-then-not-branch-clause-keeps g c = looks_twice _ _ _ c.has_files.ensures.keeps c.has_slot.ensures.keeps

pub returns-then-not-branch-clause-cause : goal.returns-then-not-branch-clause-cause
returns-then-not-branch-clause-cause g c =
    record { later = omega (arith, c.has_files.ensures.cause.later, c.has_slot.ensures.cause.later); failed = tt }

pub returns-clause-exact : goal.returns-clause-exact
returns-clause-exact g c =
    asked_zero c.is_one_zero.result (g.D.SlotDirectory.state c.args.directory.now) (g.D.SlotDirectory.state c.has_files.new.self)
    (g.D.SlotDirectory.state c.has_slot.new.self) c.in_ok-has_files.field-0 c.in_ok-has_slot.field-0 c.if-branch.false
    c.in_ok-has_files.ensures.files c.has_files.ensures.keeps.seen c.if-not-branch.false c.in_ok-has_slot.ensures.there
    c.has_slot.ensures.keeps.seen c.is_one_zero.ensures.zero

pub returns-clause-keeps : goal.returns-clause-keeps
returns-clause-keeps g c = looks_twice _ _ _ (looks_twice _ _ _ c.has_files.ensures.keeps c.has_slot.ensures.keeps) c.is_one_zero.ensures.keeps

pub returns-clause-cause : goal.returns-clause-cause
returns-clause-cause g c = cause_then c.is_one_zero.result _ _ _ c.has_files.ensures.cause.later
    (cause_then c.is_one_zero.result _ _ _ c.has_slot.ensures.cause.later c.is_one_zero.ensures.cause)

pub returns-in_err-has_files-clause-exact : goal.returns-in_err-has_files-clause-exact
returns-in_err-has_files-clause-exact g c = IfOk-from_err c.from_residual.result _ c.from_residual.ensures.0

pub returns-in_err-has_slot-clause-exact : goal.returns-in_err-has_slot-clause-exact
returns-in_err-has_slot-clause-exact g c = IfOk-from_err c.from_residual-in_err-has_slot.result _ c.from_residual-in_err-has_slot.ensures.0
