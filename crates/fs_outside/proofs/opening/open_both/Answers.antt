use Rattle.std.proofs.Common.{arith}
use Rattle.std.proofs.lemmas.Result.{IfOk-from_err}
use Rattle.fs_outside.proofs.DirectoryLemmas.{always_on_err}
use Rattle.fs_outside.proofs.OpeningLemmas.{both_there, first_not_opened, looks_twice, second_not_opened}
use Rattle.fs_outside.proofs.opening.open_both.Goals as goal

pub returns-in_err-a-clause-keeps : goal.returns-in_err-a-clause-keeps
returns-in_err-a-clause-keeps g c = c.open.ensures.keeps

pub returns-in_err-a-clause-reason : goal.returns-in_err-a-clause-reason
returns-in_err-a-clause-reason g c =
    always_on_err c.from_residual.result (first_not_opened (g.D.SlotDirectory.state c.args.directory.now) c.in_err-a.ensures.reason)

pub returns-in_err-a-clause-later : goal.returns-in_err-a-clause-later
returns-in_err-a-clause-later g c = c.open.ensures.later

pub returns-in_err-b-clause-keeps : goal.returns-in_err-b-clause-keeps
returns-in_err-b-clause-keeps g c = looks_twice _ _ _ c.open.ensures.keeps c.open-2.ensures.keeps

pub returns-in_err-b-clause-reason : goal.returns-in_err-b-clause-reason
returns-in_err-b-clause-reason g c =
    let first = g.D.SlotDirectory.state c.args.directory.now in
    let mid = g.D.SlotDirectory.state c.open.new.self in
    let last = g.D.SlotDirectory.state c.open-2.new.self in
    always_on_err c.from_residual-in_err-b.result (second_not_opened first mid first.faults mid.faults last.faults c.open.ensures.keeps.seen
    c.open.ensures.later c.in_err-b.ensures.reason)

pub returns-in_err-b-clause-later : goal.returns-in_err-b-clause-later
returns-in_err-b-clause-later g c = omega (arith, c.open.ensures.later, c.open-2.ensures.later)

pub returns-clause-slots : goal.returns-clause-slots
returns-clause-slots g c = (c.in_ok-a.ensures.slot, c.in_ok-b.ensures.slot)

pub returns-clause-there : goal.returns-clause-there
returns-clause-there g c = both_there (g.D.SlotDirectory.state c.args.directory.now) (g.D.SlotDirectory.state c.open.new.self)
    c.open.ensures.keeps.seen c.in_ok-a.ensures.there c.in_ok-b.ensures.there

pub returns-clause-keeps : goal.returns-clause-keeps
returns-clause-keeps g c = looks_twice _ _ _ c.open.ensures.keeps c.open-2.ensures.keeps

pub returns-clause-later : goal.returns-clause-later
returns-clause-later g c = omega (arith, c.open.ensures.later, c.open-2.ensures.later)

pub returns-in_err-a-clause-slots : goal.returns-in_err-a-clause-slots
returns-in_err-a-clause-slots g c = IfOk-from_err c.from_residual.result _ c.from_residual.ensures.0

pub returns-in_err-a-clause-there : goal.returns-in_err-a-clause-there
returns-in_err-a-clause-there g c = IfOk-from_err c.from_residual.result _ c.from_residual.ensures.0

pub returns-in_err-b-clause-slots : goal.returns-in_err-b-clause-slots
returns-in_err-b-clause-slots g c = IfOk-from_err c.from_residual-in_err-b.result _ c.from_residual-in_err-b.ensures.0

pub returns-in_err-b-clause-there : goal.returns-in_err-b-clause-there
returns-in_err-b-clause-there g c = IfOk-from_err c.from_residual-in_err-b.result _ c.from_residual-in_err-b.ensures.0
