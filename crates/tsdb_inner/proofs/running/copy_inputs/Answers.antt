use Rattle.std.proofs.Common.{◌∙◌, sym, subst, arith}
use Rattle.std.specs.List.{AllByRecursion as Each, AllZip}
use Rattle.std.proofs.lemmas.Result.{err_from_is_err_and}
use Rattle.tsdb_inner.proofs.Opened.{opening_cause}
use Rattle.tsdb_inner.proofs.Series.{cause_then}
use Rattle.tsdb_inner.specs.Inputs.{IsInputOf, IsOpenedAs}
use Rattle.tsdb_inner.proofs.running.copy_inputs.Goals as goal

pub open_inputs-requires-clause-of_store : goal.open_inputs-requires-clause-of_store
open_inputs-requires-clause-of_store g c = λ lifetimes lives.
    subst (Each (IsInputOf g.F.Right.ReadRight.file (g.F.Port.Port.store c.args.port.now))) (sym c.items.ensures) c.requires.of_store

pub copy_all-requires-clause-opened : goal.copy_all-requires-clause-opened
copy_all-requires-clause-opened g c = λ lifetimes lives.
    let Opened = IsOpenedAs g.F.Right.ReadRight.file in
    subst (λ l. AllZip Opened l c.deref.result.now) c.items.ensures
    (subst (AllZip Opened c.items.result.now) (sym c.deref.ensures.value) c.in_ok-files.ensures.opened)

pub copy_all-requires-clause-of_store : goal.copy_all-requires-clause-of_store
copy_all-requires-clause-of_store g c = λ lifetimes lives.
    subst (λ s. Each (IsInputOf g.F.Right.ReadRight.file s) c.args.job.now.inputs) (sym c.in_ok-files.ensures.same_store)
    c.requires.of_store

pub returns-in_err-files-clause-cause : goal.returns-in_err-files-clause-cause
returns-in_err-files-clause-cause g c = λ told truth.
    let p = err_from_is_err_and c.from_residual.result c.from_residual.ensures.1 in
    rw (p.1, p.2) (opening_cause g.F.Right.ReadRight.file c.args.job.now c.items.result.now c.items.ensures _ _
    c.in_err-files.field-0.0 c.in_err-files.ensures.reason told truth)

pub returns-clause-copied : goal.returns-clause-copied
returns-clause-copied g c = c.copy_all.ensures.copied

pub returns-clause-cause : goal.returns-clause-cause
returns-clause-cause g c = λ told truth.
    cause_then _ _ _ _ c.in_ok-files.ensures.later (c.copy_all.ensures.cause told truth)

pub returns-clause-later : goal.returns-clause-later
returns-clause-later g c = omega (arith, c.in_ok-files.ensures.later, c.copy_all.ensures.later)

pub returns-clause-same_store : goal.returns-clause-same_store
returns-clause-same_store g c = c.copy_all.ensures.same_store ∙ c.in_ok-files.ensures.same_store
