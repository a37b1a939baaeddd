use Rattle.std.proofs.Common.{rules, ◌∙◌, Err, refl, sym, subst, arith}
use Rattle.std.specs.List.{AllByRecursion as Each, AllZip}
use Rattle.std.proofs.lemmas.List.{take_all}
use Rattle.std.proofs.lemmas.Result.{err_from_is_err_and}
use Rattle.tsdb_streams.proofs.Reasons.{reason_memory, reason_ok, reason_then, same_reason}
use Rattle.tsdb_inner.proofs.All.{among_at}
use Rattle.tsdb_inner.proofs.Lists.{zip_more}
use Rattle.tsdb_inner.specs.Inputs.{IsInputOf, IsOpenedAs, IsWholeInput}
use Rattle.tsdb_base.proofs.Lists.{each_among}
use Rattle.tsdb_inner.proofs.inputs.open_inputs.Goals as goal

pub loop-input-init : goal.loop-input-init
loop-input-init g c = (search rules, omega arith, refl)

pub open_input-requires-clause-of_store : goal.open_input-requires-clause-of_store
open_input-requires-clause-of_store g c = λ lifetimes lives.
    let file = g.F.Right.ReadRight.file in
    subst (λ s. IsInputOf file s c.input-item.result) (sym c.loop-input.invariant.2)
    (each_among (IsInputOf file (g.F.Port.Port.store c.args.port.now)) c.args.inputs.now c.input-item.result c.requires.of_store
    (among_at c.args.inputs.now c.loop-input.input-index c.input-item.result c.loop-input-test.true c.input-item.is))

pub loop-input-preserved : goal.loop-input-preserved
loop-input-preserved g c =
    let inv = c.loop-input.invariant in
    let done = c.in_ok-open_input.ensures in (
      zip_more (IsOpenedAs g.F.Right.ReadRight.file) c.args.inputs.now c.loop-input.input-index c.input-item.result
          c.loop-input.files.items c.push.new.self.items c.in_ok-open_input.field-0 c.loop-input-test.true c.input-item.is inv.0 done.opened (search rules),
      omega (arith, inv.1, done.later),
      done.same_store ∙ inv.2,
    )

pub returns-in_err-files-clause-reason : goal.returns-in_err-files-clause-reason
returns-in_err-files-clause-reason g c =
    let p = err_from_is_err_and c.from_residual.result c.from_residual.ensures.1 in
    rw p.1 (reason_memory _ _ _ _ (omega arith) p.2)

pub returns-in_err-open_input-clause-reason : goal.returns-in_err-open_input-clause-reason
returns-in_err-open_input-clause-reason g c =
    let file = g.F.Right.ReadRight.file in
    let p = err_from_is_err_and c.from_residual-in_err-open_input.result c.from_residual-in_err-open_input.ensures.1 in
    let among = among_at c.args.inputs.now c.loop-input.input-index c.input-item.result c.loop-input-test.true c.input-item.is in
    rw (p.1, p.2) (same_reason _ _ _ _ (reason_then _ _ _ _ _ (Err c.in_err-open_input.field-0.0)
    (λ whole. each_among (IsWholeInput file) c.args.inputs.now c.input-item.result whole among) c.loop-input.invariant.1
    c.in_err-open_input.ensures.reason))

pub returns-in_err-open_input-clause-later : goal.returns-in_err-open_input-clause-later
returns-in_err-open_input-clause-later g c = omega (arith, c.loop-input.invariant.1, c.in_err-open_input.ensures.later)

pub returns-in_err-open_input-clause-same_store : goal.returns-in_err-open_input-clause-same_store
returns-in_err-open_input-clause-same_store g c = c.in_err-open_input.ensures.same_store ∙ c.loop-input.invariant.2

pub returns-in_err-push-clause-reason : goal.returns-in_err-push-clause-reason
returns-in_err-push-clause-reason g c =
    let p = err_from_is_err_and c.from_residual-in_err-push.result c.from_residual-in_err-push.ensures.1 in
    rw p.1 (reason_memory _ _ _ _ (omega (arith, c.loop-input.invariant.1, c.in_ok-open_input.ensures.later)) p.2)

pub returns-in_err-push-clause-later : goal.returns-in_err-push-clause-later
returns-in_err-push-clause-later g c = omega (arith, c.loop-input.invariant.1, c.in_ok-open_input.ensures.later)

pub returns-in_err-push-clause-same_store : goal.returns-in_err-push-clause-same_store
returns-in_err-push-clause-same_store g c = c.in_ok-open_input.ensures.same_store ∙ c.loop-input.invariant.2

pub returns-clause-opened : goal.returns-clause-opened
returns-clause-opened g c = subst (λ l. AllZip (IsOpenedAs g.F.Right.ReadRight.file) l c.loop-input.files.items)
    (take_all c.loop-input.input-index c.args.inputs.now c.loop-input-test.false) c.loop-input.invariant.0

pub returns-clause-reason : goal.returns-clause-reason
returns-clause-reason g c = reason_ok _ _ _ _ c.loop-input.invariant.1

pub returns-clause-later : goal.returns-clause-later
returns-clause-later g c = c.loop-input.invariant.1

pub returns-clause-same_store : goal.returns-clause-same_store
returns-clause-same_store g c = c.loop-input.invariant.2
