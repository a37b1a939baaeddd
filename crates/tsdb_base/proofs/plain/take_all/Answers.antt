use Rattle.std.proofs.Common.{◌≡◌, Err, sym, ap, ◌∙◌, arith, rules}
use Rattle.std.proofs.lemmas.Grind.{common_steps}
use Rattle.std.proofs.lemmas.Result.{err_from_is_err_and}
use Rattle.tsdb_base.specs.declared.fault.DecodeFault.TheVariants.{Bad}
use Rattle.tsdb_base.proofs.PlainLists.{no_more}
use Rattle.tsdb_base.proofs.plain.take_all.Goals as goal

pub returns-in_err-value-clause-bad : goal.returns-in_err-value-clause-bad
returns-in_err-value-clause-bad g c = λ is_bad values rest are e.
    let p = err_from_is_err_and c.from_residual.result c.from_residual.ensures.1 in
    let passed_on = rw (p.1, p.2) at is_bad in
    let bad_there : c.in_err-value.field-0.0 ≡ Bad = cc in
    no_more g.T.PlainValue.spelling g.T.PlainValue.is_value g.met.T.PlainValue.prefix_free c.loop.values.items values c.loop.rest.now rest
    (omega (arith, c.loop.invariant.count, c.loop-test.true, are.0)) c.loop.invariant.values are.1 (sym c.loop.invariant.found ∙ e) (c.in_err-value.ensures.bad (ap (λ x. Err x) bad_there))

pub loop-preserved : goal.loop-preserved
loop-preserved g c = grind (arith, common_steps)

pub loop-init : goal.loop-init
loop-init g c = search rules

pub returns-clause-count : goal.returns-clause-count
returns-clause-count g c = search rules
