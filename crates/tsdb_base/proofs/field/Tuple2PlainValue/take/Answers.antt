use Rattle.std.proofs.lemmas.Grind.{common_steps}
use Rattle.std.proofs.Common.{◌≡◌, Err, sym, ap, ◌∙◌, ◌++◌, append_assoc, arith}
use Rattle.std.proofs.lemmas.Result.{err_from_is_err_and}
use Rattle.tsdb_base.specs.declared.fault.DecodeFault.TheVariants.{Bad}
use Rattle.tsdb_base.proofs.field.Tuple2PlainValue.take.Goals as goal

pub returns-in_err-second-clause-bad : goal.returns-in_err-second-clause-bad
returns-in_err-second-clause-bad g c = λ is_bad value rest are e.
    let p = err_from_is_err_and c.from_residual-in_err-second.result c.from_residual-in_err-second.ensures.1 in
    let passed_on = rw (p.1, p.2) at is_bad in
    let bad_there : c.in_err-second.field-0.0 ≡ Bad = cc in
    let same = g.met.A.PlainValue.prefix_free c.in_ok-first.first value.0 c.in_ok-first.bytes.now (g.B.PlainValue.spelling value.1 ++ rest) c.in_ok-first.ensures.value are.0
    (sym c.in_ok-first.ensures.found ∙ e ∙ append_assoc (g.A.PlainValue.spelling value.0) (g.B.PlainValue.spelling value.1) rest) in
    c.in_err-second.ensures.bad (ap (λ x. Err x) bad_there) value.1 rest are.1 same.1

pub returns-in_err-first-clause-bad : goal.returns-in_err-first-clause-bad
returns-in_err-first-clause-bad g c = grind (arith, common_steps)

pub returns-clause-found : goal.returns-clause-found
returns-clause-found g c = grind (arith, common_steps)
