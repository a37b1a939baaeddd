use Rattle.std.proofs.Common.{◌≡◌, Err, ap}
use Rattle.std.proofs.lemmas.Result.{err_from_is_err_and}
use Rattle.tsdb_base.specs.declared.fault.DecodeFault.TheVariants.{Bad}
use Rattle.tsdb_base.proofs.Halves.{none_taken, taken}
use Rattle.tsdb_base.proofs.field.I128PlainValue.take.Goals as goal

pub returns-in_err-high-clause-bad : goal.returns-in_err-high-clause-bad
returns-in_err-high-clause-bad c = λ is_bad.
    let p = err_from_is_err_and c.from_residual.result c.from_residual.ensures.1 in
    let passed_on = rw (p.1, p.2) at is_bad in
    let bad_there : c.in_err-high.field-0.0 ≡ Bad = cc in
    none_taken c.args.bytes.now (c.in_err-high.ensures.bad (ap (λ x. Err x) bad_there))

pub returns-clause-found : goal.returns-clause-found
returns-clause-found c =
    taken c.joined.result c.in_ok-high.high c.in_ok-high.low c.args.bytes.now c.in_ok-high.rest.now c.joined.ensures
    c.in_ok-high.ensures.value.0 c.in_ok-high.ensures.value.1 c.in_ok-high.ensures.found
