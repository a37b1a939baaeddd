use Rattle.std.proofs.Common.{◌≡◌, Err, ap}
use Rattle.std.proofs.lemmas.Result.{err_from_is_err_and}
use Rattle.tsdb_base.specs.declared.fault.DecodeFault.TheVariants.{Bad}
use Rattle.tsdb_base.specs.Values.{IsValueOf}
use Rattle.tsdb_bits.proofs.ListLaws.{only_found}
use Rattle.tsdb_pages.specs.ListSpelling.{spelling}
use Rattle.tsdb_pages.proofs.ValueLists.{values_spell, no_values_spell}
use Rattle.tsdb_pages.proofs.SuitablePairs.{laws_of}
use Rattle.tsdb_pages.proofs.decoder.values_in.Goals as goal

pub returns-in_err-list-clause-bad : goal.returns-in_err-list-clause-bad
returns-in_err-list-clause-bad g c = λ is_bad.
    let p = err_from_is_err_and c.from_residual.result c.from_residual.ensures.1 in
    let passed_on = rw (p.1, p.2) at is_bad in
    let bad_there : c.in_err-list.field-0.0 ≡ Bad = cc in
    no_values_spell g.T.ValueType.data_type g.T.ValueType.as_value g.T.ValueType.is_value g.T.ValueType.makes_values c.args.encoding c.args.bytes.now (c.in_err-list.ensures.bad (ap (λ x. Err x) bad_there))

pub returns-clause-found : goal.returns-clause-found
returns-clause-found g c =
    values_spell g.T.ValueType.data_type g.T.ValueType.as_value g.T.ValueType.is_value g.T.ValueType.makes_values c.args.encoding c.args.bytes.now c.in_ok-list.list.items c.in_ok-values.values.items
    c.in_ok-values.ensures c.in_ok-list.ensures.found

pub returns-clause-only : goal.returns-clause-only
returns-clause-only g c =
    only_found (spelling c.args.encoding) (IsValueOf g.T.ValueType.data_type) (laws_of g.T.ValueType.data_type c.args.encoding c.requires.suits).one c.args.bytes.now c.in_ok-values.values.items (returns-clause-found g c)
