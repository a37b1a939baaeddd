use Rattle.std.proofs.Common.{◌≡◌, ◌∙◌, Err, ap, arith, false, rules, sym}
use Rattle.std.proofs.lemmas.Bool.{false≢true}
use Rattle.std.proofs.lemmas.Result.{err_from_is_err_and}
use Rattle.tsdb_base.specs.Values.{is_suitable}
use Rattle.tsdb_pages.specs.declared.fault.PageFault.TheVariants as page
use Rattle.tsdb_pages.specs.Pages.{times_field, values_of}
use Rattle.tsdb_pages.specs.ListSpelling.{spelling}
use Rattle.tsdb_pages.proofs.Bodies.{bad_there, no_rise, is_body, no_times, no_values, short_times, no_pairing}
use Rattle.tsdb_pages.proofs.body.read_page.Goals as goal
use Rattle.tsdb_pages.proofs.body.read_page.Goals.{then-is_empty-via-then-is_empty, then-is_empty-via-else-is_empty+then-len}

pub returns-then-not-suits-clause-bad : goal.returns-then-not-suits-clause-bad
returns-then-not-suits-clause-bad c = λ is_bad points is.
    let unfit : is_suitable c.args.data_type c.args.encoding ≡ false = search rules in
    false≢true (sym unfit ∙ is.suits)

pub returns-in_err-times-clause-bad : goal.returns-in_err-times-clause-bad
returns-in_err-times-clause-bad c = λ is_bad points is.
    let p = err_from_is_err_and c.from_residual.result c.from_residual.ensures.1 in
    let passed_on = rw (p.1, p.2) at is_bad in
    let bad : c.in_err-times.field-0.0 ≡ page.Bad = cc in
    c.in_err-times.ensures.bad (ap (λ x. Err x) bad) (times_field points) (spelling c.args.encoding (values_of points)) (short_times c.args.data_type points is.points_are is.ranges) is.bytes_are

pub returns-in_err-times-2-clause-bad : goal.returns-in_err-times-2-clause-bad
returns-in_err-times-2-clause-bad c = λ is_bad.
    let p = err_from_is_err_and c.from_residual-in_err-times-2.result c.from_residual-in_err-times-2.ensures.1 in
    let passed_on = rw p.1 at is_bad in
    let is_err : p.0 ≡ page.Bad = cc in
    let bad = bad_there c.in_err-times-2.field-0.0 p.0 p.2 is_err in
    no_times c.args.data_type c.args.encoding c.args.body.now c.in_ok-times.times.now c.in_ok-times.values.now (search rules) (search rules) (c.in_err-times-2.ensures.bad (ap (λ x. Err x) bad))

pub returns-in_err-values-clause-bad : goal.returns-in_err-values-clause-bad
returns-in_err-values-clause-bad c = λ is_bad.
    let p = err_from_is_err_and c.from_residual-in_err-values.result c.from_residual-in_err-values.ensures.1 in
    let passed_on = rw p.1 at is_bad in
    let is_err : p.0 ≡ page.Bad = cc in
    let bad = bad_there c.in_err-values.field-0.0 p.0 p.2 is_err in
    no_values c.args.data_type c.args.encoding c.args.body.now c.in_ok-times.times.now c.in_ok-times.values.now (search rules) (search rules) (c.in_err-values.ensures.bad (ap (λ x. Err x) bad))

pub returns-then-is_empty-clause-bad : goal.returns-then-is_empty-clause-bad
returns-then-is_empty-clause-bad c = λ is_bad.
    no_pairing c.args.data_type c.args.encoding (search rules) c.args.body.now c.in_ok-times.times.now c.in_ok-times.values.now c.in_ok-times-2.times.items c.in_ok-values.values.items (search rules) (search rules) c.in_ok-times-2.ensures.found c.in_ok-values.ensures.found
    (λ some same. elim c.then-is_empty.branch [ then-is_empty-via-then-is_empty w ↦ grind (arith, some) | then-is_empty-via-else-is_empty+then-len w ↦ grind (arith, same) ])

pub returns-then-not-is_rising-clause-bad : goal.returns-then-not-is_rising-clause-bad
returns-then-not-is_rising-clause-bad c = λ is_bad.
    no_rise c.args.data_type c.args.encoding (search rules) c.args.body.now c.in_ok-times.times.now c.in_ok-times.values.now c.in_ok-times-2.times.items c.in_ok-values.values.items (search rules) (search rules) c.in_ok-times-2.ensures.found c.in_ok-values.ensures.found
    c.in_ok-points.points.items c.in_ok-points.ensures.times c.in_ok-points.ensures.values (λ rising. search (rules, rising))

pub returns-clause-found : goal.returns-clause-found
returns-clause-found c =
    is_body c.args.data_type c.args.encoding (search rules) c.args.body.now c.in_ok-times.times.now c.in_ok-times.values.now c.in_ok-times-2.times.items c.in_ok-values.values.items (search rules) c.in_ok-times-2.ensures.found c.in_ok-values.ensures.found
    c.in_ok-points.points.items c.in_ok-points.ensures.times c.in_ok-points.ensures.values (grind arith) (search rules)
