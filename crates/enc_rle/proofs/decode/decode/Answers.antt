use Rattle.std.proofs.Common.{◌≡◌, ℕ, ◌-◌, ◌<◌, Bool, false, ◌==◌, [], ◌++◌, length, sym, ap, ◌∙◌, rules, arith}
use Rattle.std.proofs.lemmas.Grind.{common_steps}
use Rattle.std.specs.Prelude.{map}
use Rattle.std.specs.List.{flat_map}
use Rattle.std.proofs.lemmas.Bool.{ne_eqb}
use Rattle.std.proofs.lemmas.List.{nil_from_length}
use Rattle.tsdb_bits.proofs.ListLaws.{only_found}
use Rattle.enc_rle.specs.Spelling.{run_bytes, spelling}
use Rattle.enc_rle.proofs.Runs.{first_run, run_split, same_from_spelling}
use Rattle.enc_rle.proofs.Progress.{no_progress, one_run_more, all_read, next_run_of, nothing_left, no_count, first_or_not}
use Rattle.enc_rle.proofs.decode.decode.Goals as goal

pub returns-in_err-count-clause-bad : goal.returns-in_err-count-clause-bad
returns-in_err-count-clause-bad g c = λ is_bad values is. no_count g.T.Coded.code_of g.T.Coded.is_value c.args.bytes.now values is c.in_err-count.ensures.none

pub runs-init : goal.runs-init
runs-init g c = no_progress g.T.Coded.code_of g.T.Coded.is_value c.in_ok-count.rest.now c.in_ok-count.count c.in_ok-values.values.items c.in_ok-values.ensures.items

pub returns-in_err-len-clause-bad : goal.returns-in_err-len-clause-bad
returns-in_err-len-clause-bad g c = λ is_bad values is.
    let first = first_or_not c.is_empty.result _ (length c.runs.values.items) c.is_empty.ensures (search rules) in
    let next = next_run_of g.T.Coded.code_of g.T.Coded.is_value g.met.T.Coded.small c.args.bytes.now c.in_ok-count.rest.now c.runs.rest.now c.in_ok-count.count c.runs.last (c.in_ok-count.count - c.len-in-runs.result) c.is_empty.result c.runs.values.items values
    c.runs.invariant c.in_ok-count.ensures.found is (search rules) first.1 (search rules) in
    c.in_err-len.ensures.none next.run next.behind next.may next.rest-is

pub returns-in_default-clause-bad : goal.returns-in_default-clause-bad
returns-in_default-clause-bad g c = λ is_bad values is.
    let first = first_or_not c.is_empty.result _ (length c.runs.values.items) c.is_empty.ensures (search rules) in
    let next = next_run_of g.T.Coded.code_of g.T.Coded.is_value g.met.T.Coded.small c.args.bytes.now c.in_ok-count.rest.now c.runs.rest.now c.in_ok-count.count c.runs.last (c.in_ok-count.count - c.len-in-runs.result) c.is_empty.result c.runs.values.items values
    c.runs.invariant c.in_ok-count.ensures.found is (search rules) first.1 (search rules) in
    let same = first_run next.run next.behind c.runs.rest.now c.in_ok-len.behind.now c.in_ok-len.len c.in_ok-len.code (sym next.rest-is) (run_split c.in_ok-len.len c.in_ok-len.code c.runs.rest.now c.in_ok-len.behind.now c.in_ok-len.ensures.found) in
    c.in_default.ensures.none next.value.0 next.value.1 (sym same.1 ∙ next.value.2)

pub runs-preserved : goal.runs-preserved
runs-preserved g c =
    let first = first_or_not c.is_empty.result _ (length c.runs.values.items) c.is_empty.ensures (search rules) in
    one_run_more g.T.Coded.code_of g.T.Coded.is_value c.in_ok-count.rest.now c.runs.rest.now c.in_ok-len.behind.now c.in_ok-count.count c.runs.last (c.in_ok-count.count - c.len-in-runs.result) c.is_empty.result
    (record { count = c.in_ok-len.len; code = c.in_ok-len.code }) c.runs.values.items c.push_run.new.values.items c.in-Some.value c.runs.invariant first.0 (search rules)
    c.in_ok-len.ensures.found c.in_ok-len.ensures.follows c.in-Some.ensures.found c.in-Some.ensures.typed c.in_ok-push_run.ensures.ok

pub returns-then-not-is_empty-clause-bad : goal.returns-then-not-is_empty-clause-bad
returns-then-not-is_empty-clause-bad g c = λ is_bad values is.
    let none = ap length (nothing_left g.T.Coded.code_of g.T.Coded.is_value c.args.bytes.now c.in_ok-count.rest.now c.runs.rest.now c.in_ok-count.count c.runs.last c.runs.values.items values c.runs.invariant c.in_ok-count.ensures.found is (search rules)) in
    search rules

pub returns-clause-found : goal.returns-clause-found
returns-clause-found g c =
    let none : length c.runs.rest.now ≡ 0 = search rules in
    all_read g.T.Coded.code_of g.T.Coded.is_value c.args.bytes.now c.in_ok-count.rest.now c.runs.rest.now c.in_ok-count.count c.runs.last c.runs.values.items c.runs.invariant c.in_ok-count.ensures.found
    (nil_from_length c.runs.rest.now none) (search rules) c.in_ok-count.ensures.few

pub returns-clause-only : goal.returns-clause-only
returns-clause-only g c =
    only_found (spelling g.T.Coded.code_of) g.T.Coded.is_value (λ xs ys p q e. same_from_spelling g.T.Coded.code_of g.met.T.Coded.one_to_one xs ys e) c.args.bytes.now c.runs.values.items (returns-clause-found g c)

pub runs-smaller : goal.runs-smaller
runs-smaller g c = grind (arith, common_steps)
