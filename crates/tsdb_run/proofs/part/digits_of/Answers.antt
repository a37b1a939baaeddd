use Rattle.std.proofs.Common.{None, Some, rules}
use Rattle.std.proofs.lemmas.Bool.Decides.{Decides-eqb}
use Rattle.std.proofs.lemmas.Slice.Eq.{strip_prefix_is}
use Rattle.tsdb_run.proofs.PartLemmas.{apart, joined, no_name}
use Rattle.tsdb_run.proofs.part.digits_of.Goals as goal

pub returns-in_err-strip_prefix-clause-none : goal.returns-in_err-strip_prefix-clause-none
returns-in_err-strip_prefix-clause-none c =
    let first = c.in_ok-word.word.now in
    let name = c.args.name.now in
    rw c.from_residual-in_err-strip_prefix.ensures
    (no_name c.args.words.now c.in_ok-word.behind.now first name (search rules)
    (strip_prefix_is Decides-eqb first name None (search rules)))

pub returns-in_ok-digits-in-empty-clause-found : goal.returns-in_ok-digits-in-empty-clause-found
returns-in_ok-digits-in-empty-clause-found c =
    let first = c.in_ok-word.word.now in
    let name = c.args.name.now in
    let tail = c.in_ok-strip_prefix.field-0 in
    apart c.args.words.now c.in_ok-word.behind.now c.in_ok-digits-in-empty.rest.now first name tail.now c.bytes-in-empty.result.now (search rules)
    (strip_prefix_is Decides-eqb first name (Some tail) (search rules)) c.in-empty.len_below (search rules)

pub returns-in-61-clause-found : goal.returns-in-61-clause-found
returns-in-61-clause-found c =
    let first = c.in_ok-word.word.now in
    let name = c.args.name.now in
    let tail = c.in_ok-strip_prefix.field-0 in
    joined c.args.words.now c.in_ok-word.behind.now first name tail.now (search rules)
    (strip_prefix_is Decides-eqb first name (Some tail) (search rules)) c.in-61.len_at_least (search rules)
