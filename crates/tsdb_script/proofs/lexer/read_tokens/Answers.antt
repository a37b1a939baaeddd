use Rattle.std.proofs.Common.{length, sym, ap, arith}
use Rattle.std.proofs.lemmas.Bool.{eqb-false}
use Rattle.std.proofs.lemmas.Result.{err_from_is_err_and}
use Rattle.tsdb_script.proofs.LexLemmas.{after_blanks_is, after_blanks_solid, one_more_token, token_found, token_shorter, blanks_shorter, stuck_at}
use Rattle.tsdb_script.proofs.lexer.read_tokens.Goals as goal

pub loop-rest-init : goal.loop-rest-init
loop-rest-init c =
    rw (c.clear.ensures.items, c.behind_blanks-rest.ensures)
    (record { so_far = after_blanks_is c.args.line.now; solid = after_blanks_solid c.args.line.now })

pub returns-in_err-token-clause-bad : goal.returns-in_err-token-clause-bad
returns-in_err-token-clause-bad c =
    let p = err_from_is_err_and c.from_residual.result c.from_residual.ensures.1 in
    rw (p.1, p.2)
    (stuck_at c.args.line.now c.loop-rest.tokens.items c.loop-rest.rest.now _ c.loop-rest.invariant.so_far c.loop-rest.invariant.solid
    (omega (arith, eqb-false _ _ (sym c.loop-rest-test.ensures))) c.in_err-token.ensures.bad.0 c.in_err-token.ensures.bad.1)

pub loop-rest-smaller : goal.loop-rest-smaller
loop-rest-smaller c =
    let more = c.in_ok-token.more.now in
    let found = token_found c.loop-rest.rest.now (c.in_ok-token.token, more) c.in_ok-token.ensures.found in
    omega (arith, token_shorter c.in_ok-token.token c.loop-rest.rest.now more found, blanks_shorter more, ap length c.behind_blanks-rest-in-loop-rest.ensures)

pub loop-rest-preserved : goal.loop-rest-preserved
loop-rest-preserved c =
    let more = c.in_ok-token.more.now in
    let found = token_found c.loop-rest.rest.now (c.in_ok-token.token, more) c.in_ok-token.ensures.found in
    rw (c.in_ok-push_back.ensures.items, c.behind_blanks-rest-in-loop-rest.ensures)
    (record {
      so_far = one_more_token c.loop-rest.tokens.items c.in_ok-token.token c.args.line.now c.loop-rest.rest.now more c.loop-rest.invariant.so_far found;
      solid = after_blanks_solid more;
    })
