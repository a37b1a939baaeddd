use Rattle.std.proofs.Common.{Ok, Err, sym, subst, ◌∙◌}
use Rattle.tsdb_merge.specs.Steps.{IsAhead}
use Rattle.std.proofs.lemmas.Bool.{false≢true}
use Rattle.std.proofs.lemmas.Result.{err_from_is_err_and}
use Rattle.tsdb_merge.proofs.TreeLemmas.{ahead_already, ahead_of_pair}
use Rattle.tsdb_merge.proofs.Pulls.{cause_none, cause_then}
use Rattle.tsdb_merge.proofs.tree.+read_ahead.Goals as goal

pub returns-then-not-is_unread-clause-ahead : goal.returns-then-not-is_unread-clause-ahead
returns-then-not-is_unread-clause-ahead g t c =
    ahead_already c.args.head.now c.args.node.now _ _ (λ e. false≢true (sym c.if-not-is_unread.true ∙ c.is_unread.ensures.1 e)) c.requires.tree c.requires.within

pub returns-then-not-is_unread-clause-cause : goal.returns-then-not-is_unread-clause-cause
returns-then-not-is_unread-clause-cause g t c = cause_none _ _ _

pub returns-in_err-read_ahead-in-Pair-2-clause-cause : goal.returns-in_err-read_ahead-in-Pair-2-clause-cause
returns-in_err-read_ahead-in-Pair-2-clause-cause g t c =
    let p = err_from_is_err_and c.from_residual-in_err-read_ahead-in-Pair-2.result c.from_residual-in_err-read_ahead-in-Pair-2.ensures.1 in
    rw (p.1, p.2) (cause_then _ _ _ _ _ _ tt (Err c.in_err-read_ahead-in-Pair-2.field-0.0) c.in_ok-read_ahead-in-Pair.ensures.cause c.in_err-read_ahead-in-Pair-2.ensures.cause)

pub returns-in_ok-read_ahead-in-Pair-2-clause-ahead : goal.returns-in_ok-read_ahead-in-Pair-2-clause-ahead
returns-in_ok-read_ahead-in-Pair-2-clause-ahead g t c =
    let left = g.Q.Supply.left in
    let most = g.Q.Supply.most in
    let low : IsAhead c.in-Pair.low_head c.in-Pair.low.value (left c.args.supply.now) (most c.args.supply.now) c.read_ahead.new.head c.read_ahead.new.node (left c.read_ahead.new.supply) (most c.read_ahead.new.supply) =
    subst (λ n. IsAhead c.in-Pair.low_head n (left c.args.supply.now) (most c.args.supply.now) c.read_ahead.new.head c.read_ahead.new.node (left c.read_ahead.new.supply) (most c.read_ahead.new.supply)) c.deref_mut.ensures.value c.in_ok-read_ahead-in-Pair.ensures.ahead in
    let high : IsAhead c.in-Pair.high_head c.in-Pair.high.value (left c.read_ahead.new.supply) (most c.read_ahead.new.supply) c.read_ahead-in-Pair.new.head c.read_ahead-in-Pair.new.node (left c.read_ahead-in-Pair.new.supply) (most c.read_ahead-in-Pair.new.supply) =
    subst (λ n. IsAhead c.in-Pair.high_head n (left c.read_ahead.new.supply) (most c.read_ahead.new.supply) c.read_ahead-in-Pair.new.head c.read_ahead-in-Pair.new.node (left c.read_ahead-in-Pair.new.supply) (most c.read_ahead-in-Pair.new.supply)) c.deref_mut-in-Pair.ensures.value c.in_ok-read_ahead-in-Pair-2.ensures.ahead in
    ahead_of_pair c.args.node.now c.in-Pair.low.value c.in-Pair.high.value c.read_ahead.new.node c.read_ahead-in-Pair.new.node c.in-Pair.low_head c.in-Pair.high_head c.read_ahead.new.head c.read_ahead-in-Pair.new.head c.take_next.new.low c.take_next.new.high c.args.head.now c.take_next.result
    (left c.args.supply.now) (left c.read_ahead.new.supply) (left c.read_ahead-in-Pair.new.supply) (most c.args.supply.now) (most c.read_ahead.new.supply) (most c.read_ahead-in-Pair.new.supply) _ _ _ _ c.in-Pair.is (c.is_unread.ensures.0 c.if-not-is_unread.false) c.requires.tree low high c.take_next.ensures

pub returns-in_ok-read_ahead-in-Pair-2-clause-cause : goal.returns-in_ok-read_ahead-in-Pair-2-clause-cause
returns-in_ok-read_ahead-in-Pair-2-clause-cause g t c = cause_then _ _ _ _ _ _ tt (Ok tt) c.in_ok-read_ahead-in-Pair.ensures.cause c.in_ok-read_ahead-in-Pair-2.ensures.cause
