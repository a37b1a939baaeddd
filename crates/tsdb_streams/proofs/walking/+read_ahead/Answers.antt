use Rattle.std.proofs.Common.{rules, Ok, Err, sym, subst, ◌∙◌}
use Rattle.tsdb_merge.specs.Steps.{IsAhead}
use Rattle.std.specs.Prelude.{None}
use Rattle.std.proofs.lemmas.Bool.{false≢true}
use Rattle.std.proofs.lemmas.Result.{err_from_is_err_and}
use Rattle.tsdb_streams.proofs.Leaving.{leaves_fault, leaves_none, leaves_ok, leaves_then, nothing_true}
use Rattle.tsdb_streams.specs.Walking.{lanes_left, lanes_most}
use Rattle.tsdb_merge.proofs.TreeLemmas.{ahead_already, ahead_of_pair}
use Rattle.tsdb_streams.proofs.walking.+read_ahead.Goals as goal

pub returns-then-not-is_unread-clause-ahead : goal.returns-then-not-is_unread-clause-ahead
returns-then-not-is_unread-clause-ahead g t c = λ pages truth.
    ahead_already c.args.head.now c.args.node.now _ _ (λ e. false≢true (sym c.if-not-is_unread.true ∙ c.is_unread.ensures.1 e)) c.requires.tree c.requires.within

pub returns-then-not-is_unread-clause-leaves : goal.returns-then-not-is_unread-clause-leaves
returns-then-not-is_unread-clause-leaves g t c = leaves_none g.P.Right.ReadRight.file _ _ _ _ c.requires.of

pub returns-in_err-head-in-Leaf-clause-leaves : goal.returns-in_err-head-in-Leaf-clause-leaves
returns-in_err-head-in-Leaf-clause-leaves g t c =
    let p = err_from_is_err_and c.from_residual.result c.from_residual.ensures.1 in
    rw (p.1, p.2) (leaves_fault g.P.Right.ReadRight.file _ _ _ _ _ _ c.in_err-head-in-Leaf.field-0.0 c.in_err-head-in-Leaf.ensures.leaves)

pub returns-in_ok-head-in-Leaf-clause-leaves : goal.returns-in_ok-head-in-Leaf-clause-leaves
returns-in_ok-head-in-Leaf-clause-leaves g t c = leaves_ok g.P.Right.ReadRight.file _ _ _ _ _ _ _ _ c.in_ok-head-in-Leaf.ensures.leaves

pub returns-in_err-read_ahead-in-Pair-clause-leaves : goal.returns-in_err-read_ahead-in-Pair-clause-leaves
returns-in_err-read_ahead-in-Pair-clause-leaves g t c =
    let p = err_from_is_err_and c.from_residual-in_err-read_ahead-in-Pair.result c.from_residual-in_err-read_ahead-in-Pair.ensures.1 in
    rw (p.1, p.2) (leaves_fault g.P.Right.ReadRight.file _ _ _ _ _ _ c.in_err-read_ahead-in-Pair.field-0.0 c.in_err-read_ahead-in-Pair.ensures.leaves)

pub returns-in_err-read_ahead-in-Pair-2-clause-leaves : goal.returns-in_err-read_ahead-in-Pair-2-clause-leaves
returns-in_err-read_ahead-in-Pair-2-clause-leaves g t c =
    let p = err_from_is_err_and c.from_residual-in_err-read_ahead-in-Pair-2.result c.from_residual-in_err-read_ahead-in-Pair-2.ensures.1 in
    rw (p.1, p.2) (leaves_then g.P.Right.ReadRight.file _ _ _ _ _ _ _ _ _ tt (Err c.in_err-read_ahead-in-Pair-2.field-0.0) c.in_ok-read_ahead-in-Pair.ensures.leaves c.in_err-read_ahead-in-Pair-2.ensures.leaves)

pub take_next-requires-clause-low : goal.take_next-requires-clause-low
take_next-requires-clause-low g t c =
    let low = (c.in_ok-read_ahead-in-Pair.ensures.ahead (λ _. None) (nothing_true g.P.Right.ReadRight.file c.args.list.now.items)).ready in
    let high = (c.in_ok-read_ahead-in-Pair-2.ensures.ahead (λ _. None) (nothing_true g.P.Right.ReadRight.file c.read_ahead.new.list.items)).ready in
    search (rules, low, high)

pub take_next-requires-clause-high : goal.take_next-requires-clause-high
take_next-requires-clause-high g t c =
    let low = (c.in_ok-read_ahead-in-Pair.ensures.ahead (λ _. None) (nothing_true g.P.Right.ReadRight.file c.args.list.now.items)).ready in
    let high = (c.in_ok-read_ahead-in-Pair-2.ensures.ahead (λ _. None) (nothing_true g.P.Right.ReadRight.file c.read_ahead.new.list.items)).ready in
    search (rules, low, high)

pub returns-in_ok-read_ahead-in-Pair-2-clause-ahead : goal.returns-in_ok-read_ahead-in-Pair-2-clause-ahead
returns-in_ok-read_ahead-in-Pair-2-clause-ahead g t c = λ pages truth.
    let left = lanes_left g.P.Right.ReadRight.file pages c.args.kept.now in
    let before = c.args.list.now.items in
    let one = c.read_ahead.new.list.items in
    let two = c.read_ahead-in-Pair.new.list.items in
    let low : IsAhead c.in-Pair.low_head c.in-Pair.low.value (left before) (lanes_most before) c.read_ahead.new.head c.read_ahead.new.node (left one) (lanes_most one) =
    subst (λ n. IsAhead c.in-Pair.low_head n (left before) (lanes_most before) c.read_ahead.new.head c.read_ahead.new.node (left one) (lanes_most one)) c.deref_mut.ensures.value (c.in_ok-read_ahead-in-Pair.ensures.ahead pages truth) in
    let high : IsAhead c.in-Pair.high_head c.in-Pair.high.value (left one) (lanes_most one) c.read_ahead-in-Pair.new.head c.read_ahead-in-Pair.new.node (left two) (lanes_most two) =
    subst (λ n. IsAhead c.in-Pair.high_head n (left one) (lanes_most one) c.read_ahead-in-Pair.new.head c.read_ahead-in-Pair.new.node (left two) (lanes_most two)) c.deref_mut-in-Pair.ensures.value
    (c.in_ok-read_ahead-in-Pair-2.ensures.ahead pages (c.in_ok-read_ahead-in-Pair.ensures.leaves.truth pages truth)) in
    ahead_of_pair c.args.node.now c.in-Pair.low.value c.in-Pair.high.value c.read_ahead.new.node c.read_ahead-in-Pair.new.node c.in-Pair.low_head c.in-Pair.high_head c.read_ahead.new.head c.read_ahead-in-Pair.new.head c.take_next.new.low c.take_next.new.high c.args.head.now c.take_next.result
    (left before) (left one) (left two) (lanes_most before) (lanes_most one) (lanes_most two) _ _ _ _ c.in-Pair.is (c.is_unread.ensures.0 c.if-not-is_unread.false) c.requires.tree low high c.take_next.ensures

pub returns-in_ok-read_ahead-in-Pair-2-clause-leaves : goal.returns-in_ok-read_ahead-in-Pair-2-clause-leaves
returns-in_ok-read_ahead-in-Pair-2-clause-leaves g t c =
    leaves_then g.P.Right.ReadRight.file _ _ _ _ _ _ _ _ _ tt (Ok tt) c.in_ok-read_ahead-in-Pair.ensures.leaves c.in_ok-read_ahead-in-Pair-2.ensures.leaves
