use Rattle.std.proofs.Common.{arith, subst}
use Rattle.std.proofs.lemmas.Result.{err_from_is_err_and}
use Rattle.tsdb_run.specs.Output.{replies_text}
use Rattle.tsdb_run.proofs.PutLemmas.{HasPut, HasPut-more, HasPut-none, Puts-in_part, calm_after, held_after}
use Rattle.tsdb_run.proofs.TextLemmas.{length-answered, replies_text-answered, side_by_side-drop}
use Rattle.tsdb_run.proofs.output.put_replies.Goals as goal

pub loop-at-init : goal.loop-at-init
loop-at-init g c =
    let out = c.args.out.now in
    let text = replies_text c.args.script.now c.args.history.now c.args.session in
    subst (λ rest. HasPut (g.K.Sink.held out) (g.K.Sink.held out) text rest (g.K.Counted.faults out) (g.K.Counted.faults out))
    (replies_text-answered c.args.script.now c.args.history.now c.args.session c.requires)
    (HasPut-none (g.K.Sink.held out) text (g.K.Counted.faults out))

pub returns-in_err-put_reply : goal.returns-in_err-put_reply
returns-in_err-put_reply g c =
    let p = err_from_is_err_and c.from_residual.result c.from_residual.ensures.1 in
    let long = length-answered c.args.script.now c.args.history.now c.requires in
    let next = side_by_side-drop c.args.session c.args.script.now c.args.history.now c.loop-at.at c.index-script-at.result c.index-history-at.result
    (omega arith) (omega (arith, long)) c.index-script-at.is c.index-history-at.is in
    rw p.1 (Puts-in_part _ _ _ _ _ _ _ _ _ _ c.put_reply.result _ p.0 c.loop-at.invariant next c.put_reply.ensures c.in_err-put_reply.was p.2)

pub loop-at-preserved : goal.loop-at-preserved
loop-at-preserved g c =
    let long = length-answered c.args.script.now c.args.history.now c.requires in
    let next = side_by_side-drop c.args.session c.args.script.now c.args.history.now c.loop-at.at c.index-script-at.result c.index-history-at.result
    (omega arith) (omega (arith, long)) c.index-script-at.is c.index-history-at.is in
    HasPut-more _ _ _ _ _ _ _ _ _ _ c.loop-at.invariant next (held_after _ _ _ _ _ c.put_reply.result _ c.put_reply.ensures c.in_ok-put_reply.was)
    (calm_after _ _ _ _ _ c.put_reply.result _ c.put_reply.ensures c.in_ok-put_reply.was)
