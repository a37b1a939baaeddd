use Rattle.std.proofs.Common.{◌≡◌, ◌++◌, ◌∙◌, ap, arith, map, subst, sym}
use Rattle.std.specs.List.{flat_map}
use Rattle.std.proofs.lemmas.List.{drop_all}
use Rattle.std.proofs.lemmas.Result.{err_from_is_err_and}
use Rattle.tsdb_print.specs.Text.{order_text}
use Rattle.tsdb_run.specs.Output.{output_text, session_part}
use Rattle.tsdb_run.proofs.PutLemmas.{HasPut, HasPut-more, HasPut-none, Puts-after, Puts-in_part, Puts-memory, calm_after, held_after}
use Rattle.tsdb_run.proofs.TextLemmas.{flat_map-drop}
use Rattle.tsdb_run.proofs.output.put_output.Goals as goal

pub loop-session-init : goal.loop-session-init
loop-session-init g c =
    let out = c.args.out.now in
    let text = output_text c.args.script.now c.args.history.now in
    let last = order_text (map (λ told. told.session) c.args.history.now) in
    subst (λ sessions. HasPut (g.K.Sink.held out) (g.K.Sink.held out) text (flat_map (session_part c.args.script.now c.args.history.now) sessions ++ last)
    (g.K.Counted.faults out) (g.K.Counted.faults out))
    (sym (c.deref-session-items.ensures.value ∙ c.in_ok-sessions.ensures))
    (HasPut-none (g.K.Sink.held out) text (g.K.Counted.faults out))

pub returns-in_err-put_part : goal.returns-in_err-put_part
returns-in_err-put_part g c =
    let p = err_from_is_err_and c.from_residual-in_err-put_part.result c.from_residual-in_err-put_part.ensures.1 in
    let text = output_text c.args.script.now c.args.history.now in
    let last = order_text (map (λ told. told.session) c.args.history.now) in
    let next = flat_map-drop (session_part c.args.script.now c.args.history.now) c.deref-session-items.result.now last c.loop-session.session-index 0 (omega arith) in
    rw p.1 (Puts-in_part _ _ _ text _ _ _ _ _ _ c.put_part.result _ p.0 c.loop-session.invariant next c.put_part.ensures c.in_err-put_part.was p.2)

pub loop-session-preserved : goal.loop-session-preserved
loop-session-preserved g c =
    let text = output_text c.args.script.now c.args.history.now in
    let last = order_text (map (λ told. told.session) c.args.history.now) in
    let next = flat_map-drop (session_part c.args.script.now c.args.history.now) c.deref-session-items.result.now last c.loop-session.session-index 0 (omega arith) in
    HasPut-more _ text _ _ _ _ _ _ _ _ c.loop-session.invariant next (held_after _ _ _ _ _ c.put_part.result _ c.put_part.ensures c.in_ok-put_part.was)
    (calm_after _ _ _ _ _ c.put_part.result _ c.put_part.ensures c.in_ok-put_part.was)

pub returns-in_err-print_order : goal.returns-in_err-print_order
returns-in_err-print_order g c =
    let p = err_from_is_err_and c.from_residual-in_err-print_order.result c.from_residual-in_err-print_order.ensures.1 in
    let text = output_text c.args.script.now c.args.history.now in
    rw p.1 (Puts-memory _ _ text _ _ _ p.0 c.loop-session.invariant p.2)

pub returns : goal.returns
returns g c =
    let text = output_text c.args.script.now c.args.history.now in
    let last = order_text (map (λ told. told.session) c.args.history.now) in
    let put = c.loop-session.invariant in
    let order : c.deref-2.result.now ≡ last =
    c.deref-2.ensures.value ∙ c.in_ok-print_order.ensures ∙ ap order_text (c.deref.ensures.value ∙ c.in_ok-order.ensures) in
    let none = ap (λ l. flat_map (session_part c.args.script.now c.args.history.now) l ++ last)
    (drop_all c.loop-session.session-index c.deref-session-items.result.now (omega arith)) in
    Puts-after _ _ _ text put.prefix c.deref-2.result.now _ _ _ _ put.held put.same
    (put.splits ∙ ap (λ l. put.prefix ++ l) (none ∙ sym order)) c.put_lines.ensures
