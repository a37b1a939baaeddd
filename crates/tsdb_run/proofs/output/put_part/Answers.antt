use Rattle.std.proofs.Common.{◌≡◌, ◌++◌, ◌∙◌, ap, sym}
use Rattle.std.proofs.lemmas.Result.{err_from_is_err_and}
use Rattle.tsdb_run.specs.Output.{session_part, replies_text}
use Rattle.tsdb_run.proofs.PutLemmas.{HasPut-none, Puts-after, Puts-in_part, calm_after, held_after}
use Rattle.tsdb_run.proofs.output.put_part.Goals as goal

pub returns-in_err-put_lines : goal.returns-in_err-put_lines
returns-in_err-put_lines g c =
    let p = err_from_is_err_and c.from_residual-in_err-put_lines.result c.from_residual-in_err-put_lines.ensures.1 in
    let text = session_part c.args.script.now c.args.history.now c.args.session in
    let replies = replies_text c.args.script.now c.args.history.now c.args.session in
    let heading : text ≡ c.deref.result.now ++ replies = ap (λ l. l ++ replies) (sym (c.deref.ensures.value ∙ c.in_ok-print_session.ensures)) in
    rw p.1 (Puts-in_part _ _ _ text text c.deref.result.now replies _ _ _ c.put_lines.result _ p.0 (HasPut-none _ text _) heading
    c.put_lines.ensures c.in_err-put_lines.was p.2)

pub returns : goal.returns
returns g c =
    let text = session_part c.args.script.now c.args.history.now c.args.session in
    let replies = replies_text c.args.script.now c.args.history.now c.args.session in
    let heading : text ≡ c.deref.result.now ++ replies = ap (λ l. l ++ replies) (sym (c.deref.ensures.value ∙ c.in_ok-print_session.ensures)) in
    Puts-after _ _ _ text c.deref.result.now replies _ _ _ _ (held_after _ _ _ _ _ c.put_lines.result _ c.put_lines.ensures c.in_ok-put_lines.was)
    (calm_after _ _ _ _ _ c.put_lines.result _ c.put_lines.ensures c.in_ok-put_lines.was)
    heading c.put_replies.ensures
