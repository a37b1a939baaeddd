use Rattle.std.proofs.Common.{option_map, ap, ◌∙◌}
use Rattle.tsdb_turn.specs.Passes.{PassState}
use Rattle.tsdb_turn.specs.Rule.{known, view}
use Rattle.tsdb_turn.specs.declared.view.Stage.TheVariants.{Waiting}
use Rattle.tsdb_turn.proofs.Steps.{sits_outside}
use Rattle.tsdb_turn.proofs.turn.Turn.enter.Goals as goal

pub draw-ticket-requires-clause-outside : goal.draw-ticket-requires-clause-outside
draw-ticket-requires-clause-outside g c =
    let p = c.pass.inside in
    let k = known p.number p.marks.start.value p.marks.last.value in
    (k, sits_outside k (option_map (λ s. s.value) p.entered) p.seat.me c.pass.invariant.sits (ap (λ (q : PassState g.row.V.Denot). q.entered) c.pass.view_is ∙ c.requires.outside))

pub wait-requires-clause-waiting : goal.wait-requires-clause-waiting
wait-requires-clause-waiting g c =
    let p = c.pass.inside in
    let k = known p.number p.marks.start.value p.marks.last.value in
    let out = sits_outside k (option_map (λ s. s.value) p.entered) p.seat.me c.pass.invariant.sits (ap (λ (q : PassState g.row.V.Denot). q.entered) c.pass.view_is ∙ c.requires.outside) in
    let d = c.draw-ticket.ensures.ticket in
    (d.0, k, d.1, d.2 ∙ ap (λ m. (view (Waiting d.0) m.0.known, m.1)) out)
