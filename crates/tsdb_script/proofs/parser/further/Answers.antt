use Rattle.std.proofs.Common.{inl, inr, sym, ◌∙◌}
use Rattle.tsdb_script.proofs.PartLemmas.{items_step, items_over}
use Rattle.tsdb_script.proofs.parser.further.Goals as goal
use Rattle.tsdb_script.proofs.parser.further.Goals.{then-loop-turns-test+else-stands, else-loop-turns-test}

pub loop-turns-preserved : goal.loop-turns-preserved
loop-turns-preserved g c =
    rw c.in_ok-push-2.ensures.items
    (items_step c.args.between g.P.Listed.at c.loop-turns.turns c.loop-turns.tokens.items c.take_fixed.new.tokens.items c.take.new.tokens.items c.loop-turns.items.items c.in_ok-take.field-0 _
    c.loop-turns-test.true (sym c.stands.ensures ∙ c.if-stands.true) c.in_ok-take_fixed.ensures c.in_ok-take.ensures c.loop-turns.invariant)

pub returns : goal.returns
returns g c =
    rw c.of.ensures
    (elim c.loop-turns-test.branch [
      | then-loop-turns-test+else-stands w ↦ items_over c.args.between g.P.Listed.at c.loop-turns.turns _ _ _
          (inr (sym w.stands.ensures ∙ w.if-stands.false)) c.loop-turns.invariant
      | else-loop-turns-test w ↦ items_over c.args.between g.P.Listed.at c.loop-turns.turns _ _ _ (inl w.loop-turns-test.false) c.loop-turns.invariant
    ])
