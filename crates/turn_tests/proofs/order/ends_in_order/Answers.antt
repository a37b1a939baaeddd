use Rattle.std.proofs.Common.{length, All, ap, sym, subst, ◌∙◌}
use Rattle.tsdb_turn.specs.Passes.{IsOutside}
use Rattle.tsdb_turn.proofs.Passes.{length-new_passes, new_passes-outside}
use Rattle.turn_tests.proofs.order.ends_in_order.Goals as goal

pub take_all_turns-requires-clause-outside : goal.take_all_turns-requires-clause-outside
take_all_turns-requires-clause-outside g c κs within =
    let id = c.in-Ok.turn.id in
    let all = c.as_mut_slice.ensures.value ∙ c.in-Ok.ensures.passes in
    subst (λ passes. All (IsOutside id) passes) (sym all) (new_passes-outside id c.in_ok-ledger.ledger 0 c.args.passes)

pub close-ledger-requires-clause-all : goal.close-ledger-requires-clause-all
close-ledger-requires-clause-all g c =
    c.in-Ok.all.ok.0
    ∙ ap length c.in-Ok.ensures.passes
    ∙ length-new_passes c.in-Ok.turn.id c.in_ok-ledger.ledger 0 c.args.passes
    ∙ sym c.in-Ok.ensures.turn.1
