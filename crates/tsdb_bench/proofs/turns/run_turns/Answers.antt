use Rattle.std.proofs.Common.{length, All, ap, sym, subst, ◌∙◌}
use Rattle.tsdb_turn.specs.Passes.{IsOutside}
use Rattle.tsdb_turn.proofs.Passes.{length-new_passes, new_passes-outside}
use Rattle.tsdb_bench.proofs.turns.run_turns.Goals as goal

pub take_turns_in_threads-requires-clause-outside : goal.take_turns_in_threads-requires-clause-outside
take_turns_in_threads-requires-clause-outside g c κs within =
    let id = c.in-Ok.turn.id in
    let all = c.as_mut_slice.ensures.value ∙ c.in-Ok.ensures.passes in
    subst (λ passes. All (IsOutside id) passes) (sym all) (new_passes-outside id _ 0 c.args.passes)

pub close-count-requires-clause-all : goal.close-count-requires-clause-all
close-count-requires-clause-all g c =
    c.in-Ok.all.ok.0
    ∙ ap length c.in-Ok.ensures.passes
    ∙ length-new_passes c.in-Ok.turn.id _ 0 c.args.passes
    ∙ sym c.in-Ok.ensures.turn.1
