use Rattle.std.proofs.lemmas.Grind.{common_steps}
use Rattle.std.proofs.Common.{◌≡◌, ◌∙◌, ap, drop, arith}
use Rattle.tsdb_aggregate.proofs.RowLemmas.{one_row}
use Rattle.tsdb_aggregate.proofs.group.lanes_of.Goals as goal

pub loop-start-preserved : goal.loop-start-preserved
loop-start-preserved c =
    let rest : c.split_at.result.1.now ≡ drop c.loop-start.start c.in_ok-entries.entries.items = c.split_at.ensures.back ∙ ap (λ es. drop c.loop-start.start es) c.deref.ensures.value in
    rw c.in_ok-push.ensures.items (one_row c.in_ok-entries.entries.items _ _ c.loop-start.start c.lane_length.result c.loop-start.lanes.items c.in_ok-lane_of.field-0 rest c.split_at-in-loop-start.ensures.front
    c.split_at-in-loop-start.ensures.front_len c.lane_length.ensures.within c.lane_length.ensures.row c.in_ok-lane_of.ensures c.loop-start.invariant)

pub returns : goal.returns
returns c = grind (arith, common_steps)
