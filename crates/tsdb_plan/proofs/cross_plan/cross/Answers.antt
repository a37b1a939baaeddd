use Rattle.std.proofs.Common.{◌≡◌, ◌+◌, ◌≤◌, false, take, rules, arith}
use Rattle.std.proofs.lemmas.List.{take_rest}
use Rattle.std.proofs.lemmas.List.Elements.{All-more}
use Rattle.std.proofs.lemmas.Bool.{iff_false}
use Rattle.tsdb_plan.specs.Files.{total_bytes}
use Rattle.tsdb_base.specs.Limits.{max_plan_bytes}
use Rattle.tsdb_plan.proofs.CrossSteps.{first_more, past_more, best_more, best_is_plan, ends_at_claimed, ends_at_bytes}
use Rattle.tsdb_plan.proofs.Rows.{bytes_more}
use Rattle.tsdb_plan.proofs.Shorter.{ends_at_span}
use Rattle.tsdb_plan.proofs.cross_plan.cross.Goals as goal

pub loop-place-preserved : goal.loop-place-preserved
loop-place-preserved c =
    let unsequence = c.args.unsequence.now in
    let sequence = c.args.sequence.now in
    let place = c.loop-place.place in
    let file = c.index-unsequence-place.result in
    let inv = c.loop-place.invariant in
    let is = c.index-unsequence-place.is in
    let free = All-more (λ f. f.claimed ≡ false) unsequence place file (omega arith) inv.free (search rules) in
    let room : c.in-Some.left + total_bytes (take (place + 1) unsequence) ≡ max_plan_bytes = omega (arith, bytes_more unsequence place file (omega arith) is) in
    let first = first_more sequence unsequence _ place c.loop-place.first c.first_reaching-first.result file c.items.result.now (omega arith) is (search rules) (search rules) inv.first c.first_reaching-first.ensures in
    let past = past_more sequence unsequence _ place c.loop-place.past c.past_reached-past.result file c.items-in-loop-place.result.now (omega arith) is (search rules) (take_rest sequence c.loop-place.past) inv.past c.past_reached-past.ensures in
    record {
      free = free;
      room = room;
      first = first;
      past = past;
      plan = best_more sequence unsequence place c.first_reaching-first.result (c.loop-place.past + c.past_reached-past.result) c.max-end.result c.in-Some.left (omega arith) free room first past c.max-end.ensures (c.fits.ensures.0 (search rules));
    }

pub returns-then-file : goal.returns-then-file
returns-then-file c =
    let best = best_is_plan c.args.sequence.now c.args.unsequence.now c.loop-place.place c.loop-place.plan c.loop-place.invariant.plan (ends_at_claimed c.args.sequence.now c.args.unsequence.now c.loop-place.place c.index-unsequence-place.result (omega arith) c.index-unsequence-place.is c.if-file.true) in
    record { found = best.0; none = best.1 }

pub returns-in_default : goal.returns-in_default
returns-in_default c =
    let full : c.index-unsequence-place.result.size ≤ c.loop-place.room → ⊥ = c.in_default.ensures in
    let best = best_is_plan c.args.sequence.now c.args.unsequence.now c.loop-place.place c.loop-place.plan c.loop-place.invariant.plan (ends_at_bytes c.args.sequence.now c.args.unsequence.now c.loop-place.place c.loop-place.room c.index-unsequence-place.result (omega arith) c.index-unsequence-place.is c.loop-place.invariant.room (omega arith)) in
    record { found = best.0; none = best.1 }

pub returns-then-not-fits : goal.returns-then-not-fits
returns-then-not-fits c =
    let unsequence = c.args.unsequence.now in
    let sequence = c.args.sequence.now in
    let place = c.loop-place.place in
    let file = c.index-unsequence-place.result in
    let inv = c.loop-place.invariant in
    let is = c.index-unsequence-place.is in
    let room : c.in-Some.left + total_bytes (take (place + 1) unsequence) ≡ max_plan_bytes = omega (arith, bytes_more unsequence place file (omega arith) is) in
    let first = first_more sequence unsequence _ place c.loop-place.first c.first_reaching-first.result file c.items.result.now (omega arith) is (search rules) (search rules) inv.first c.first_reaching-first.ensures in
    let past = past_more sequence unsequence _ place c.loop-place.past c.past_reached-past.result file c.items-in-loop-place.result.now (omega arith) is (search rules) (take_rest sequence c.loop-place.past) inv.past c.past_reached-past.ensures in
    let best = best_is_plan sequence unsequence place c.loop-place.plan inv.plan (ends_at_span sequence unsequence file place c.first_reaching-first.result (c.loop-place.past + c.past_reached-past.result) c.max-end.result c.in-Some.left room first past c.max-end.ensures (iff_false c.fits.ensures (search rules))) in
    record { found = best.0; none = best.1 }
