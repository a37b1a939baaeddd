use Rattle.std.proofs.Common.{◌≡◌, map, take}
use Rattle.tsdb_pages.specs.ListSteps.{truth_of}
use Rattle.tsdb_pages.proofs.encoder.truths_of.Given as goal

abbrev pub invariant-loop-item : goal.invariant-loop-item
invariant-loop-item g l = l.truths.items ≡ map (λ item. truth_of (g.T.HasValue.value_of item)) (take l.item-index l.items)
