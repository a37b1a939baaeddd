use Rattle.std.proofs.Common.{◌≡◌, map, take}
use Rattle.tsdb_pages.specs.ListSpelling.{integer_of}
use Rattle.tsdb_pages.proofs.encoder.integers_of.Given as goal

abbrev pub invariant-loop-item : goal.invariant-loop-item
invariant-loop-item g l = l.integers.items ≡ map (λ item. integer_of (g.T.HasValue.value_of item)) (take l.item-index l.items)
