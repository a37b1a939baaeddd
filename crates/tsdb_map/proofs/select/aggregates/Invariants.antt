use Rattle.std.proofs.Common.{◌≡◌, false, take}
use Rattle.tsdb_model.specs.Apply.{any_unfit, item_values}
use Rattle.tsdb_map.proofs.select.aggregates.Given as goal

abbrev pub invariant-loop-item : goal.invariant-loop-item
invariant-loop-item l =
    (any_unfit l.catalog l.device (take l.item-index l.items) ≡ false)
    × (l.values.items ≡ item_values l.catalog l.device (take l.item-index l.items) l.range)
