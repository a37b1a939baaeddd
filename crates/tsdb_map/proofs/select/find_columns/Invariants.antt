use Rattle.std.proofs.Common.{◌≡◌, true, is_some, map, take}
use Rattle.std.specs.List.{list_all}
use Rattle.tsdb_model.specs.Apply.{series_of}
use Rattle.tsdb_model.specs.World.{points_of_series}
use Rattle.tsdb_map.proofs.select.find_columns.Given as goal

abbrev pub invariant-loop-item : goal.invariant-loop-item
invariant-loop-item l =
    (list_all (λ item. is_some (series_of l.catalog l.device item.measurement)) (take l.item-index l.items) ≡ true)
    × (map (λ column. column.now.points) l.columns.items ≡ map (λ item. points_of_series (series_of l.catalog l.device item.measurement)) (take l.item-index l.items))
