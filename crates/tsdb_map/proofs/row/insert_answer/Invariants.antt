use Rattle.std.proofs.Common.{◌≡◌, true, is_some, take}
use Rattle.std.specs.List.{list_all}
use Rattle.tsdb_model.specs.Apply.{all_fit, series_of}
use Rattle.tsdb_map.proofs.row.insert_answer.Given as goal

abbrev pub invariant-loop-cell : goal.invariant-loop-cell
invariant-loop-cell l =
    (list_all (λ cell. is_some (series_of l.catalog l.device cell.measurement)) (take l.cell-index l.cells) ≡ true)
    × (l.fit ≡ all_fit l.catalog l.device (take l.cell-index l.cells))
