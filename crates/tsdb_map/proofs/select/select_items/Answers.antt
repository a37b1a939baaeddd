use Rattle.std.proofs.Common.{◌≡◌, ap, sym, ◌∙◌, map, true}
use Rattle.tsdb_model.specs.Apply.{are_there, series_of}
use Rattle.tsdb_model.specs.Folds.{rows}
use Rattle.tsdb_model.specs.World.{points_of_series}
use Rattle.tsdb_map.proofs.PlainLemmas.{at_some}
use Rattle.tsdb_map.proofs.RowLemmas.{columns-are, columns_in, lines_reply}
use Rattle.tsdb_map.proofs.select.select_items.Goals as goal

pub returns : goal.returns
returns c =
    let world = c.args.catalog.now in
    let device = c.args.device.now in
    let items = c.args.items.now in
    let there : are_there world device (map (λ item. item.measurement) items) ≡ true =
    at_some (λ columns. are_there world device (map (λ item. item.measurement) items) ≡ true) _ c.in-Some.columns c.in_ok-columns.ensures.there c.in-Some.is in
    let columns : map (λ column. column.now.points) c.in-Some.columns.items ≡ map (λ item. points_of_series (series_of world device item.measurement)) items =
    at_some (λ columns. map (λ column. column.now.points) columns.items ≡ map (λ item. points_of_series (series_of world device item.measurement)) items) _ c.in-Some.columns
    c.in_ok-columns.ensures.columns c.in-Some.is in
    lines_reply world device items c.args.range.now c.of.result there (sym c.if-ask_aggregates.ensures)
    (c.of.ensures ∙ c.in_ok-lines.ensures
    ∙ ap rows (ap (columns_in c.args.range.now) c.as_slice.ensures.value ∙ columns-are world device items c.args.range.now c.in-Some.columns.items columns))
