use Rattle.std.proofs.Common.{sym, ◌∙◌}
use Rattle.tsdb_memory.proofs.Numbers.{none_first, some_first}
use Rattle.tsdb_memory.specs.declared.reading.NumberedSeries.{NumberedSeries}
use Rattle.tsdb_path.specs.Nodes.{child_of}
use Rattle.tsdb_memory.proofs.RowLemmas.RowParts.{item_of, not_found_at, unfit}
use Rattle.tsdb_memory.proofs.RowLemmas.Types.{no_path}
use Rattle.tsdb_memory.proofs.cells.cell_of.Goals as goal

pub returns-in_default : goal.returns-in_default
returns-in_default c =
    no_path c.args.memory.now.series (child_of c.args.device.now c.args.cell.now.measurement) c.requires.formed
    (λ path. c.in_default.not-Memory (c.in-Err.ensures.good path))

pub returns-in_default-series : goal.returns-in_default-series
returns-in_default-series c =
    not_found_at c.args.memory.now.series c.args.device.now c.in-Ok.path c.args.cell.now c.in-Ok.ensures.ok
    (sym (none_first (λ (series : NumberedSeries). series.id.0) c.series.result _ c.series.ensures.number
    c.in_default-series.is))

pub returns-in-Some-2 : goal.returns-in-Some-2
returns-in-Some-2 c =
    let found = c.in-Some.series in
    item_of c.args.memory.now.series c.args.device.now c.in-Ok.path c.args.cell.now found.id.0 found.data_type
    found.encoding c.in-Some-2.value c.in-Ok.ensures.ok c.sound.ensures
    (sym (some_first (λ (series : NumberedSeries). series.id.0) c.series.result found _ c.series.ensures.number
    c.in-Some.is))
    c.in-Some.ensures.schema (sym c.in_ok-value.ensures ∙ c.in-Some-2.is)

pub returns : goal.returns
returns c =
    let found = c.in-Some.series in
    unfit c.args.memory.now.series c.args.device.now c.in-Ok.path c.args.cell.now found.id.0 found.data_type
    found.encoding c.in-Ok.ensures.ok
    (sym (some_first (λ (series : NumberedSeries). series.id.0) c.series.result found _ c.series.ensures.number
    c.in-Some.is))
    c.in-Some.ensures.schema (sym c.in_ok-value.ensures ∙ c.in-None.is)
