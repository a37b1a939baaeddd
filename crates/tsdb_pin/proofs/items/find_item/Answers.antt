use Rattle.std.proofs.Common.{refl, sym}
use Rattle.tsdb_fileset.proofs.MemoryNumbers.{none_first}
use Rattle.tsdb_fileset.specs.NumberedSeries.{NumberedSeries}
use Rattle.tsdb_path.specs.Nodes.{child_of}
use Rattle.tsdb_pin.proofs.Asked.{missing_item, unnumbered}
use Rattle.tsdb_fileset.proofs.RowLemmas.Types.{no_path}
use Rattle.tsdb_pin.proofs.items.find_item.Goals as goal

pub returns-in_default : goal.returns-in_default
returns-in_default c = missing_item c.args.memory.now.series c.args.device.now
    (child_of c.args.device.now c.args.item.now.measurement) c.args.item.now refl
    (no_path c.args.memory.now.series (child_of c.args.device.now c.args.item.now.measurement) c.requires.formed
    (λ path. c.in_default.not-Memory (c.in-Err.ensures.good path)))

pub returns-in_default-series : goal.returns-in_default-series
returns-in_default-series c = missing_item c.args.memory.now.series c.args.device.now c.in-Ok.path c.args.item.now
    c.in-Ok.ensures.ok (unnumbered c.args.memory.now.series c.in-Ok.path
    (sym (none_first (λ (series : NumberedSeries). series.id.0) c.series.result _ c.series.ensures.number
    c.in_default-series.is)))
