use Rattle.std.proofs.Common.{rules, map, subst}
use Rattle.std.specs.List.{AllZip}
use Rattle.std.proofs.lemmas.List.{take_all}
use Rattle.tsdb_streams.proofs.IndexedFacts.{zip_more}
use Rattle.tsdb_streams.specs.IndexedFiles.{source_of}
use Rattle.tsdb_streams.specs.Lanes.{OpensAs}
use Rattle.tsdb_streams.proofs.indexed_files.open_entries.Goals as goal

pub loop-file-preserved : goal.loop-file-preserved
loop-file-preserved g c =
    zip_more source_of (OpensAs g.R.ReadRight.file (c.args.device.now, c.args.measurement.now)) c.args.files.now c.loop-file.file-index c.file-item.result _ _ _
    c.loop-file-test.true c.file-item.is c.loop-file.invariant c.in_ok-open_entry.ensures (search rules)

pub returns : goal.returns
returns g c = subst (λ l. AllZip (OpensAs g.R.ReadRight.file (c.args.device.now, c.args.measurement.now)) (map source_of l) c.loop-file.lanes.items)
    (take_all c.loop-file.file-index c.args.files.now c.loop-file-test.false) c.loop-file.invariant
