use Rattle.std.proofs.Common.{map, take}
use Rattle.std.specs.List.{AllZip}
use Rattle.tsdb_streams.specs.IndexedFiles.{source_of}
use Rattle.tsdb_streams.specs.Lanes.{OpensAs}
use Rattle.tsdb_streams.proofs.indexed_files.open_entries.Given as goal

abbrev pub invariant-loop-file : goal.invariant-loop-file
invariant-loop-file g l =
    AllZip (OpensAs g.R.ReadRight.file (l.device, l.measurement)) (map source_of (take l.file-index l.files)) l.lanes.items
