-- What a stream has left, and what it keeps.
use Rattle.std.specs.Prelude.{ℕ, List, All, Option, map, sum_by}
use Rattle.tsdb_base.specs.declared.point.Point.{Point}
use Rattle.tsdb_streams.specs.Files.{FilePages}
use Rattle.tsdb_streams.specs.Lanes.{IsLaneOfStore, IsToldLane, IsToldSource, IsTrueLane, IsTrueSource, keep_of}
use Rattle.tsdb_streams.specs.Lanes.{lane_due, lane_points_left}
use Rattle.tsdb_streams.specs.declared.source.StreamSource.{StreamSource}
use Rattle.tsdb_streams.specs.declared.stream.Stream.{Stream}
use Rattle.tsdb_merge.specs.Steps.{root_held, root_left}
use Rattle.tsdb_outside.specs.Files.{NamedFile, Store}
use Rattle.tsdb_path.specs.Nodes.{device_of, measurement_of}

-- how many points a stream holds
abbrev pub stream_held : {R : Type 0} → Stream R → ℕ
stream_held stream = root_held stream.root

-- how many pages of a stream are due, whether they were read or not
abbrev pub stream_due : {R : Type 0} → Stream R → ℕ
stream_due stream = sum_by (lane_due stream.kept.range) stream.lanes.items

module _ {R : Type 0} (file : R → NamedFile) where
  -- the points that a stream has left, where all of its sources tell theirs
  abbrev pub stream_left : FilePages → Stream R → Option (List Point)
  stream_left pages stream =
      root_left stream.root (map (lane_points_left file pages (keep_of stream.kept)) stream.lanes.items)

  -- what is told of the files of these sources is so for the series
  abbrev pub AreTrueSources : List ℕ → FilePages → List (StreamSource R) → Type 0
  AreTrueSources series pages sources = All (IsTrueSource file (device_of series, measurement_of series) pages) sources

  -- the pages of each file of these sources are told that tells its bytes
  abbrev pub AreToldSources : FilePages → List (StreamSource R) → Type 0
  AreToldSources pages sources = All (IsToldSource file pages) sources

  -- the stream reads files of the store
  abbrev pub IsStreamOfStore : Store → Stream R → Type 0
  IsStreamOfStore store stream = All (IsLaneOfStore file store) stream.lanes.items

  -- what is told of the stream's files is so
  abbrev pub IsTrueStream : FilePages → Stream R → Type 0
  IsTrueStream pages stream = All (IsTrueLane file pages) stream.lanes.items

  -- the pages of each of its files are told that tells its bytes
  abbrev pub IsToldStream : FilePages → Stream R → Type 0
  IsToldStream pages stream = All (IsToldLane file pages) stream.lanes.items
