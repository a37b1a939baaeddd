-- The engine state. What is in a file is told beside it, by the number of the file: files never change, and no number
-- is used again. So one state serves replay, which knows no points, real files, and files in memory.
use Rattle.std.specs.Prelude.{ℕ, Bool, List, Option}
use Rattle.tsdb_base.specs.declared.ids.Space.{Space}
use Rattle.tsdb_base.specs.declared.point.Range.{Range}
use Rattle.tsdb_state.specs.Layers.{Layer}
use Rattle.tsdb_state.specs.LayerOrder.{WatermarkMap}
use Rattle.tsdb_state.specs.Places.{Content}
use Rattle.tsdb_log.specs.declared.record.LogRecord.{LogRecord}
use Rattle.tsdb_model.specs.declared.command.Schema.{Schema}
use Rattle.tsdb_marks.specs.declared.marks.Mark.{Mark}
use Rattle.tsdb_plan.specs.declared.entry.Hull.{Hull}

-- a series that was created, and whether it is still there
pub record SeriesEntry : Type 0 where
  pub schema : Schema
  pub live : Bool

-- points in memory, in both spaces
pub record PairContent : Type 0 where
  pub sequence : Content
  pub unsequence : Content

-- a pair, and the stamp at its freeze
pub record FrozenContent : Type 0 where
  pub born : ℕ
  pub pair : PairContent

-- a file of a list: its number, and the stamp at the freeze of its points
pub record File : Type 0 where
  pub number : ℕ
  pub born : ℕ

-- what the file of each number has
abbrev pub ToldContents : Type 0
ToldContents = ℕ → Content

-- what records give: the series by their numbers, the number of commands that were accepted, the watermarks, the marks
-- by their versions, the frozen pairs from the oldest on, the pair that rows are put into, and the two lists of files
pub record StoreState : Type 0 where
  pub schemas : List SeriesEntry
  pub stamp : ℕ
  pub watermarks : WatermarkMap
  pub marks : List Mark
  pub frozen : List FrozenContent
  pub working : PairContent
  pub sequence : List File
  pub unsequence : List File

-- what is kept of a file in memory: its length, its number of points, a hull for each device, and its series
pub record KnownFile : Type 0 where
  pub size : ℕ
  pub points : ℕ
  pub hulls : List Hull
  pub series : List (List ℕ)

-- what is kept of the file of each number
abbrev pub KnownFiles : Type 0
KnownFiles = ℕ → KnownFile

-- a flush that is out: the frozen pair that it writes, and the numbers drawn for its files
pub record FlushState : Type 0 where
  pub born : ℕ
  pub pair : PairContent
  pub sequence : Option ℕ
  pub unsequence : Option ℕ

-- a compaction that is out: the space of its output, the place where a sequence output will stand, the stamp at its
-- beginning, its inputs of each list, the marks at its beginning, and the number drawn for its output. A cross job has
-- late inputs, and its output is sequence.
pub record Compaction : Type 0 where
  pub space : Space
  pub place : ℕ
  pub born : ℕ
  pub sequence : List File
  pub unsequence : List File
  pub marks : List Mark
  pub output : ℕ

-- what a pin reads: a listed file, or a copy of points in memory
pub data SourceState : Type 0 where
  FromFile : File → SourceState
  FromPart : Layer → SourceState

-- a series of a pin, with its sources in the order of their priority
pub record ColumnState : Type 0 where
  pub path : List ℕ
  pub sources : List SourceState

-- a pin that is out: its stamp, its range, the marks of its series, and its columns
pub record PinState : Type 0 where
  pub stamp : ℕ
  pub range : Range
  pub marks : List Mark
  pub columns : List ColumnState

-- the room kept for the ends of jobs: places in the two lists and among the files on their way out, and the bytes of
-- the longest record
pub record Room : Type 0 where
  pub sequence : ℕ
  pub unsequence : ℕ
  pub outgoing : ℕ
  pub record_bytes : ℕ

-- the store; the files on their way out; the number that the next file gets; the jobs and pins that are out; how many
-- rights are out on the file of each number; the room kept; and the record whose gate is in doubt, if one is
pub record EngineState : Type 0 where
  pub store : StoreState
  pub outgoing : List File
  pub next_file : ℕ
  pub flushes : List FlushState
  pub compactions : List Compaction
  pub pins : List PinState
  pub rights : ℕ → ℕ
  pub room : Room
  pub doubt : Option LogRecord
