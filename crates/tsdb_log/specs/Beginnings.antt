-- When a slot of the log can begin with a snapshot. This is said of the record alone: that a snapshot is the first
-- record of its slot, and no other one is, is a matter of replay.
use Rattle.std.specs.Prelude.{◌≡◌, ◌≢◌, ◌⊎◌, ◌<ℤ◌, ℕ, ℤ, ◌<◌, ◌≤◌, ◌^◌, true, List, ◌++◌, length, sum_by}
use Rattle.std.specs.Prelude.{All, AllPairs, IsSomeAnd, slice_get}
use Rattle.std.specs.Cmp.Lexicographic.{slice_cmp}
use Rattle.std.specs.declared.cmp.Ordering.TheVariants.{Less}
use Rattle.std.specs.Ordering.{nat_cmp}
use Rattle.tsdb_base.specs.Limits.{max_pair_points}
use Rattle.tsdb_base.specs.Values.{is_suitable, type_of}
use Rattle.tsdb_path.specs.Nodes.{device_of, node_count}
use Rattle.tsdb_log.specs.declared.snapshot.FileRecord.{FileRecord}
use Rattle.tsdb_log.specs.declared.snapshot.PairRecord.{PairRecord}
use Rattle.tsdb_log.specs.declared.snapshot.SchemaRecord.{SchemaRecord}
use Rattle.tsdb_log.specs.declared.snapshot.Snapshot.{Snapshot}
use Rattle.tsdb_log.specs.declared.snapshot.TableRecord.{TableRecord}

-- a series has a path of at least 3 nodes, and an encoding that suits its type
pub record IsFormedSchema (schema : SchemaRecord) : Type 0 where
  pub nodes : 3 ≤ node_count schema.path
  pub suits : is_suitable schema.data_type schema.encoding ≡ true

-- a series that is known has at least one point, in order of time and of its type
pub record IsFormedTable (schemas : List SchemaRecord) (table : TableRecord) : Type 0 where
  pub some : 1 ≤ length table.points
  pub rise : AllPairs (λ point later. point.time <ℤ later.time) table.points
  pub typed : IsSomeAnd (slice_get schemas table.series.0)
      (λ schema. All (λ point. type_of point.value ≡ schema.data_type) table.points)

-- a part of a pair: its series in order of their numbers
pub record IsFormedPart (schemas : List SchemaRecord) (tables : List TableRecord) : Type 0 where
  pub rise : AllPairs (λ table later. table.series.0 < later.series.0) tables
  pub each : All (IsFormedTable schemas) tables

-- a frozen pair has a point, and a born of at most the stamp
pub record IsFormedPair (snapshot : Snapshot) (pair : PairRecord) : Type 0 where
  pub born : pair.born.0 ≤ snapshot.stamp.0
  pub some : 1 ≤ length (pair.sequence ++ pair.unsequence)
  pub sequence : IsFormedPart snapshot.schemas pair.sequence
  pub unsequence : IsFormedPart snapshot.schemas pair.unsequence

-- how many points tables have
abbrev pub table_point_count : List TableRecord → ℕ
table_point_count tables = sum_by (λ table. length table.points) tables

-- all points are of one device and at one time
pub record AreOneRow (schemas : List SchemaRecord) (tables : List TableRecord) : Type 0 where
  pub device : List ℕ
  pub time : ℤ
  pub of_device : All (λ table. IsSomeAnd (slice_get schemas table.series.0)
      (λ schema. device_of schema.path ≡ device)) tables
  pub at_time : All (λ table. All (λ point. point.time ≡ time) table.points) tables

-- the numbers: of the snapshots, of the last command, and of the next file
pub record HasNumbersInRange (snapshot : Snapshot) : Type 0 where
  pub generation : (1 ≤ snapshot.generation) × (snapshot.generation ≤ 2 ^ 62)
  pub stamp : snapshot.stamp.0 ≤ 2 ^ 63
  pub next_file : (1 ≤ snapshot.next_file) × (snapshot.next_file ≤ 2 ^ 63)

-- series have different paths
pub record HasFormedSchemas (snapshot : Snapshot) : Type 0 where
  pub each : All IsFormedSchema snapshot.schemas
  pub differ : AllPairs (λ schema other. schema.path ≢ other.path) snapshot.schemas

-- watermarks rise by the bytes of their devices, and marks by their versions, which are at most the stamp
pub record HasOrderedMarks (snapshot : Snapshot) : Type 0 where
  pub watermarks : AllPairs (λ mark later. slice_cmp nat_cmp mark.device later.device ≡ Less) snapshot.watermarks
  pub versions : AllPairs (λ mark later. mark.version.0 < later.version.0) snapshot.marks
  pub reached : All (λ mark. mark.version.0 ≤ snapshot.stamp.0) snapshot.marks

-- the files of both lists
abbrev pub snapshot_files : Snapshot → List FileRecord
snapshot_files snapshot = snapshot.sequence ++ snapshot.unsequence

-- files have different numbers, below that of the next one, and borns of at most the stamp
pub record HasFormedFiles (snapshot : Snapshot) : Type 0 where
  pub differ : AllPairs (λ file other. file.number.0 ≢ other.number.0) (snapshot_files snapshot)
  pub numbers : All (λ file. (1 ≤ file.number.0) × (file.number.0 < snapshot.next_file)) (snapshot_files snapshot)
  pub reached : All (λ file. file.born.0 ≤ snapshot.stamp.0) (snapshot_files snapshot)

-- at most two frozen pairs, the oldest first
pub record HasFormedFrozen (snapshot : Snapshot) : Type 0 where
  pub few : length snapshot.frozen ≤ 2
  pub rise : AllPairs (λ pair later. pair.born.0 < later.born.0) snapshot.frozen
  pub each : All (IsFormedPair snapshot) snapshot.frozen

-- the working pair is within the limit, or has one row
pub record HasFormedWorking (snapshot : Snapshot) : Type 0 where
  pub sequence : IsFormedPart snapshot.schemas snapshot.working_sequence
  pub unsequence : IsFormedPart snapshot.schemas snapshot.working_unsequence
  pub limit : (table_point_count (snapshot.working_sequence ++ snapshot.working_unsequence) ≤ max_pair_points)
      ⊎ AreOneRow snapshot.schemas (snapshot.working_sequence ++ snapshot.working_unsequence)

-- a slot can begin with the snapshot
pub record CanBegin (snapshot : Snapshot) : Type 0 where
  pub numbers : HasNumbersInRange snapshot
  pub schemas : HasFormedSchemas snapshot
  pub marks : HasOrderedMarks snapshot
  pub files : HasFormedFiles snapshot
  pub frozen : HasFormedFrozen snapshot
  pub working : HasFormedWorking snapshot
