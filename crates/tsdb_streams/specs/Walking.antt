-- Private steps: what a call that takes points of several sources leaves of them.
use Rattle.std.specs.Prelude.{◌≡◌, ℕ, ◌≤◌, List, All, Option, Result, map, sum_by}
use Rattle.tsdb_base.specs.declared.point.Point.{Point}
use Rattle.tsdb_base.specs.declared.point.Range.{Range}
use Rattle.tsdb_streams.specs.Files.{FilePages, HasReason}
use Rattle.tsdb_streams.specs.Lanes.{IsLaneOfStore, IsToldLane, IsTrueLane, keep_of, lane_due, lane_points_left}
use Rattle.tsdb_streams.specs.Lanes.{lane_points_most}
use Rattle.tsdb_streams.specs.declared.survival.Kept.{Kept}
use Rattle.tsdb_streams.specs.declared.lane.Lane.{Lane}
use Rattle.tsdb_outside.specs.Files.{NamedFile, Store}
use Rattle.tsdb_outside.specs.declared.faults.StoreFault.{StoreFault}

-- the most points that the sources still have
abbrev pub lanes_most : {R : Type 0} → List (Lane R) → ℕ
lanes_most lanes = sum_by lane_points_most lanes

module _ {R : Type 0} (file : R → NamedFile) where
  -- what is left of each source, where it is told
  abbrev pub lanes_left : FilePages → Kept → List (Lane R) → List (Option (List Point))
  lanes_left pages kept lanes = map (lane_points_left file pages (keep_of kept)) lanes

  -- the files are of the store
  abbrev pub AreLanesOfStore : Store → List (Lane R) → Type 0
  AreLanesOfStore store lanes = All (IsLaneOfStore file store) lanes

  -- what is told of the files is so
  abbrev pub AreTrueLanes : FilePages → List (Lane R) → Type 0
  AreTrueLanes pages lanes = All (IsTrueLane file pages) lanes

  -- the pages of each file are told that tells its bytes
  abbrev pub AreToldLanes : FilePages → List (Lane R) → Type 0
  AreToldLanes pages lanes = All (IsToldLane file pages) lanes

  -- after a call the files are still of the store, and what was told of them is so and is told on; it stayed in the
  -- store, and where all is told truly it failed only if the count of faults has risen; as many pages are due
  pub record LeavesLanes {T : Type 0} (store store_now : Store) (faults faults_now : ℕ)
      (lanes lanes_now : List (Lane R))
      (result : Result T StoreFault) : Type 0 where
    pub of : AreLanesOfStore store_now lanes_now
    pub truth : (pages : FilePages) → AreTrueLanes pages lanes → AreTrueLanes pages lanes_now
    pub told : (pages : FilePages) → AreToldLanes pages lanes → AreToldLanes pages lanes_now
    pub reason : (pages : FilePages) → AreTrueLanes pages lanes
        → HasReason (AreToldLanes pages lanes) faults faults_now result
    pub later : faults ≤ faults_now
    pub same_store : store_now ≡ store
    pub due : (range : Range) → sum_by (lane_due range) lanes_now ≡ sum_by (lane_due range) lanes
