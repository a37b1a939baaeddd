-- What a scan of a slot leaves: a log of its records, or the journal that it could not read.
use Rattle.std.specs.Prelude.{◌≡◌, ◌≤◌, ℕ, false, List, None, Some, IfSome}
use Rattle.tsdb_base.specs.Causes.{Rose}
use Rattle.tsdb_outside.specs.Disk.{DiskState, in_slot, Keeps}
use Rattle.tsdb_outside.specs.Moments.{other}
use Rattle.tsdb_outside.specs.declared.disk.Disk as disk
use Rattle.tsdb_outside.specs.declared.disk.Slot.{Slot}
use Rattle.tsdb_outside.specs.declared.faults.Counted as counted
use Rattle.tsdb_frames.specs.declared.fault.ScanFault.{ScanFault}
use Rattle.tsdb_frames.specs.declared.fault.ScanFault.TheVariants.{Failed, Torn}
use Rattle.tsdb_frames.specs.declared.frames.Frames.{Frames}
use Rattle.tsdb_frames.specs.declared.record.Frame.{Frame}
use Rattle.tsdb_frames.specs.Frames.{disk_of, faults_of, slot_of, is_in_doubt, IsAside, IsLog}
use Rattle.tsdb_frames.specs.Log.{IsSettled}
use Rattle.tsdb_frames.specs.Slots.{payloads_of, ArePlaced, HasRecords, IsTorn}

module _ {J : Type 0} {means : disk.Ghosts J} {counts : counted.Ghosts J} where
  -- The slot has these records, and its journal is a log now. Nothing was written.
  pub record IsScanned (journal : J) (place : Slot) (now : Frames J means counts) (frames : List Frame) : Type 0 where
    pub records : IfSome (means.state journal).seen (λ image. HasRecords (payloads_of frames) (in_slot place image))
    pub places : ArePlaced frames
    -- a log of a settled slot has acknowledged these records
    pub log : IsSettled place (means.state journal) → IfSome (means.state journal).seen (λ image. IsLog now (payloads_of frames) None)
    pub no_doubt : is_in_doubt now ≡ false
    pub slot : slot_of now ≡ place
    -- the slot aside, where it is settled, has the records that a read gives, or is torn
    pub aside : IsSettled (other place) (means.state journal) → IfSome (means.state journal).seen (λ image. IsAside now None)
    pub aside_records : IsSettled (other place) (means.state journal) → IfSome (means.state journal).seen (λ image. (payloads : List (List ℕ))
        → HasRecords payloads (in_slot (other place) image) → IsAside now (Some payloads))
    pub keeps : Keeps (means.state journal) (disk_of now)
    pub later : counts.faults journal ≤ faults_of now

-- A scan is refused for this fault: the slot is torn at the place that is told, or could not be read. Nothing was written,
-- and the count of faults rose where the journal failed.
pub record IsScanRefused (place : Slot) (old new : DiskState) (before now : ℕ) (fault : ScanFault) : Type 0 where
  pub torn : IfSome old.seen (λ image. (at : ℕ) → fault ≡ Torn at → IsTorn at (in_slot place image))
  pub keeps : Keeps old new
  pub later : before ≤ now
  pub cause : fault ≡ Failed → Rose before now
