-- What an append of a record leaves of a log, at its end and at each moment of it.
use Rattle.std.specs.Prelude.{◌⊎◌, List, [], ◌∷◌, ◌++◌, ℕ, Option, None, Some, Result, OnOk, OnErr}
use Rattle.tsdb_outside.specs.Causes.{HasCause}
use Rattle.tsdb_outside.specs.Disk.{in_slot}
use Rattle.tsdb_outside.specs.declared.disk.Disk as disk
use Rattle.tsdb_outside.specs.declared.faults.Counted as counted
use Rattle.tsdb_outside.specs.declared.faults.Failed.{Failed}
use Rattle.tsdb_frames.specs.Calls.{KeepsToSlot}
use Rattle.tsdb_frames.specs.Frames.{disk_of, faults_of, slot_of, IsLog}
use Rattle.tsdb_frames.specs.Log.{HasRecordsOrOneMore}
use Rattle.tsdb_outside.specs.Moments.{LeavesFirstThen}
use Rattle.tsdb_frames.specs.declared.frames.Frames.{Frames}

module _ {J : Type 0} {means : disk.Ghosts J} {counts : counted.Ghosts J} where
  -- What an append of a record leaves of a log: the log with the record, or the log with a record in doubt.
  pub record IsAppend (old new : Frames J means counts) (payload : List ℕ)
      (outcome : Result (Unit {0}) Failed) : Type 0 where
    pub added : OnOk outcome ((acknowledged : List (List ℕ)) (in_doubt : Option (List ℕ))
        → IsLog old acknowledged in_doubt
        → IsLog new (acknowledged ++ payload ∷ []) None)
    pub failed : OnErr outcome ((acknowledged : List (List ℕ)) (in_doubt : Option (List ℕ))
        → IsLog old acknowledged in_doubt
        → IsLog new acknowledged None ⊎ (IsLog new acknowledged in_doubt ⊎ IsLog new acknowledged (Some payload)))
    pub moments : (acknowledged : List (List ℕ)) (in_doubt : Option (List ℕ)) → IsLog old acknowledged in_doubt
        → LeavesFirstThen (disk_of old) (disk_of new)
        (λ image. HasRecordsOrOneMore acknowledged in_doubt (in_slot (slot_of old) image))
        (λ image. HasRecordsOrOneMore acknowledged (Some payload) (in_slot (slot_of old) image))
    pub slot : KeepsToSlot old new
    pub cause : HasCause (faults_of old) (faults_of new) outcome
