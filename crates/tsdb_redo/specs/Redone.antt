-- What the replay of a record leaves.
use Rattle.std.specs.Prelude.{◌≡◌, Result, Ok, Err}
use Rattle.tsdb_log.specs.declared.record.LogRecord.{LogRecord}
use Rattle.tsdb_redo.specs.Opening.{IsOpeningOf}
use Rattle.tsdb_redo.specs.declared.fault.RedoFault.{RedoFault}
use Rattle.tsdb_redo.specs.declared.fault.RedoFault.TheVariants.{NoReplay, Memory}
use Rattle.tsdb_redo.specs.declared.opening.Opening.{Opening}
use Rattle.tsdb_state.specs.Replays.{HasNoReplay}
use Rattle.tsdb_state.specs.Stores.{Recorded, store_steps}

-- the record leads from each state that was shown to one that is shown now
abbrev pub IsReplayed : Opening → Opening → LogRecord → Type 0
IsReplayed old new item = (recorded : Recorded) → IsOpeningOf old recorded
    → (next : Recorded) × store_steps.Leads item recorded next × IsOpeningOf new next

-- the states that were shown are shown still
abbrev pub ShowsTheSame : Opening → Opening → Type 0
ShowsTheSame old new = (recorded : Recorded) → IsOpeningOf old recorded → IsOpeningOf new recorded

-- the record has no replay in a state that is shown
abbrev pub IsWithoutReplay : Opening → LogRecord → Type 0
IsWithoutReplay opening item = (recorded : Recorded) → IsOpeningOf opening recorded
    → HasNoReplay store_steps item recorded

-- the record was replayed, or has no replay and nothing has changed, or memory ran out and the same state is shown
abbrev pub IsRedone : Opening → Opening → LogRecord → Result Unit RedoFault → Type 0
IsRedone old new item (Ok done) = IsReplayed old new item
IsRedone old new item (Err NoReplay) = IsWithoutReplay old item × (new ≡ old)
IsRedone old new item (Err Memory) = ShowsTheSame old new
