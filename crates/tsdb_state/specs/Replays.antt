-- Replay of records, one after another, over any step; and what a log stands for.
use Rattle.std.specs.Prelude.{◌≡◌, ◌⊎◌, List, [], ◌∷◌, ◌++◌, map, ℕ, Option, Some, None}
use Rattle.std.specs.List.{All}
use Rattle.tsdb_frames.specs.Slots.{HasRecords}
use Rattle.tsdb_log.specs.Spelling.{IsRecord, spelling}
use Rattle.tsdb_log.specs.declared.record.LogRecord.{LogRecord}

-- What records do: the state of a new store, and which state a record leads to from which.
pub record RecordSteps (S : Type 0) : Type 1 where
  pub new_store : S
  pub Leads : LogRecord → S → S → Type 0

-- a step by its form: where a record can follow, it leads to this state and no other
abbrev pub steps_by : {S : Type 0} → S → (LogRecord → S → Type 0) → (LogRecord → S → S) → RecordSteps S
steps_by new_store Can after =
    record { new_store = new_store; Leads = λ item old new. Can item old × (new ≡ after item old) }

-- a record leads from a state to one state at most
abbrev pub IsDeterminate : {S : Type 0} → RecordSteps S → Type 0
IsDeterminate {S} steps = (item : LogRecord) (old one other : S)
    → steps.Leads item old one → steps.Leads item old other → one ≡ other

-- the record has no replay in the state
abbrev pub HasNoReplay : {S : Type 0} → RecordSteps S → LogRecord → S → Type 0
HasNoReplay {S} steps item old = (new : S) → steps.Leads item old new → ⊥

-- the records, one after another, lead from the one state to the other
abbrev pub Replays : {S : Type 0} → RecordSteps S → S → List LogRecord → S → Type 0
Replays steps old [] new = new ≡ old
Replays {S} steps old (item ∷ items) new = (next : S) × steps.Leads item old next × Replays steps next items new

-- The log in these bytes of a slot is replayed to the state.
pub record IsReplayOf {S : Type 0} (steps : RecordSteps S) (bytes : List ℕ) (state : S) : Type 0 where
  pub items : List LogRecord
  pub good : All IsRecord items
  pub records : HasRecords (map spelling items) bytes
  pub replayed : Replays steps steps.new_store items state

-- the log in these bytes is replayed to the state, or to what the one record leads to that is in doubt
abbrev pub IsReplayOfOneOf : {S : Type 0} → RecordSteps S → Option LogRecord → List ℕ → S → Type 0
IsReplayOfOneOf steps None bytes state = IsReplayOf steps bytes state
IsReplayOfOneOf {S} steps (Some item) bytes state =
    IsReplayOf steps bytes state ⊎ ((next : S) × steps.Leads item state next × IsReplayOf steps bytes next)

-- the record can be written, and has a replay in the state
abbrev pub HasReplay : {S : Type 0} → RecordSteps S → S → LogRecord → Type 0
HasReplay {S} steps state item = IsRecord item × ((next : S) × steps.Leads item state next)
