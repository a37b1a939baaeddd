-- Where a log is damaged: the first record that is torn, cannot be read, or has no replay.
use Rattle.std.specs.Prelude.{◌≡◌, ◌⊎◌, ℕ, List, [], ◌∷◌, ◌++◌, length, map}
use Rattle.std.specs.List.{All}
use Rattle.tsdb_frames.specs.Slots.{BeginsWithPayload, IsPayload, open_records}
use Rattle.tsdb_log.specs.Spelling.{IsRecord, spelling}
use Rattle.tsdb_log.specs.declared.record.LogRecord.{LogRecord}
use Rattle.tsdb_state.specs.Replays.{HasNoReplay, Replays, RecordSteps}

-- no whole record stands behind an open gate
pub record IsTornRest (rest : List ℕ) : Type 0 where
  pub behind : List ℕ
  pub gate : rest ≡ 1 ∷ behind
  pub broken : (payload after : List ℕ) → ¬ BeginsWithPayload behind payload after

-- behind an open gate stands a whole record that cannot be read, or has no replay in this state
pub record IsUnreplayable {S : Type 0} (steps : RecordSteps S) (state : S) (rest : List ℕ) : Type 0 where
  pub behind : List ℕ
  pub payload : List ℕ
  pub after : List ℕ
  pub gate : rest ≡ 1 ∷ behind
  pub whole : BeginsWithPayload behind payload after
  pub none : (item : LogRecord) → IsRecord item → payload ≡ spelling item → HasNoReplay steps item state

-- The log is damaged at the gate of the first record that is torn, cannot be read, or has no replay.
pub record IsDamagedAtGate {S : Type 0} (steps : RecordSteps S) (at : ℕ) (bytes : List ℕ) : Type 0 where
  pub items : List LogRecord
  pub state : S
  pub rest : List ℕ
  pub good : All IsRecord items
  pub fit : All IsPayload (map spelling items)
  pub replayed : Replays steps steps.new_store items state
  pub split : bytes ≡ open_records (map spelling items) ++ rest
  pub place : at ≡ length (open_records (map spelling items))
  pub broken : IsTornRest rest ⊎ IsUnreplayable steps state rest

-- a log is damaged at a gate, or at 0 where the slot is empty
abbrev pub IsDamaged : {S : Type 0} → RecordSteps S → ℕ → List ℕ → Type 0
IsDamaged steps at bytes = IsDamagedAtGate steps at bytes ⊎ ((at ≡ 0) × (bytes ≡ []))
