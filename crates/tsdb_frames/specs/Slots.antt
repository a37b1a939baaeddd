-- What a slot of the log holds: records behind open gates, up to the first closed gate.
use Rattle.std.specs.Prelude.{◌≡◌, ◌≢◌, ◌⊎◌, ℕ, ◌≤◌, ◌<◌, ◌^◌, List, [], ◌∷◌, ◌++◌, length, map}
use Rattle.std.specs.List.{All, flat_map}
use Rattle.tsdb_base.specs.Fields.{number32}
use Rattle.tsdb_frames.specs.declared.record.Frame.{Frame}

-- a record: its length is not 0, and fits four bytes
abbrev pub IsPayload : List ℕ → Type 0
IsPayload payload = (1 ≤ length payload) × (length payload < 2 ^ 32)

-- a record behind its length
abbrev pub with_length : List ℕ → List ℕ
with_length payload = number32 (length payload) ++ payload

-- what is written behind a closed gate: a record with its length, and the next gate, which is closed
abbrev pub frame_bytes : List ℕ → List ℕ
frame_bytes payload = with_length payload ++ (0 ∷ [])

-- records behind open gates, one behind another
abbrev pub open_records : List (List ℕ) → List ℕ
open_records payloads = flat_map (λ payload. 1 ∷ with_length payload) payloads

-- The records of a slot are these: they stand behind open gates, then comes a closed gate, and then anything.
pub record HasRecords (payloads : List (List ℕ)) (bytes : List ℕ) : Type 0 where
  pub fit : All IsPayload payloads
  pub gate : ℕ
  pub rest : List ℕ
  pub split : bytes ≡ open_records payloads ++ (gate ∷ rest)
  pub closed : gate ≢ 1

-- The slot begins with these records behind open gates, and goes on with a gate.
pub record HasRecordsThenGate (payloads : List (List ℕ)) (bytes : List ℕ) : Type 0 where
  pub fit : All IsPayload payloads
  pub rest : List ℕ
  pub split : bytes ≡ open_records payloads ++ rest
  pub gate : 1 ≤ length rest

-- The bytes behind an open gate begin with this record, and go on with the next gate.
pub record BeginsWithPayload (bytes payload after : List ℕ) : Type 0 where
  pub fits : IsPayload payload
  pub split : bytes ≡ with_length payload ++ after
  pub gate : 1 ≤ length after

-- A slot is torn at the place of an open gate, where no record with a next gate stands behind it.
pub record IsTornAtGate (at : ℕ) (bytes : List ℕ) : Type 0 where
  pub payloads : List (List ℕ)
  pub fit : All IsPayload payloads
  pub behind : List ℕ
  pub split : bytes ≡ open_records payloads ++ (1 ∷ behind)
  pub place : at ≡ length (open_records payloads)
  pub broken : (payload after : List ℕ) → ¬ BeginsWithPayload behind payload after

-- a slot is torn at an open gate, or at 0 where it is empty
abbrev pub IsTorn : ℕ → List ℕ → Type 0
IsTorn at bytes = IsTornAtGate at bytes ⊎ ((at ≡ 0) × (bytes ≡ []))

-- A slot is torn at this place, and these are the records before it.
abbrev pub IsTornBehind : List (List ℕ) → ℕ → List ℕ → Type 0
IsTornBehind payloads at bytes =
    ((torn : IsTornAtGate at bytes) × (torn.payloads ≡ payloads)) ⊎ ((payloads ≡ []) × (at ≡ 0) × (bytes ≡ []))

-- the records of frames
abbrev pub payloads_of : List Frame → List (List ℕ)
payloads_of frames = map (λ frame. frame.payload) frames

-- each frame's place is where its gate stands: behind the records before it
abbrev pub ArePlaced : List Frame → Type 0
ArePlaced frames = (before after : List Frame) (frame : Frame) → frames ≡ before ++ (frame ∷ after)
    → frame.at ≡ length (open_records (payloads_of before))
