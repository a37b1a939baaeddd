-- The first record of a slot.
use Rattle.std.specs.Prelude.{◌≡◌, ℕ, List, [], ◌∷◌, None, Some}
use Rattle.std.specs.declared.option.Option.{Option}
use Rattle.tsdb_frames.specs.declared.record.Frame.{Frame}
use Rattle.tsdb_frames.specs.Slots.{BeginsWithPayload, HasRecords}

-- A slot begins with an open gate, behind which this record stands whole, with the next gate.
pub record HasFirst (frame : Frame) (bytes : List ℕ) : Type 0 where
  pub at : frame.at ≡ 0
  pub behind : List ℕ
  pub after : List ℕ
  pub split : bytes ≡ 1 ∷ behind
  pub whole : BeginsWithPayload behind frame.payload after

-- the first record of a slot; none where its first gate is closed
abbrev pub IsFirst : Option Frame → List ℕ → Type 0
IsFirst None bytes = HasRecords [] bytes
IsFirst (Some frame) bytes = HasFirst frame bytes
