-- When a scan may answer that the journal failed.
use Rattle.std.specs.Prelude.{◌≡◌, ℕ, ◌≤◌, Result, IsErrOf}
use Rattle.tsdb_base.specs.Causes.{Rose}
use Rattle.tsdb_frames.specs.declared.fault.ScanFault.{ScanFault}
use Rattle.tsdb_frames.specs.declared.fault.ScanFault.TheVariants.{Failed, Torn, Memory}

-- the count never falls, and the call returns `Failed` only where the count has risen
pub record HasScanCause {T : Type 0} (before now : ℕ) (result : Result T ScanFault) : Type 0 where
  pub later : before ≤ now
  pub failed : IsErrOf result Failed → Rose before now

-- a fault that may be answered of a slot that is torn at this place: this place alone, or no place
abbrev pub AnswersTorn : ℕ → ScanFault → Type 0
AnswersTorn at Failed = Unit {0}
AnswersTorn at (Torn place) = place ≡ at
AnswersTorn at Memory = Unit {0}
