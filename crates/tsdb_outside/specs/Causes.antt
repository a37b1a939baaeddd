-- When a call may return that something outside failed: only where the count of faults of an object rose in that call.
use Rattle.std.specs.Prelude.{◌≡◌, ℕ, ◌+◌, ◌-◌, ◌^◌, ◌≤◌, min, Result, OnErr, IsErrOf}
use Rattle.tsdb_base.specs.Causes.{Rose}
use Rattle.tsdb_outside.specs.declared.faults.StoreFault.{StoreFault}
use Rattle.tsdb_outside.specs.declared.faults.StoreFault.TheVariants.{Failed}

-- the count never falls, and the call returns its error only where the count has risen; for a call with no other error
pub record HasCause {T E : Type 0} (before now : ℕ) (result : Result T E) : Type 0 where
  pub later : before ≤ now
  pub failed : OnErr result (Rose before now)

-- the count never falls, and the call returns `Failed` only where the count has risen; `Memory` is free
pub record HasStoreCause {T : Type 0} (before now : ℕ) (result : Result T StoreFault) : Type 0 where
  pub later : before ≤ now
  pub failed : IsErrOf result Failed → Rose before now

-- the count rises in no other answer than `Failed`
abbrev pub RisesOnlyByFailed : {T : Type 0} → ℕ → ℕ → Result T StoreFault → Type 0
RisesOnlyByFailed before now result = ¬ IsErrOf result Failed → now ≡ before
