-- When each status may come.
use Rattle.std.specs.Prelude.{◌≡◌, ◌≢◌, ◌⊎◌, ℕ, ◌≤◌, List}
use Rattle.tsdb_base.specs.Causes.{Rose}
use Rattle.tsdb_recover.specs.declared.fault.Part.{Part}
use Rattle.tsdb_run.specs.Store.{Contents, HasDamage}
use Rattle.tsdb_run.specs.declared.status.Status.{Status}
use Rattle.tsdb_run.specs.declared.status.Status.TheVariants.{Done, Memory, Words, Script, Source, Device, Damaged}
use Rattle.tsdb_script.specs.Reading.{IsScript}
use Rattle.tsdb_script.specs.declared.numbered.Numbered.{Numbered}
use Rattle.tsdb_run.specs.Words.{AreWords, Asked}

-- the bytes are a script
abbrev pub IsGoodScript : List ℕ → Type 0
IsGoodScript bytes = (commands : List Numbered) × IsScript bytes commands

-- the words ask for something
abbrev pub AreGoodWords : List (List ℕ) → Type 0
AreGoodWords words = (asked : Asked) × AreWords words asked

-- The count of faults of one object rose exactly where the status says so.
pub record TellsFaults (which status : Status) (before now : ℕ) : Type 0 where
  pub rose : status ≡ which → Rose before now
  pub same : status ≢ which → now ≡ before
  pub later : before ≤ now

-- The count of faults of a place rose where the status is `Device`. Else it is as it was, unless the store was taken up.
pub record TellsDevice (status : Status) (taken : Type 0) (before now : ℕ) : Type 0 where
  pub rose : status ≡ Device → Rose before now
  pub same : status ≢ Device → taken ⊎ (now ≡ before)
  pub later : before ≤ now

-- the run ended before the store was taken up, and memory did not run out
abbrev pub IsBeforeStore : Status → Type 0
IsBeforeStore status = (status ≡ Words) ⊎ ((status ≡ Source)
    ⊎ ((line : ℕ) × (kind : ℕ) × (status ≡ Script line kind)))

-- the store could not be opened, and memory did not run out
abbrev pub IsRefusedStore : Status → Type 0
IsRefusedStore status = (status ≡ Device) ⊎ ((part : Part) × (at : ℕ) × (status ≡ Damaged part at))

-- a good script is executed and its output written, unless memory runs out
abbrev pub IsDoneOrMemory : Status → Type 0
IsDoneOrMemory status = (status ≡ Done) ⊎ (status ≡ Memory)

-- the first bad line is reported, unless memory or the source failed first
abbrev pub ReportsBad : Status → ℕ → ℕ → Type 0
ReportsBad status line kind = (status ≡ Script line kind) ⊎ ((status ≡ Memory) ⊎ (status ≡ Source))

-- the damage is reported, unless memory, the source or something of the place failed first
abbrev pub ReportsDamage : Status → Part → ℕ → Type 0
ReportsDamage status part at =
    (status ≡ Damaged part at) ⊎ ((status ≡ Memory) ⊎ ((status ≡ Source) ⊎ (status ≡ Device)))

-- so is each damage of the store
abbrev pub ReportsDamageOf : Contents → Status → Type 0
ReportsDamageOf place status = (part : Part) (at : ℕ) → HasDamage place part at → ReportsDamage status part at
