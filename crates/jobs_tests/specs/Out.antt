-- What each call of a core hands on of what is out, as the tests' functions promise it.
use Rattle.std.specs.Prelude.{Option, None, Some}
use Rattle.tsdb_compactions.specs.declared.job.Job.{Job}
use Rattle.tsdb_core.specs.Compactions.{IsHandedOut}
use Rattle.tsdb_core.specs.Out.{IsWithJob, KeepsOut, Loans, with_flush, with_job, with_pin}
use Rattle.tsdb_core.specs.declared.engine.Core.{Core}
use Rattle.tsdb_flush.specs.Jobs.{IsJob}
use Rattle.tsdb_flush.specs.declared.job.FlushJob.{FlushJob}
use Rattle.tsdb_outside.specs.Files.{NamedFile, Store}
use Rattle.tsdb_outside.specs.declared.disk.Disk as disk
use Rattle.tsdb_outside.specs.declared.faults.Counted as counted
use Rattle.tsdb_pin.specs.declared.pin.Pin.{Pin}
use Rattle.tsdb_pins.specs.Reading.{HaveNodes}

module _ {J F S R P : Type 0} {means : disk.Ghosts J} {counts : counted.Ghosts J} where
  -- it keeps whatever is out
  abbrev pub IsKept : Store → Core J F S R P means counts → Type 0
  IsKept store core = (out : Loans) × KeepsOut store out core

  -- what was kept is kept
  abbrev pub IsHandedOn : Store → Core J F S R P means counts → Core J F S R P means counts → Type 0
  IsHandedOn store old new = (out : Loans) → KeepsOut store out old → KeepsOut store out new

  abbrev pub AreHandedOn : Core J F S R P means counts → Core J F S R P means counts → Type 0
  AreHandedOn old new = (store : Store) → IsHandedOn store old new

  -- the flush is out beside others
  abbrev pub HasFlush : Store → Core J F S R P means counts → FlushJob → Type 0
  HasFlush store core job = IsJob job × (out : Loans) × KeepsOut store (with_flush job out) core

  -- what was kept is kept with the flush, where one was taken
  abbrev pub TakesFlush : Core J F S R P means counts → Core J F S R P means counts → Option FlushJob → Type 0
  TakesFlush old new None = AreHandedOn old new
  TakesFlush old new (Some job) = IsJob job
      × ((store : Store) (out : Loans) → KeepsOut store out old → KeepsOut store (with_flush job out) new)

  -- what was kept with the flush is kept without it
  abbrev pub EndsFlush : Store → Core J F S R P means counts → Core J F S R P means counts → FlushJob → Type 0
  EndsFlush store old new job = (out : Loans) → KeepsOut store (with_flush job out) old → KeepsOut store out new

  module _ (name : R → NamedFile) where
    -- the same of a compaction, whichever others began before it and behind it
    abbrev pub HasJob : Store → Core J F S R P means counts → Job F S R P → Type 0
    HasJob store core job = IsHandedOut job × (others : Loans) × (all : Loans) × IsWithJob name job others all
        × KeepsOut store all core

    abbrev pub BeginsJob : Core J F S R P means counts → Core J F S R P means counts → Option (Job F S R P) → Type 0
    BeginsJob old new None = AreHandedOn old new
    BeginsJob old new (Some job) = (store : Store) (out : Loans) → KeepsOut store out old
        → IsHandedOut job × KeepsOut store (with_job name job out) new

    abbrev pub EndsJob : Store → Core J F S R P means counts → Core J F S R P means counts → Job F S R P → Type 0
    EndsJob store old new job = (others all : Loans) → IsWithJob name job others all → KeepsOut store all old
        → KeepsOut store others new

    -- the same of a pin
    abbrev pub HasPin : Store → Core J F S R P means counts → Pin F S R P → Type 0
    HasPin store core pin = HaveNodes pin.columns × (out : Loans) × KeepsOut store (with_pin name pin out) core

    abbrev pub TakesPin : Core J F S R P means counts → Core J F S R P means counts → Option (Pin F S R P) → Type 0
    TakesPin old new None = AreHandedOn old new
    TakesPin old new (Some pin) = HaveNodes pin.columns
        × ((store : Store) (out : Loans) → KeepsOut store out old → KeepsOut store (with_pin name pin out) new)

    abbrev pub EndsPin : Store → Core J F S R P means counts → Core J F S R P means counts → Pin F S R P → Type 0
    EndsPin store old new pin = (out : Loans) → KeepsOut store (with_pin name pin out) old → KeepsOut store out new
