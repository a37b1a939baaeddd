-- The status of a run whose store was not opened.
use Rattle.std.proofs.Common.{◌≡◌, List, Option, inl, inr, refl}
use Rattle.tsdb_model.specs.State as plain
use Rattle.tsdb_outside.specs.Disk.{DiskState}
use Rattle.tsdb_outside.specs.Files.{StoredFile}
use Rattle.tsdb_run.proofs.Whole.{not_damaged}
use Rattle.tsdb_run.specs.Causes.{IsRefusedStore}
use Rattle.tsdb_run.specs.Steps.{IsOpeningStatus}
use Rattle.tsdb_run.specs.Store.{IsSoundPlace, contents}
use Rattle.tsdb_run.specs.declared.status.Status.{Status}
use Rattle.tsdb_run.specs.declared.status.Status.TheVariants.{Done, Memory, Words, Script, Source, Sink, Device, Damaged}

-- a sound store is refused only where something outside failed
pub refused_rose : (disk : DiskState) (stored : Option (List StoredFile)) (at : plain.State) (status : Status) (rose : Type 0)
    → IsSoundPlace (contents disk stored) at → IsOpeningStatus (contents disk stored) status → (status ≡ Device → rose)
    → IsRefusedStore status → rose
refused_rose disk stored at Device rose sound is device refused = device refl
refused_rose disk stored at (Damaged part place) rose sound is device refused =
    absurd (not_damaged disk stored at part place sound is)
refused_rose disk stored at Memory rose sound is device refused = absurd (by refused)
  where
    by : IsRefusedStore Memory → ⊥
    by (inl same) = cc
    by (inr (part, place, same)) = cc
refused_rose disk stored at Done rose sound is device refused = absurd is
refused_rose disk stored at Words rose sound is device refused = absurd is
refused_rose disk stored at (Script line kind) rose sound is device refused = absurd is
refused_rose disk stored at Source rose sound is device refused = absurd is
refused_rose disk stored at Sink rose sound is device refused = absurd is
