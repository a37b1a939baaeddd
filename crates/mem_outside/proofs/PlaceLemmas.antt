-- A place whose files never fail goes on to have none that fails.
use Rattle.std.proofs.Common.{◌≡◌, [], None, Option, ap, ◌∙◌}
use Rattle.std.specs.Prelude.{Result, Ok, Err, OnOk, OnErr}
use Rattle.tsdb_outside.specs.declared.faults.StoreFault.{StoreFault}
use Rattle.mem_outside.specs.declared.files.MemFiles.{MemFiles}
use Rattle.mem_outside.specs.declared.journal.MemJournal.{MemJournal}
use Rattle.mem_outside.specs.Place.{failing_of}

pub never_after : {T : Type 0} (r : Result T StoreFault) (old_journal new_journal : Option MemJournal) (old new : Option MemFiles)
    → OnOk r (new_journal ≡ None × new ≡ None) → OnErr r (new_journal ≡ old_journal × new ≡ old)
    → failing_of old ≡ [] → failing_of new ≡ []
never_after (Ok parts) old_journal new_journal old new out same never = ap failing_of out.1
never_after (Err fault) old_journal new_journal old new out same never = ap failing_of same.1 ∙ never
