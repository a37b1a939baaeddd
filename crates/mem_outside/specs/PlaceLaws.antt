-- The places in memory keep the laws of a disk.
use Rattle.std.specs.Prelude.{None, Some}
use Rattle.std.specs.declared.option.Option.{Option}
use Rattle.tsdb_outside.specs.Disk.{IsLawful}
use Rattle.tsdb_outside.specs.Laws.{silent_is_lawful}
use Rattle.mem_outside.specs.declared.journal.MemJournal.{MemJournal}
use Rattle.mem_outside.specs.Journal.{journal_first, journal_calls}
use Rattle.mem_outside.specs.Laws.{state_is_lawful}
use Rattle.mem_outside.specs.Place.{state_of_place}

pub place_is_lawful : (journal : Option MemJournal) → IsLawful (state_of_place journal)
place_is_lawful None = silent_is_lawful
place_is_lawful (Some j) = state_is_lawful (journal_first j) (journal_calls j)
