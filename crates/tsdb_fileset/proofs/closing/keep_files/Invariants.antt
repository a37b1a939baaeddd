use Rattle.std.proofs.Common.{◌≡◌, ◌+◌, List, Option, length}
use Rattle.tsdb_fileset.specs.Closing.{AreNumbersRising, names_at}
use Rattle.tsdb_fileset.specs.Places.{AreOfStore, AreUnread}
use Rattle.tsdb_fileset.proofs.PutBack.{IsAtRestAfter}
use Rattle.tsdb_fileset.proofs.closing.keep_files.Given as goal
use Rattle.tsdb_outside.specs.Files.{StoredFile}

abbrev pub invariant-loop : goal.invariant-loop
invariant-loop g l =
    (l.counter + length l.places.entries ≡ l.end)
    × AreUnread l.places.entries
    × AreOfStore (g.F.Files.store l.initial.files) l.places.entries
    × (g.F.Files.store l.files ≡ g.F.Files.store l.initial.files)
    × (g.F.Counted.faults l.files ≡ g.F.Counted.faults l.initial.files)
    × ((new : Option (List StoredFile)) → IsAtRestAfter (names_at l.places.entries) (g.F.Files.at_rest l.files) new
    → IsAtRestAfter (names_at l.initial.places.entries) (g.F.Files.at_rest l.initial.files) new)
    × (AreNumbersRising l.places.entries → AreNumbersRising l.initial.places.entries)
