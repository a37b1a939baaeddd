use Rattle.std.proofs.Common.{subst}
use Rattle.std.specs.Prelude.{ℕ, List, map}
use Rattle.tsdb_streams.proofs.IndexedFacts.{found_in}
use Rattle.tsdb_index.specs.Entries.{AreInOrder, names_of}
use Rattle.tsdb_path.specs.Order.{AreNamesBefore}
use Rattle.tsdb_index.specs.Finding.{IsEntryFor}
use Rattle.tsdb_streams.proofs.indexed_files.open_entry.Goals as goal

pub returns : goal.returns
returns g c =
    let names : List ℕ × List ℕ = (c.args.device.now, c.args.measurement.now) in
    let entries = c.args.file.now.index.entries in
    c.lane_of.ensures names (found_in (g.R.ReadRight.file c.args.file.now.right.now).bytes names entries c.in_ok-found.found c.requires.indexed
    (subst (λ es. AreInOrder AreNamesBefore (map names_of es) → IsEntryFor names es c.in_ok-found.found) c.items.ensures c.in_ok-found.ensures))
