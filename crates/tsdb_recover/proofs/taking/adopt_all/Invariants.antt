use Rattle.std.proofs.Common.{◌-◌}
use Rattle.std.specs.Prelude.{◌≡◌, ⊤, Ok}
use Rattle.tsdb_recover.specs.Adopting.{adopting_files, opening_of}
use Rattle.tsdb_redo.specs.Opening.{listed_in}
use Rattle.tsdb_recover.specs.Files.{HasFilesCause}
use Rattle.tsdb_recover.specs.Taking.{KeepsAdopting, HasTakenMore, kept_count}
use Rattle.tsdb_recover.proofs.taking.adopt_all.Given as goal

abbrev pub invariant-next : goal.invariant-next
invariant-next g l = record {
  goes_on : KeepsAdopting l.fn.adopting l.adopting;
  taking : HasTakenMore l.fn.adopting l.adopting (g.F.Files.at_rest l.fn.files) (g.F.Files.at_rest l.files);
  same_store : g.F.Files.store l.files ≡ g.F.Files.store l.fn.files;
  same_port : g.F.Port.Port.store l.port ≡ g.F.Port.Port.store l.fn.port;
  cause : HasFilesCause {T = ⊤} (g.F.Counted.faults l.fn.files) (g.F.Counted.faults l.files)
      (g.F.Port.Counted.faults l.fn.port)
      (g.F.Port.Counted.faults l.port) (Ok tt);
}

abbrev pub decreases-next : goal.decreases-next
decreases-next g l = listed_in (opening_of l.adopting) - kept_count (adopting_files l.adopting)
