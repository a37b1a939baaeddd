use Rattle.std.proofs.Common.{take}
use Rattle.std.specs.Prelude.{◌≡◌, ⊤, Ok}
use Rattle.tsdb_recover.specs.Adopting.{adopting_files}
use Rattle.tsdb_outside.specs.Files.{plain_numbers}
use Rattle.tsdb_recover.specs.Files.{HasFilesCause}
use Rattle.tsdb_recover.specs.Taking.{AreGoneIn}
use Rattle.tsdb_recover.proofs.strays.remove_strays.Given as goal

abbrev pub invariant-loop-number : goal.invariant-loop-number
invariant-loop-number g l = record {
  gone : AreGoneIn (plain_numbers (take l.number-index l.numbers)) (adopting_files l.adopting) (g.F.Files.at_rest l.fn.files)
      (g.F.Files.at_rest l.files);
  same_store : g.F.Files.store l.files ≡ g.F.Files.store l.fn.files;
  same_port : g.F.Port.Port.store l.port ≡ g.F.Port.Port.store l.fn.port;
  no_fault : g.F.Port.Counted.faults l.port ≡ g.F.Port.Counted.faults l.fn.port;
  cause : HasFilesCause {T = ⊤} (g.F.Counted.faults l.fn.files) (g.F.Counted.faults l.files)
      (g.F.Port.Counted.faults l.fn.port)
      (g.F.Port.Counted.faults l.port) (Ok tt);
}
