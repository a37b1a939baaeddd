use Rattle.std.proofs.Common.{take}
use Rattle.std.specs.List.{AllZip}
use Rattle.tsdb_pins.specs.Reading.{IsLentAs}
use Rattle.tsdb_pins.proofs.lending.lend.Given as goal

abbrev pub invariant-loop-source : goal.invariant-loop-source
invariant-loop-source g l = AllZip IsLentAs (take l.source-index l.sources) l.lent.items
