use Rattle.std.proofs.Common.{List, drop}
use Rattle.tsdb_base.specs.declared.point.Point.{Point}
use Rattle.tsdb_pins.specs.Weaving.{IsNextPoint, Weaves}
use Rattle.tsdb_pins.proofs.folding.add_clean.Given as goal

abbrev pub invariant-loop-next : goal.invariant-loop-next
invariant-loop-next l = (all left : List Point) → IsNextPoint l.point left → Weaves l.name all (drop l.from l.clean) left l.initial.tally → Weaves l.name all (drop l.next l.clean) left l.tally
