use Rattle.std.proofs.Common.{◌≡◌, ◌≤◌, ◌⊎◌, take}
use Rattle.std.specs.List.{AllByRecursion as Each}
use Rattle.tsdb_inner.specs.Inputs.{TellsBytes}
use Rattle.tsdb_base.specs.Causes.{Rose}
use Rattle.tsdb_inner.proofs.inputs.count_damage.Given as goal

abbrev pub invariant-loop-input : goal.invariant-loop-input
invariant-loop-input g l =
    (Each (TellsBytes g.F.Right.ReadRight.file) (take l.input-index l.inputs)
    ⊎ Rose (g.F.Port.Counted.faults l.initial.port) (g.F.Port.Counted.faults l.port))
    × (g.F.Port.Counted.faults l.initial.port ≤ g.F.Port.Counted.faults l.port)
    × (g.F.Port.Port.store l.port ≡ g.F.Port.Port.store l.initial.port)
