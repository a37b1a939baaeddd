use Rattle.std.proofs.Common.{◌≡◌, ◌≤◌, take}
use Rattle.std.specs.List.{AllZip}
use Rattle.tsdb_inner.specs.Inputs.{IsOpenedAs}
use Rattle.tsdb_inner.proofs.inputs.open_inputs.Given as goal

abbrev pub invariant-loop-input : goal.invariant-loop-input
invariant-loop-input g l = AllZip (IsOpenedAs g.F.Right.ReadRight.file) (take l.input-index l.inputs) l.files.items
    × (g.F.Port.Counted.faults l.fn.port ≤ g.F.Port.Counted.faults l.port)
    × (g.F.Port.Port.store l.port ≡ g.F.Port.Port.store l.fn.port)
