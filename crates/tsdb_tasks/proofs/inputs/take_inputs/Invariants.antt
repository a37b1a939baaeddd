use Rattle.tsdb_tasks.proofs.Taken.{AreTakenTo}
use Rattle.tsdb_tasks.proofs.inputs.take_inputs.Given as goal

abbrev pub invariant-loop-place : goal.invariant-loop-place
invariant-loop-place g l = AreTakenTo g.F.Right.ReadRight.file l.space l.fn.run.first l.initial.files l.files
    l.initial.inputs.items l.inputs.items l.place
