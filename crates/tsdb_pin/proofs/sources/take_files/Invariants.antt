use Rattle.tsdb_pin.proofs.Listed.{AreTakenTo}
use Rattle.tsdb_pin.proofs.sources.take_files.Given as goal

abbrev pub invariant-loop-place : goal.invariant-loop-place
invariant-loop-place g l = AreTakenTo g.F.Right.ReadRight.file l.path l.space l.initial.files l.files l.initial.sources.items
    l.sources.items l.place
