use Rattle.tsdb_fields.proofs.Taken.{AreTaken}
use Rattle.tsdb_fields.proofs.many.read_fields.Given as goal

-- as many fields as the counter says were taken off the rest
abbrev pub invariant-loop : goal.invariant-loop
invariant-loop g l = AreTaken g.R.FieldReader.spelling (g.R.FieldReader.is_field l.reader) l.counter l.fn.rest l.fields.items l.left
