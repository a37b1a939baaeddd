use Rattle.tsdb_redo.proofs.Naming.{free_by}
use Rattle.tsdb_redo.proofs.numbers.NamedNumbers.is_free.Goals as goal

pub returns : goal.returns
returns c = free_by c.args.self.now c.args.number.0 c.has.result c.if-number-eq0.false
    c.if-number-ge-END_OF_NUMBERS.false c.has.ensures
