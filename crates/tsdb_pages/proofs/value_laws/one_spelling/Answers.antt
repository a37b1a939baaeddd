use Rattle.tsdb_pages.proofs.SuitablePairs.{laws_of}
use Rattle.tsdb_pages.proofs.value_laws.one_spelling.Goals as goal

pub returns : goal.returns
returns c = λ data_type encoding suits. (laws_of data_type encoding suits).one
