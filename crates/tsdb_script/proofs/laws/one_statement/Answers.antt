use Rattle.tsdb_script.proofs.StatementLemmas.{same_statement}
use Rattle.tsdb_script.proofs.laws.one_statement.Goals as goal

pub returns : goal.returns
returns c = same_statement
