use Rattle.tsdb_state.proofs.Committing.{output_has}
use Rattle.tsdb_state.proofs.laws.an_output_has_its_inputs_value.Goals as goal

pub returns : goal.returns
returns c told state job output place marked gives file = output_has told state job output marked gives file place
