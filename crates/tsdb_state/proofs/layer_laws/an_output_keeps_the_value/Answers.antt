use Rattle.tsdb_state.proofs.LayerLemmas.JobMarks.{output_value}
use Rattle.tsdb_state.proofs.layer_laws.an_output_keeps_the_value.Goals as goal

pub returns : goal.returns
returns c = output_value
