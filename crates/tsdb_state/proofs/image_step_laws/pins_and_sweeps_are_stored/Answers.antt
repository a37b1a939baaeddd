use Rattle.tsdb_state.proofs.ImageLemmas.Storing.{pin_stored, sweep_stored, unpin_stored}
use Rattle.tsdb_state.proofs.image_step_laws.pins_and_sweeps_are_stored.Goals as goal

pub returns-clause-pin : goal.returns-clause-pin
returns-clause-pin c items kept told known state pin stored takes =
    pin_stored items kept told known state stored pin takes

pub returns-clause-unpin : goal.returns-clause-unpin
returns-clause-unpin c items kept told known state pin others stored out =
    unpin_stored items kept told known state stored pin others out

pub returns-clause-sweep : goal.returns-clause-sweep
returns-clause-sweep c items kept told known state numbers stored sweeps out =
    sweep_stored items kept told known state stored numbers out sweeps
