use Rattle.tsdb_fileset.proofs.StateSweeps.{places_stay, sweep_is, tell_on}
use Rattle.tsdb_fileset.proofs.laws.a_sweep_is_a_step_of_the_state.Goals as goal

pub returns-clause-step : goal.returns-clause-step
returns-clause-step c files new known state doubted part are doubt some leaves =
    sweep_is files new doubted part known state are doubt some leaves

pub returns-clause-told : goal.returns-clause-told
returns-clause-told c files new kept doubted part told leaves = tell_on files new doubted part kept told leaves

pub returns-clause-places : goal.returns-clause-places
returns-clause-places c files new doubted part leaves number made =
    places_stay files new doubted part leaves number made
