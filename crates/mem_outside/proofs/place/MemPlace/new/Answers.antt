use Rattle.std.proofs.lemmas.Result.{IfOk-from_err}
use Rattle.mem_outside.proofs.place.MemPlace.new.Goals as goal

pub returns-in_err-at_rest-clause-seen : goal.returns-in_err-at_rest-clause-seen
returns-in_err-at_rest-clause-seen c = IfOk-from_err c.from_residual.result _ c.from_residual.ensures.0

pub returns-in_err-at_rest-clause-durable : goal.returns-in_err-at_rest-clause-durable
returns-in_err-at_rest-clause-durable c = IfOk-from_err c.from_residual.result _ c.from_residual.ensures.0

pub returns-in_err-at_rest-clause-moment : goal.returns-in_err-at_rest-clause-moment
returns-in_err-at_rest-clause-moment c = IfOk-from_err c.from_residual.result _ c.from_residual.ensures.0

pub returns-in_err-at_rest-clause-stored : goal.returns-in_err-at_rest-clause-stored
returns-in_err-at_rest-clause-stored c = IfOk-from_err c.from_residual.result _ c.from_residual.ensures.0

pub returns-in_err-at_rest-clause-numbers : goal.returns-in_err-at_rest-clause-numbers
returns-in_err-at_rest-clause-numbers c = IfOk-from_err c.from_residual.result _ c.from_residual.ensures.0

pub returns-in_err-at_rest-clause-failing : goal.returns-in_err-at_rest-clause-failing
returns-in_err-at_rest-clause-failing c = IfOk-from_err c.from_residual.result _ c.from_residual.ensures.0

pub returns-in_err-at_rest-clause-in_it : goal.returns-in_err-at_rest-clause-in_it
returns-in_err-at_rest-clause-in_it c = IfOk-from_err c.from_residual.result _ c.from_residual.ensures.0

pub returns-in_err-at_rest-clause-asked : goal.returns-in_err-at_rest-clause-asked
returns-in_err-at_rest-clause-asked c = IfOk-from_err c.from_residual.result _ c.from_residual.ensures.0

pub returns-in_err-at_rest-clause-no_faults : goal.returns-in_err-at_rest-clause-no_faults
returns-in_err-at_rest-clause-no_faults c = IfOk-from_err c.from_residual.result _ c.from_residual.ensures.0

pub returns-clause-moment : goal.returns-clause-moment
returns-clause-moment c = c.from_parts.ensures.moment

pub returns-clause-numbers : goal.returns-clause-numbers
returns-clause-numbers c = c.from_parts.ensures.numbers

pub returns-clause-failing : goal.returns-clause-failing
returns-clause-failing c = c.from_parts.ensures.failing

pub returns-clause-in_it : goal.returns-clause-in_it
returns-clause-in_it c = c.from_parts.ensures.in_it

pub returns-clause-asked : goal.returns-clause-asked
returns-clause-asked c = c.from_parts.ensures.asked

pub returns-clause-no_faults : goal.returns-clause-no_faults
returns-clause-no_faults c = c.from_parts.ensures.no_faults
