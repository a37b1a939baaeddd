use Rattle.std.proofs.Common.{rules}
use Rattle.std.proofs.lemmas.Result.{IfOk-from_err}
use Rattle.mem_outside.specs.Place.{place_journal}
use Rattle.mem_outside.proofs.StopLemmas.{allowed_after}
use Rattle.mem_outside.proofs.place.MemPlace.after_stop.Goals as goal

pub returns-clause-allowed : goal.returns-clause-allowed
returns-clause-allowed c = allowed_after c.args.kind (place_journal c.args.self.now) c.args.moment c.from_parts.result (search rules)

pub returns-in_err-slots-in-Some-clause-seen : goal.returns-in_err-slots-in-Some-clause-seen
returns-in_err-slots-in-Some-clause-seen c = IfOk-from_err c.from_residual.result _ c.from_residual.ensures.0

pub returns-in_err-slots-in-Some-clause-allowed : goal.returns-in_err-slots-in-Some-clause-allowed
returns-in_err-slots-in-Some-clause-allowed c = IfOk-from_err c.from_residual.result _ c.from_residual.ensures.0

pub returns-in_err-slots-in-Some-clause-stored : goal.returns-in_err-slots-in-Some-clause-stored
returns-in_err-slots-in-Some-clause-stored c = IfOk-from_err c.from_residual.result _ c.from_residual.ensures.0

pub returns-in_err-slots-in-Some-clause-durable : goal.returns-in_err-slots-in-Some-clause-durable
returns-in_err-slots-in-Some-clause-durable c = IfOk-from_err c.from_residual.result _ c.from_residual.ensures.0

pub returns-in_err-slots-in-Some-clause-moment : goal.returns-in_err-slots-in-Some-clause-moment
returns-in_err-slots-in-Some-clause-moment c = IfOk-from_err c.from_residual.result _ c.from_residual.ensures.0

pub returns-in_err-slots-in-Some-clause-numbers : goal.returns-in_err-slots-in-Some-clause-numbers
returns-in_err-slots-in-Some-clause-numbers c = IfOk-from_err c.from_residual.result _ c.from_residual.ensures.0

pub returns-in_err-slots-in-Some-clause-never : goal.returns-in_err-slots-in-Some-clause-never
returns-in_err-slots-in-Some-clause-never c = IfOk-from_err c.from_residual.result _ c.from_residual.ensures.0

pub returns-in_err-slots-in-Some-clause-in_it : goal.returns-in_err-slots-in-Some-clause-in_it
returns-in_err-slots-in-Some-clause-in_it c = IfOk-from_err c.from_residual.result _ c.from_residual.ensures.0

pub returns-in_err-slots-in-Some-clause-asked : goal.returns-in_err-slots-in-Some-clause-asked
returns-in_err-slots-in-Some-clause-asked c = IfOk-from_err c.from_residual.result _ c.from_residual.ensures.0

pub returns-in_err-slots-in-Some-clause-no_faults : goal.returns-in_err-slots-in-Some-clause-no_faults
returns-in_err-slots-in-Some-clause-no_faults c = IfOk-from_err c.from_residual.result _ c.from_residual.ensures.0

pub returns-in_err-at_rest-in-Some-clause-seen : goal.returns-in_err-at_rest-in-Some-clause-seen
returns-in_err-at_rest-in-Some-clause-seen c =
    IfOk-from_err c.from_residual-in_err-at_rest-in-Some.result _ c.from_residual-in_err-at_rest-in-Some.ensures.0

pub returns-in_err-at_rest-in-Some-clause-allowed : goal.returns-in_err-at_rest-in-Some-clause-allowed
returns-in_err-at_rest-in-Some-clause-allowed c =
    IfOk-from_err c.from_residual-in_err-at_rest-in-Some.result _ c.from_residual-in_err-at_rest-in-Some.ensures.0

pub returns-in_err-at_rest-in-Some-clause-stored : goal.returns-in_err-at_rest-in-Some-clause-stored
returns-in_err-at_rest-in-Some-clause-stored c =
    IfOk-from_err c.from_residual-in_err-at_rest-in-Some.result _ c.from_residual-in_err-at_rest-in-Some.ensures.0

pub returns-in_err-at_rest-in-Some-clause-durable : goal.returns-in_err-at_rest-in-Some-clause-durable
returns-in_err-at_rest-in-Some-clause-durable c =
    IfOk-from_err c.from_residual-in_err-at_rest-in-Some.result _ c.from_residual-in_err-at_rest-in-Some.ensures.0

pub returns-in_err-at_rest-in-Some-clause-moment : goal.returns-in_err-at_rest-in-Some-clause-moment
returns-in_err-at_rest-in-Some-clause-moment c =
    IfOk-from_err c.from_residual-in_err-at_rest-in-Some.result _ c.from_residual-in_err-at_rest-in-Some.ensures.0

pub returns-in_err-at_rest-in-Some-clause-numbers : goal.returns-in_err-at_rest-in-Some-clause-numbers
returns-in_err-at_rest-in-Some-clause-numbers c =
    IfOk-from_err c.from_residual-in_err-at_rest-in-Some.result _ c.from_residual-in_err-at_rest-in-Some.ensures.0

pub returns-in_err-at_rest-in-Some-clause-never : goal.returns-in_err-at_rest-in-Some-clause-never
returns-in_err-at_rest-in-Some-clause-never c =
    IfOk-from_err c.from_residual-in_err-at_rest-in-Some.result _ c.from_residual-in_err-at_rest-in-Some.ensures.0

pub returns-in_err-at_rest-in-Some-clause-in_it : goal.returns-in_err-at_rest-in-Some-clause-in_it
returns-in_err-at_rest-in-Some-clause-in_it c =
    IfOk-from_err c.from_residual-in_err-at_rest-in-Some.result _ c.from_residual-in_err-at_rest-in-Some.ensures.0

pub returns-in_err-at_rest-in-Some-clause-asked : goal.returns-in_err-at_rest-in-Some-clause-asked
returns-in_err-at_rest-in-Some-clause-asked c =
    IfOk-from_err c.from_residual-in_err-at_rest-in-Some.result _ c.from_residual-in_err-at_rest-in-Some.ensures.0

pub returns-in_err-at_rest-in-Some-clause-no_faults : goal.returns-in_err-at_rest-in-Some-clause-no_faults
returns-in_err-at_rest-in-Some-clause-no_faults c =
    IfOk-from_err c.from_residual-in_err-at_rest-in-Some.result _ c.from_residual-in_err-at_rest-in-Some.ensures.0

pub returns-clause-moment : goal.returns-clause-moment
returns-clause-moment c = c.from_parts.ensures.moment

pub returns-clause-in_it : goal.returns-clause-in_it
returns-clause-in_it c = c.from_parts.ensures.in_it

pub returns-clause-asked : goal.returns-clause-asked
returns-clause-asked c = c.from_parts.ensures.asked

pub returns-clause-no_faults : goal.returns-clause-no_faults
returns-clause-no_faults c = c.from_parts.ensures.no_faults
