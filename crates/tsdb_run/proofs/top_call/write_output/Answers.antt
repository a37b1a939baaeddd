use Rattle.std.proofs.Common.{Err, ap}
use Rattle.tsdb_run.proofs.Ends.{failed}
use Rattle.tsdb_run.specs.declared.status.Status.TheVariants.{Sink}
use Rattle.tsdb_run.proofs.top_call.write_output.Goals as goal

pub returns-in-Err-Failed-clause-sink : goal.returns-in-Err-Failed-clause-sink
returns-in-Err-Failed-clause-sink g c =
    failed Sink _ _ (c.in-Err-Failed.ensures.cause.failed (ap Err c.in-Err-Failed.field-0-is))
    c.in-Err-Failed.ensures.cause.later
