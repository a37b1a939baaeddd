use Rattle.tsdb_core.proofs.Out.{files_handed, no_flush, no_job, no_pin, swept_handed}
use Rattle.tsdb_core.proofs.out_laws.what_is_out_is_handed_on.Goals as goal

pub returns-clause-command : goal.returns-clause-command
returns-clause-command g c = files_handed c.args._old.now c.args._new.now

pub returns-clause-sweep : goal.returns-clause-sweep
returns-clause-sweep g c = swept_handed c.args._old.now c.args._new.now

pub returns-clause-no_flush : goal.returns-clause-no_flush
returns-clause-no_flush g c = no_flush c.args._old.now c.args._new.now

pub returns-clause-no_job : goal.returns-clause-no_job
returns-clause-no_job g c = no_job c.args._old.now c.args._new.now

pub returns-clause-no_pin : goal.returns-clause-no_pin
returns-clause-no_pin g c = no_pin c.args._old.now c.args._new.now
