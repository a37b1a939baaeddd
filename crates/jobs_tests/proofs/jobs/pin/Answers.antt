use Rattle.jobs_tests.proofs.Out.{same_core}
use Rattle.jobs_tests.proofs.jobs.pin.Goals as goal

pub returns-in_default : goal.returns-in_default
returns-in_default g c store = same_core store c.args.core.now
