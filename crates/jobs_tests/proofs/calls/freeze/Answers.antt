use Rattle.jobs_tests.proofs.Out.{same_core}
use Rattle.tsdb_core.proofs.Out.{files_handed}
use Rattle.jobs_tests.proofs.calls.freeze.Goals as goal

pub returns-then-frozen-lt2 : goal.returns-then-frozen-lt2
returns-then-frozen-lt2 g c = files_handed c.args.core.now c.freeze.new.self c.freeze.ensures.kept

pub returns : goal.returns
returns g c store = same_core store c.args.core.now
