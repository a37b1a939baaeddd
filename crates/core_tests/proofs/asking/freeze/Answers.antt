use Rattle.core_tests.proofs.Ready.{kept_ready}
use Rattle.core_tests.proofs.asking.freeze.Goals as goal

pub returns-then-frozen-lt2 : goal.returns-then-frozen-lt2
returns-then-frozen-lt2 g c = kept_ready c.args.core.now c.freeze.new.self c.freeze.ensures.kept
