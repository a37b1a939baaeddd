use Rattle.jobs_tests.proofs.Out.{columns_held, pin_given}
use Rattle.jobs_tests.proofs.jobs.unpin.Goals as goal

pub unpin-requires-after_bounds : goal.unpin-requires-after_bounds
unpin-requires-after_bounds g c κs within = columns_held g.F.Right.ReadRight.file c.requires.0 c.args.core.now c.args.pin c.requires.1

pub returns : goal.returns
returns g c = pin_given g.F.Right.ReadRight.file c.args.core.now c.unpin.new.self c.args.pin c.unpin.ensures
