use Rattle.std.proofs.Common.{subst}
use Rattle.std.specs.Prelude.{IfSome}
use Rattle.tsdb_model.specs.Commands.{IsWellFormed}
use Rattle.jobs_tests.proofs.Out.{same_core}
use Rattle.jobs_tests.proofs.course.change.Goals as goal

pub is_done-requires-after_bounds : goal.is_done-requires-after_bounds
is_done-requires-after_bounds g c κs within = subst (λ r. IfSome r IsWellFormed) c.in-Some.is c.requires

pub returns-in-Some : goal.returns-in-Some
returns-in-Some g c = c.is_done.ensures

pub returns-in-None : goal.returns-in-None
returns-in-None g c = λ store. same_core store c.args.core.now
