use Rattle.jobs_tests.proofs.Out.{begins_and_ends, begun_has, none_begun, some_begun}
use Rattle.jobs_tests.proofs.course.compact_course.Goals as goal

pub during-requires-after_bounds : goal.during-requires-after_bounds
during-requires-after_bounds g c κs within = begun_has g.F.Right.ReadRight.file (g.F.Port.Port.store c.args.port.now) c.args.core.now
    c.begin-began.new.core c.in-Some.job
    (some_begun g.F.Right.ReadRight.file c.args.core.now c.begin-began.new.core c.begin-began.result.1 c.in-Some.job c.in-Some.is
    c.begin-began.ensures) c.requires

pub returns-in-Some-clause-hands : goal.returns-in-Some-clause-hands
returns-in-Some-clause-hands g c = begins_and_ends g.F.Right.ReadRight.file (g.F.Port.Port.store c.args.port.now) c.args.core.now
    c.begin-began.new.core c.during.new.core
    c.in-Some.job
    (some_begun g.F.Right.ReadRight.file c.args.core.now c.begin-began.new.core c.begin-began.result.1 c.in-Some.job c.in-Some.is
    c.begin-began.ensures)
    c.during.ensures.ends

pub returns-in-None-clause-hands : goal.returns-in-None-clause-hands
returns-in-None-clause-hands g c = none_begun g.F.Right.ReadRight.file c.args.core.now c.begin-began.new.core c.begin-began.result.1 c.in-None.is
    c.begin-began.ensures
    (g.F.Port.Port.store c.args.port.now)
