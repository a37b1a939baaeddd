use Rattle.jobs_tests.proofs.course.take_step.Goals as goal

pub returns-in-Create-clause-hands : goal.returns-in-Create-clause-hands
returns-in-Create-clause-hands g c = c.change.ensures (g.F.Port.Port.store c.args.port.now)

pub returns-in-Put-clause-hands : goal.returns-in-Put-clause-hands
returns-in-Put-clause-hands g c = c.change-in-Put.ensures (g.F.Port.Port.store c.args.port.now)

pub returns-in-Delete-clause-hands : goal.returns-in-Delete-clause-hands
returns-in-Delete-clause-hands g c = c.change-in-Delete.ensures (g.F.Port.Port.store c.args.port.now)
