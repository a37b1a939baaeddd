use Rattle.std.proofs.Common.{◌∙◌}
use Rattle.jobs_tests.proofs.Out.{job_still, kept_beside, then_ends}
use Rattle.jobs_tests.proofs.course.during.Goals as goal

pub take_steps-done-requires-after_bounds : goal.take_steps-done-requires-after_bounds
take_steps-done-requires-after_bounds g c κs within = kept_beside g.F.Right.ReadRight.file (g.F.Port.Port.store c.args.port.now) c.args.core.now
    c.args.job c.requires

pub write-compacted-requires-after_bounds : goal.write-compacted-requires-after_bounds
write-compacted-requires-after_bounds g c κs within = job_still g.F.Right.ReadRight.file (g.F.Port.Port.store c.args.port.now)
    (g.F.Port.Port.store c.take_steps-done.new.port)
    c.args.core.now c.take_steps-done.new.core c.args.job
    c.take_steps-done.ensures.same_store c.requires c.take_steps-done.ensures.hands

pub returns-then-done-clause-ends : goal.returns-then-done-clause-ends
returns-then-done-clause-ends g c = then_ends g.F.Right.ReadRight.file (g.F.Port.Port.store c.args.port.now)
    (g.F.Port.Port.store c.take_steps-done.new.port)
    c.args.core.now c.take_steps-done.new.core
    c.write-compacted.new.core c.args.job c.take_steps-done.ensures.same_store c.take_steps-done.ensures.hands c.write-compacted.ensures.ends

pub returns-else-done-clause-ends : goal.returns-else-done-clause-ends
returns-else-done-clause-ends g c = then_ends g.F.Right.ReadRight.file (g.F.Port.Port.store c.args.port.now)
    (g.F.Port.Port.store c.take_steps-done.new.port)
    c.args.core.now c.take_steps-done.new.core
    c.write-compacted.new.core c.args.job c.take_steps-done.ensures.same_store c.take_steps-done.ensures.hands c.write-compacted.ensures.ends

pub returns-then-done-clause-same_store : goal.returns-then-done-clause-same_store
returns-then-done-clause-same_store g c = c.write-compacted.ensures.same_store ∙ c.take_steps-done.ensures.same_store

pub returns-else-done-clause-same_store : goal.returns-else-done-clause-same_store
returns-else-done-clause-same_store g c = c.write-compacted.ensures.same_store ∙ c.take_steps-done.ensures.same_store
