use Rattle.std.proofs.Common.{sym, ◌∙◌}
use Rattle.jobs_tests.proofs.Out.{new_kept, stays_in, unread}
use Rattle.jobs_tests.proofs.course.lead.Goals as goal

pub first_other-other-requires-after_bounds : goal.first_other-other-requires-after_bounds
first_other-other-requires-after_bounds g c κs within = new_kept c.new_core-core.result (g.F.Port.Port.store c.args.port.now)
    c.new_core-core.ensures.loans
    (sym c.requires.same ∙ c.new_core-core.ensures.of_store)

pub close-requires-clause-no_rights : goal.close-requires-clause-no_rights
close-requires-clause-no_rights g c = λ lifetimes lives. unread (g.F.Port.Port.store c.args.port.now) c.new_core-core.result
    c.first_other-other.new.core
    c.first_other-other.ensures.hands
    c.new_core-core.ensures.loans (sym c.requires.same ∙ c.new_core-core.ensures.of_store)

pub close-requires-clause-store : goal.close-requires-clause-store
close-requires-clause-store g c = λ lifetimes lives. stays_in (g.F.Port.Port.store c.args.port.now) (g.F.Files.store c.args.files.now)
    c.new_core-core.result c.first_other-other.new.core
    c.requires.same c.first_other-other.ensures.hands c.new_core-core.ensures.loans
    (sym c.requires.same ∙ c.new_core-core.ensures.of_store)

pub returns : goal.returns
returns g c = c.close.ensures.same_store ∙ c.requires.same ∙ sym c.first_other-other.ensures.same_store
