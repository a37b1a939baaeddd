use Rattle.std.proofs.Common.{subst, sym, ◌∙◌}
use Rattle.tsdb_core.specs.Core.{IsAboveNumbers}
use Rattle.jobs_tests.proofs.Out.{new_loans, new_store, none_above}
use Rattle.jobs_tests.proofs.course.new_core.Goals as goal

pub returns-clause-loans : goal.returns-clause-loans
returns-clause-loans g c = new_loans c.new.result
    (c.new.ensures.quiet (subst (IsAboveNumbers c.args.next) (sym c.new-kept.ensures)
    (none_above _ c.args.next c.requires)))
    (c.new.ensures.files ∙ c.new-kept.ensures) c.new.ensures.claims

pub returns-clause-of_store : goal.returns-clause-of_store
returns-clause-of_store g c = new_store c.new.result _ (c.new.ensures.files ∙ c.new-kept.ensures)
