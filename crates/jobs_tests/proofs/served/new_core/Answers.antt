use Rattle.std.proofs.Common.{subst, sym, ◌∙◌}
use Rattle.jobs_tests.proofs.Ready.{new_free, none_above}
use Rattle.tsdb_core.specs.Core.{IsAboveNumbers}
use Rattle.jobs_tests.proofs.served.new_core.Goals as goal

pub returns : goal.returns
returns g c = new_free c.new.result (g.F.Files.store c.args.files.now)
    (c.new.ensures.quiet (subst (IsAboveNumbers c.args.next) (sym c.new-kept.ensures)
    (none_above _ c.args.next c.requires.next)))
    (c.new.ensures.files ∙ c.new-kept.ensures) c.new.ensures.claims
