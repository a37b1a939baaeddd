use Rattle.tsdb_tasks.proofs.Committing.{can_commit, drawn_from_one, least_after}
use Rattle.tsdb_tasks.proofs.flush_laws.a_flush_whose_files_are_told_can_be_committed.Goals as goal

pub returns-clause-commit : goal.returns-clause-commit
returns-clause-commit c store job files outside engine flush others oldest newer listed stored out of_job all tells are
    born least = can_commit store job files flush others engine out of_job all outside stored tells oldest newer listed
    are born least

pub returns-clause-least : goal.returns-clause-least
returns-clause-least c outside engine flush others born oldest newer listed stored out are is least =
    least_after engine flush others born oldest newer listed (drawn_from_one outside engine flush others stored out)
    are is least
