use Rattle.tsdb_state.proofs.ImageLemmas.Storing.{commit_flush_stored, end_flush_stored, flush_failed, take_flush_stored}
use Rattle.tsdb_state.proofs.image_step_laws.flushes_are_stored.Goals as goal

pub returns-clause-take : goal.returns-clause-take
returns-clause-take c items kept told known state flush stored takes =
    take_flush_stored items kept told known state stored flush takes

pub returns-clause-end : goal.returns-clause-end
returns-clause-end c items kept told known state flush others built stored ends all =
    end_flush_stored items kept told known state stored flush others built ends all

pub returns-clause-commit : goal.returns-clause-commit
returns-clause-commit c items kept told known state flush others stored commits good all =
    commit_flush_stored items kept told known state stored flush others commits good all

pub returns-clause-fail : goal.returns-clause-fail
returns-clause-fail c items kept told known state flush others stored commits good all =
    flush_failed items kept told known state stored flush others commits good all
