use Rattle.tsdb_state.proofs.ImageLemmas.Storing.{begin_stored, commit_failed, commit_stored, end_stored}
use Rattle.tsdb_state.proofs.image_step_laws.compactions_are_stored.Goals as goal

pub returns-clause-begin : goal.returns-clause-begin
returns-clause-begin c items kept told known state job stored begins =
    begin_stored items kept told known state stored job begins

pub returns-clause-end : goal.returns-clause-end
returns-clause-end c items kept told known state job others built stored ends all =
    end_stored items kept told known state stored job others built ends all

pub returns-clause-commit : goal.returns-clause-commit
returns-clause-commit c items kept told known state job others output place stored commits good all =
    commit_stored items kept told known state stored job others output place commits good all

pub returns-clause-fail : goal.returns-clause-fail
returns-clause-fail c items kept told known state job others output place stored commits good all =
    commit_failed items kept told known state stored job others output place commits good all
