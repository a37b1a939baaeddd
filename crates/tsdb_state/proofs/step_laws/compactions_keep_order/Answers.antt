use Rattle.tsdb_state.proofs.EngineCompaction.{begin_step, commit_keeps, commit_step, end_step}
use Rattle.tsdb_state.proofs.step_laws.compactions_keep_order.Goals as goal

pub returns-clause-begin : goal.returns-clause-begin
returns-clause-begin c told known named state job order begins = begin_step told known named state order job begins

pub returns-clause-end : goal.returns-clause-end
returns-clause-end c told known named state job others built order ends =
    end_step told known named state order job others built ends

pub returns-clause-commit : goal.returns-clause-commit
returns-clause-commit c told known named state job others output place order commits =
    commit_step told known named state order job others output place commits

pub returns-clause-world : goal.returns-clause-world
returns-clause-world c told known named state job others output place order commits =
    commit_keeps told known named state order job others output place commits
