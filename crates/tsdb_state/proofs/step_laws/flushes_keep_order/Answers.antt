use Rattle.tsdb_state.proofs.EngineFlush.{commit_flush_step, end_flush_step, flush_keeps, take_flush_step}
use Rattle.tsdb_state.proofs.step_laws.flushes_keep_order.Goals as goal

pub returns-clause-take : goal.returns-clause-take
returns-clause-take c told known named state flush order takes =
    take_flush_step told known named state order flush takes

pub returns-clause-end : goal.returns-clause-end
returns-clause-end c told known named state flush others built order ends =
    end_flush_step told known named state order flush others built ends

pub returns-clause-commit : goal.returns-clause-commit
returns-clause-commit c told known named state flush others order commits =
    commit_flush_step told known named state order flush others commits

pub returns-clause-world : goal.returns-clause-world
returns-clause-world c told known named state flush others order commits =
    flush_keeps told known named state order flush others commits
