use Rattle.tsdb_state.proofs.EngineDoubts.{failed_commit_step, failed_flush_step}
use Rattle.tsdb_state.proofs.step_laws.failed_commits_keep_order.Goals as goal

pub returns-clause-flush : goal.returns-clause-flush
returns-clause-flush c told known named state flush others built order commits ends all =
    failed_flush_step told known named state order flush others built commits ends all

pub returns-clause-compaction : goal.returns-clause-compaction
returns-clause-compaction c told known named state job others output place order commits =
    failed_commit_step told known named state order job others output place commits
