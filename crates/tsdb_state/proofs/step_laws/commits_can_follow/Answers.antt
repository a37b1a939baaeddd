use Rattle.tsdb_state.proofs.EngineDoubts.{commit_follows, flush_follows}
use Rattle.tsdb_state.proofs.step_laws.commits_can_follow.Goals as goal

pub returns-clause-flush : goal.returns-clause-flush
returns-clause-flush c told known named state flush others order commits =
    flush_follows told known named state order flush others commits

pub returns-clause-compaction : goal.returns-clause-compaction
returns-clause-compaction c told known named state job others output place order commits =
    commit_follows told known named state order job others output place commits
