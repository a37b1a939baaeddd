use Rattle.tsdb_history.proofs.Replaced.{replaced}
use Rattle.tsdb_history.proofs.laws.replies_may_change.Goals as goal

pub returns : goal.returns
returns g c = λ loans first files start old new are so_far.
    replaced loans first c.args._core.now files start old new are so_far
