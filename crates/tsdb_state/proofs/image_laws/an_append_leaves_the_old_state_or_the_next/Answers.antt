use Rattle.tsdb_state.proofs.ImageLemmas.Leaving.{append_moments}
use Rattle.tsdb_state.proofs.image_laws.an_append_leaves_the_old_state_or_the_next.Goals as goal

pub returns : goal.returns
returns g c = λ items kept told known state doubtful item world after next slot stored doubted same stands leads
    leads_after moments. append_moments items kept told known state doubtful item world after next slot
    (g.D.Disk.state c.args._old.now) (g.D.Disk.state c.args._new.now) stored doubted same stands leads leads_after
    moments
