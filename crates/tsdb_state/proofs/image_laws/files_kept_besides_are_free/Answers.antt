use Rattle.tsdb_state.proofs.ImageLemmas.Storing.{more_kept, others_kept}
use Rattle.tsdb_state.proofs.image_laws.files_kept_besides_are_free.Goals as goal

pub returns-clause-others : goal.returns-clause-others
returns-clause-others c items kept others told known state stored same =
    others_kept items kept told known state stored others same

pub returns-clause-more : goal.returns-clause-more
returns-clause-more c items kept more told known state stored = more_kept items kept told known state stored more
