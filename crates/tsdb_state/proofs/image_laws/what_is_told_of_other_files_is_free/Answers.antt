use Rattle.tsdb_state.proofs.ImageLemmas.Storing.{others_told}
use Rattle.tsdb_state.proofs.image_laws.what_is_told_of_other_files_is_free.Goals as goal

pub returns : goal.returns
returns c = λ items kept told other known entries state stored none same as_known.
    others_told items kept told known state stored other entries none same as_known
