use Rattle.tsdb_memory.proofs.RowLemmas.MapAnswers.{follows}
use Rattle.tsdb_memory.proofs.row_laws.reading_follows_the_map.Goals as goal

pub returns : goal.returns
returns c told memory state world device row read is order stands how =
    follows told memory state world device row read is order stands how
