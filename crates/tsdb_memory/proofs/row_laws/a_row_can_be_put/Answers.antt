use Rattle.tsdb_memory.proofs.RowLemmas.Putting.{put_alone, put_within}
use Rattle.tsdb_memory.proofs.row_laws.a_row_can_be_put.Goals as goal

pub returns-clause-within : goal.returns-clause-within
returns-clause-within c memory state device row cells limit is counts are apart there stamp most fits =
    put_within memory state device row cells is are apart there stamp limit counts most fits

pub returns-clause-alone : goal.returns-clause-alone
returns-clause-alone c memory state device row cells is are apart there stamp none =
    put_alone memory state device row cells is are apart there stamp none
