use Rattle.tsdb_memory.proofs.Following.{row_answers}
use Rattle.tsdb_memory.proofs.map_laws.a_row_follows_the_map.Goals as goal

pub returns : goal.returns
returns c told store state world device row answer memory order stands is =
    row_answers told store state memory order world stands device row answer is
