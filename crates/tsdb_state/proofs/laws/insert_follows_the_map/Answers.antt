use Rattle.tsdb_state.proofs.Inserting.{inserted_reply, inserted_stands}
use Rattle.tsdb_state.proofs.laws.insert_follows_the_map.Goals as goal

pub returns-clause-reply : goal.returns-clause-reply
returns-clause-reply c told device row cells state world order can stands are =
    inserted_reply told device row cells state order can world stands are

pub returns-clause-world : goal.returns-clause-world
returns-clause-world c told device row cells state world order can stands are =
    inserted_stands told device row cells state order can world stands are
