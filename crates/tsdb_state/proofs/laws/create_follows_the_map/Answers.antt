use Rattle.tsdb_state.proofs.Creating.{created_reply, created_stands}
use Rattle.tsdb_state.proofs.laws.create_follows_the_map.Goals as goal

pub returns-clause-reply : goal.returns-clause-reply
returns-clause-reply c told schema state world order can stands = created_reply told schema state order can world stands

pub returns-clause-world : goal.returns-clause-world
returns-clause-world c told schema state world order can stands =
    created_stands told schema state order can world stands
