use Rattle.tsdb_state.proofs.Deleting.{deleted_reply, deleted_stands}
use Rattle.tsdb_state.proofs.laws.delete_follows_the_map.Goals as goal

pub returns-clause-reply : goal.returns-clause-reply
returns-clause-reply c told path range state world order can stands =
    deleted_reply told path range state order can world stands

pub returns-clause-world : goal.returns-clause-world
returns-clause-world c told path range state world order can stands =
    deleted_stands told path range state order can world stands
