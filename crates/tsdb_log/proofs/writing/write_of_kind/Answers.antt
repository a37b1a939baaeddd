use Rattle.std.proofs.Common.{[], ◌∷◌, ◌++◌, arith}
use Rattle.std.specs.Vec.{vec_capacity}
use Rattle.tsdb_log.proofs.Parts.{no_room_first, no_room_behind, writes_pair}
use Rattle.tsdb_log.proofs.writing.write_of_kind.Goals as goal

pub returns-in_err-put_bytes-clause-room : goal.returns-in_err-put_bytes-clause-room
returns-in_err-put_bytes-clause-room g c =
    no_room_first c.from_residual.result ((c.args.kind ∷ []) ∷ []) (g.A.Part.fields c.args.first.now ++ g.B.Part.fields c.args.second.now)
    c.args.into.now.items (vec_capacity c.args.into.now) c.in_err-put_bytes.ensures.room

pub returns-in_err-put_bytes-clause-capacity : goal.returns-in_err-put_bytes-clause-capacity
returns-in_err-put_bytes-clause-capacity g c = c.put_bytes.ensures.capacity

pub returns-clause-ok : goal.returns-clause-ok
returns-clause-ok g c =
    writes_pair c.write_both.result ((c.args.kind ∷ []) ∷ []) (g.A.Part.fields c.args.first.now ++ g.B.Part.fields c.args.second.now)
    c.args.into.now.items c.put_bytes.new.into.items c.write_both.new.into.items c.in_ok-put_bytes.ensures.ok c.write_both.ensures.ok

pub returns-clause-room : goal.returns-clause-room
returns-clause-room g c =
    no_room_behind c.write_both.result ((c.args.kind ∷ []) ∷ []) (g.A.Part.fields c.args.first.now ++ g.B.Part.fields c.args.second.now)
    c.args.into.now.items c.put_bytes.new.into.items (vec_capacity c.args.into.now) (vec_capacity c.put_bytes.new.into) c.in_ok-put_bytes.ensures.ok
    c.put_bytes.ensures.capacity c.write_both.ensures.room

pub returns-clause-capacity : goal.returns-clause-capacity
returns-clause-capacity g c = omega (arith, c.put_bytes.ensures.capacity, c.write_both.ensures.capacity)
