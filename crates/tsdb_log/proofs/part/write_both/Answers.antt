use Rattle.std.proofs.Common.{arith}
use Rattle.std.specs.Vec.{vec_capacity}
use Rattle.tsdb_log.proofs.Parts.{no_room_first, no_room_behind, writes_pair}
use Rattle.tsdb_log.proofs.part.write_both.Goals as goal

pub returns-in_err-write-clause-room : goal.returns-in_err-write-clause-room
returns-in_err-write-clause-room g c =
    no_room_first c.from_residual.result (g.A.Part.fields c.args.first.now) (g.B.Part.fields c.args.second.now) c.args.into.now.items
    (vec_capacity c.args.into.now) c.in_err-write.ensures.room

pub returns-in_err-write-clause-capacity : goal.returns-in_err-write-clause-capacity
returns-in_err-write-clause-capacity g c = c.write.ensures.capacity

pub returns-clause-ok : goal.returns-clause-ok
returns-clause-ok g c =
    writes_pair c.write-2.result (g.A.Part.fields c.args.first.now) (g.B.Part.fields c.args.second.now) c.args.into.now.items c.write.new.into.items
    c.write-2.new.into.items c.in_ok-write.ensures.ok c.write-2.ensures.ok

pub returns-clause-room : goal.returns-clause-room
returns-clause-room g c =
    no_room_behind c.write-2.result (g.A.Part.fields c.args.first.now) (g.B.Part.fields c.args.second.now) c.args.into.now.items
    c.write.new.into.items (vec_capacity c.args.into.now) (vec_capacity c.write.new.into) c.in_ok-write.ensures.ok c.write.ensures.capacity
    c.write-2.ensures.room

pub returns-clause-capacity : goal.returns-clause-capacity
returns-clause-capacity g c = omega (arith, c.write.ensures.capacity, c.write-2.ensures.capacity)
