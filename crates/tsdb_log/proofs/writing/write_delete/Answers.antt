use Rattle.std.proofs.Common.{[], ◌∷◌, ◌++◌, arith}
use Rattle.std.specs.Vec.{vec_capacity}
use Rattle.tsdb_base.specs.Plain.{plain_i64, plain_text}
use Rattle.tsdb_log.specs.Rows.{field}
use Rattle.tsdb_log.proofs.Parts.{writes_pair, no_room_first, no_room_behind}
use Rattle.tsdb_log.proofs.writing.write_delete.Goals as goal

pub returns-clause-ok : goal.returns-clause-ok
returns-clause-ok c =
    let path = field plain_text c.args.path.now in
    let times = field plain_i64 c.args.range.now.from ++ field plain_i64 c.args.range.now.to in
    let result = c.write_both.result in
    let last = c.write_both.new.into.items in
    writes_pair result ((3 ∷ []) ∷ []) (path ++ times) c.args.into.now.items c.put_bytes.new.into.items last c.in_ok-put_bytes.ensures.ok
    (writes_pair result path times c.put_bytes.new.into.items c.write.new.into.items last c.in_ok-write.ensures.ok c.write_both.ensures.ok)

pub returns-in_err-put_bytes-clause-room : goal.returns-in_err-put_bytes-clause-room
returns-in_err-put_bytes-clause-room c =
    let path = field plain_text c.args.path.now in
    let times = field plain_i64 c.args.range.now.from ++ field plain_i64 c.args.range.now.to in
    no_room_first c.from_residual.result ((3 ∷ []) ∷ []) (path ++ times) c.args.into.now.items (vec_capacity c.args.into.now)
    c.in_err-put_bytes.ensures.room

pub returns-in_err-put_bytes-clause-capacity : goal.returns-in_err-put_bytes-clause-capacity
returns-in_err-put_bytes-clause-capacity c = c.put_bytes.ensures.capacity

pub returns-in_err-write-clause-room : goal.returns-in_err-write-clause-room
returns-in_err-write-clause-room c =
    let path = field plain_text c.args.path.now in
    let times = field plain_i64 c.args.range.now.from ++ field plain_i64 c.args.range.now.to in
    let result = c.from_residual-in_err-write.result in
    no_room_behind result ((3 ∷ []) ∷ []) (path ++ times) c.args.into.now.items c.put_bytes.new.into.items (vec_capacity c.args.into.now)
    (vec_capacity c.put_bytes.new.into) c.in_ok-put_bytes.ensures.ok c.put_bytes.ensures.capacity
    (no_room_first result path times c.put_bytes.new.into.items (vec_capacity c.put_bytes.new.into) c.in_err-write.ensures.room)

pub returns-in_err-write-clause-capacity : goal.returns-in_err-write-clause-capacity
returns-in_err-write-clause-capacity c = omega (arith, c.put_bytes.ensures.capacity, c.write.ensures.capacity)

pub returns-clause-room : goal.returns-clause-room
returns-clause-room c =
    let path = field plain_text c.args.path.now in
    let times = field plain_i64 c.args.range.now.from ++ field plain_i64 c.args.range.now.to in
    let result = c.write_both.result in
    no_room_behind result ((3 ∷ []) ∷ []) (path ++ times) c.args.into.now.items c.put_bytes.new.into.items (vec_capacity c.args.into.now)
    (vec_capacity c.put_bytes.new.into) c.in_ok-put_bytes.ensures.ok c.put_bytes.ensures.capacity
    (no_room_behind result path times c.put_bytes.new.into.items c.write.new.into.items (vec_capacity c.put_bytes.new.into)
    (vec_capacity c.write.new.into) c.in_ok-write.ensures.ok c.write.ensures.capacity c.write_both.ensures.room)

pub returns-clause-capacity : goal.returns-clause-capacity
returns-clause-capacity c = omega (arith, c.put_bytes.ensures.capacity, c.write.ensures.capacity, c.write_both.ensures.capacity)
