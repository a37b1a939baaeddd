use Rattle.std.proofs.Common.{[], ◌∷◌, ◌++◌, FitsSigned, arith}
use Rattle.std.specs.Int.{w64}
use Rattle.std.proofs.lemmas.Int.{to_z-of_z}
use Rattle.std.specs.Vec.{vec_capacity}
use Rattle.tsdb_base.specs.Plain.{plain_i64}
use Rattle.tsdb_log.specs.Rows.{field}
use Rattle.tsdb_log.specs.Spelling.{cells_fields}
use Rattle.tsdb_log.proofs.Parts.{writes_pair, no_room_first, no_room_behind}
use Rattle.tsdb_log.proofs.writing.write_insert.Goals as goal

pub returns-clause-ok : goal.returns-clause-ok
returns-clause-ok c =
    let fits : FitsSigned w64 c.args.time = c.ranges.time in
    let time = field plain_i64 c.args.time in
    let cells = cells_fields c.args.cells.now in
    let result = c.write_cells.result in
    let last = c.write_cells.new.into.items in
    let put = rw (to_z-of_z w64 c.args.time fits) at c.in_ok-write.ensures.ok in
    writes_pair result ((2 ∷ []) ∷ []) (time ++ cells) c.args.into.now.items c.put_bytes.new.into.items last c.in_ok-put_bytes.ensures.ok
    (writes_pair result time cells c.put_bytes.new.into.items c.write.new.into.items last put c.write_cells.ensures.ok)

pub returns-in_err-put_bytes-clause-room : goal.returns-in_err-put_bytes-clause-room
returns-in_err-put_bytes-clause-room c =
    let time = field plain_i64 c.args.time in
    let cells = cells_fields c.args.cells.now in
    no_room_first c.from_residual.result ((2 ∷ []) ∷ []) (time ++ cells) c.args.into.now.items (vec_capacity c.args.into.now)
    c.in_err-put_bytes.ensures.room

pub returns-in_err-put_bytes-clause-capacity : goal.returns-in_err-put_bytes-clause-capacity
returns-in_err-put_bytes-clause-capacity c = c.put_bytes.ensures.capacity

pub returns-in_err-write-clause-room : goal.returns-in_err-write-clause-room
returns-in_err-write-clause-room c =
    let time = field plain_i64 c.args.time in
    let cells = cells_fields c.args.cells.now in
    let result = c.from_residual-in_err-write.result in
    no_room_behind result ((2 ∷ []) ∷ []) (time ++ cells) c.args.into.now.items c.put_bytes.new.into.items (vec_capacity c.args.into.now)
    (vec_capacity c.put_bytes.new.into) c.in_ok-put_bytes.ensures.ok c.put_bytes.ensures.capacity
    (no_room_first result time cells c.put_bytes.new.into.items (vec_capacity c.put_bytes.new.into) c.in_err-write.ensures.room)

pub returns-in_err-write-clause-capacity : goal.returns-in_err-write-clause-capacity
returns-in_err-write-clause-capacity c = omega (arith, c.put_bytes.ensures.capacity, c.write.ensures.capacity)

pub returns-clause-room : goal.returns-clause-room
returns-clause-room c =
    let fits : FitsSigned w64 c.args.time = c.ranges.time in
    let time = field plain_i64 c.args.time in
    let cells = cells_fields c.args.cells.now in
    let result = c.write_cells.result in
    no_room_behind result ((2 ∷ []) ∷ []) (time ++ cells) c.args.into.now.items c.put_bytes.new.into.items (vec_capacity c.args.into.now)
    (vec_capacity c.put_bytes.new.into) c.in_ok-put_bytes.ensures.ok c.put_bytes.ensures.capacity
    (no_room_behind result time cells c.put_bytes.new.into.items c.write.new.into.items (vec_capacity c.put_bytes.new.into)
    (vec_capacity c.write.new.into) (rw (to_z-of_z w64 c.args.time fits) at c.in_ok-write.ensures.ok) c.write.ensures.capacity
    c.write_cells.ensures.room)

pub returns-clause-capacity : goal.returns-clause-capacity
returns-clause-capacity c = omega (arith, c.put_bytes.ensures.capacity, c.write.ensures.capacity, c.write_cells.ensures.capacity)
