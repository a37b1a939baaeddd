use Rattle.std.proofs.Common.{◌++◌, arith}
use Rattle.std.specs.Vec.{vec_capacity}
use Rattle.tsdb_log.specs.Snapshots.{counted_fields, front_fields, frozen_fields, table_fields}
use Rattle.tsdb_log.proofs.Parts.{writes_pair, no_room_first, no_room_behind}
use Rattle.tsdb_log.proofs.snapshot_parts.write_snapshot.Goals as goal

pub returns-clause-ok : goal.returns-clause-ok
returns-clause-ok c =
    let s = c.args.snapshot.now in
    let tables = counted_fields table_fields s.working_sequence ++ counted_fields table_fields s.working_unsequence in
    let result = c.write_both.result in
    let last = c.write_both.new.into.items in
    writes_pair result (front_fields s) (frozen_fields s.frozen ++ tables) c.args.into.now.items c.write_front.new.into.items last c.in_ok-write_front.ensures.ok
    (writes_pair result (frozen_fields s.frozen) tables c.write_front.new.into.items c.write_frozen.new.into.items last
    (rw c.items.ensures at c.in_ok-write_frozen.ensures.ok) c.write_both.ensures.ok)

pub returns-in_err-write_front-clause-room : goal.returns-in_err-write_front-clause-room
returns-in_err-write_front-clause-room c =
    let s = c.args.snapshot.now in
    let tables = counted_fields table_fields s.working_sequence ++ counted_fields table_fields s.working_unsequence in
    no_room_first c.from_residual.result (front_fields s) (frozen_fields s.frozen ++ tables) c.args.into.now.items (vec_capacity c.args.into.now)
    c.in_err-write_front.ensures.room

pub returns-in_err-write_front-clause-capacity : goal.returns-in_err-write_front-clause-capacity
returns-in_err-write_front-clause-capacity c = c.write_front.ensures.capacity

pub returns-in_err-write_frozen-clause-room : goal.returns-in_err-write_frozen-clause-room
returns-in_err-write_frozen-clause-room c =
    let s = c.args.snapshot.now in
    let tables = counted_fields table_fields s.working_sequence ++ counted_fields table_fields s.working_unsequence in
    let result = c.from_residual-in_err-write_frozen.result in
    no_room_behind result (front_fields s) (frozen_fields s.frozen ++ tables) c.args.into.now.items c.write_front.new.into.items
    (vec_capacity c.args.into.now) (vec_capacity c.write_front.new.into) c.in_ok-write_front.ensures.ok c.write_front.ensures.capacity
    (no_room_first result (frozen_fields s.frozen) tables c.write_front.new.into.items (vec_capacity c.write_front.new.into)
    (rw c.items.ensures at c.in_err-write_frozen.ensures.room))

pub returns-in_err-write_frozen-clause-capacity : goal.returns-in_err-write_frozen-clause-capacity
returns-in_err-write_frozen-clause-capacity c = omega (arith, c.write_front.ensures.capacity, c.write_frozen.ensures.capacity)

pub returns-clause-room : goal.returns-clause-room
returns-clause-room c =
    let s = c.args.snapshot.now in
    let tables = counted_fields table_fields s.working_sequence ++ counted_fields table_fields s.working_unsequence in
    let result = c.write_both.result in
    no_room_behind result (front_fields s) (frozen_fields s.frozen ++ tables) c.args.into.now.items c.write_front.new.into.items
    (vec_capacity c.args.into.now) (vec_capacity c.write_front.new.into) c.in_ok-write_front.ensures.ok c.write_front.ensures.capacity
    (no_room_behind result (frozen_fields s.frozen) tables c.write_front.new.into.items c.write_frozen.new.into.items
    (vec_capacity c.write_front.new.into) (vec_capacity c.write_frozen.new.into) (rw c.items.ensures at c.in_ok-write_frozen.ensures.ok)
    c.write_frozen.ensures.capacity c.write_both.ensures.room)

pub returns-clause-capacity : goal.returns-clause-capacity
returns-clause-capacity c = omega (arith, c.write_front.ensures.capacity, c.write_frozen.ensures.capacity, c.write_both.ensures.capacity)
