use Rattle.std.proofs.Common.{[], ◌∷◌, ◌++◌, arith}
use Rattle.std.specs.Vec.{vec_capacity}
use Rattle.tsdb_log.specs.Snapshots.{snapshot_fields}
use Rattle.tsdb_log.specs.Spelling.{files_fields, output_fields}
use Rattle.tsdb_log.proofs.Parts.{writes_pair, no_room_first, no_room_behind}
use Rattle.tsdb_log.proofs.writing.append_record.Goals as goal

pub returns-in-Delete-clause-ok : goal.returns-in-Delete-clause-ok
returns-in-Delete-clause-ok c = rw c.in-Delete.is c.write_delete.ensures.ok

pub returns-in-Flushed-clause-ok : goal.returns-in-Flushed-clause-ok
returns-in-Flushed-clause-ok c = rw c.in-Flushed.is c.write_of_kind-in-Flushed.ensures.ok

pub returns-in_ok-write_of_kind-in-Replaced-clause-ok : goal.returns-in_ok-write_of_kind-in-Replaced-clause-ok
returns-in_ok-write_of_kind-in-Replaced-clause-ok c =
    let r = c.in-Replaced in
    rw r.is (writes_pair c.write_inputs.result ((6 ∷ []) ∷ output_fields r.born r.space r.place r.output) (files_fields r.sequence ++ files_fields r.unsequence)
    c.args.into.now.items c.write_of_kind-in-Replaced.new.into.items c.write_inputs.new.into.items c.in_ok-write_of_kind-in-Replaced.ensures.ok
    (rw (c.items-in-Replaced.ensures, c.items-in-Replaced-2.ensures) at c.write_inputs.ensures.ok))

pub returns-in_ok-put_bytes-in-Snapshot-clause-ok : goal.returns-in_ok-put_bytes-in-Snapshot-clause-ok
returns-in_ok-put_bytes-in-Snapshot-clause-ok c =
    rw c.in-Snapshot.is (writes_pair c.write_snapshot.result ((7 ∷ []) ∷ []) (snapshot_fields c.in-Snapshot.snapshot) c.args.into.now.items
    c.put_bytes-in-Snapshot.new.into.items c.write_snapshot.new.into.items c.in_ok-put_bytes-in-Snapshot.ensures.ok c.write_snapshot.ensures.ok)

pub returns-in-Create-clause-room : goal.returns-in-Create-clause-room
returns-in-Create-clause-room c = rw c.in-Create.is c.write_of_kind.ensures.room

pub returns-in-Create-clause-capacity : goal.returns-in-Create-clause-capacity
returns-in-Create-clause-capacity c = c.write_of_kind.ensures.capacity

pub returns-in-Delete-clause-record : goal.returns-in-Delete-clause-record
returns-in-Delete-clause-record c = rw c.in-Delete.is c.write_delete.ensures.is

pub returns-in-Delete-clause-room : goal.returns-in-Delete-clause-room
returns-in-Delete-clause-room c = rw c.in-Delete.is c.write_delete.ensures.room

pub returns-in-Delete-clause-capacity : goal.returns-in-Delete-clause-capacity
returns-in-Delete-clause-capacity c = c.write_delete.ensures.capacity

pub returns-in-Flushed-clause-room : goal.returns-in-Flushed-clause-room
returns-in-Flushed-clause-room c = rw c.in-Flushed.is c.write_of_kind-in-Flushed.ensures.room

pub returns-in-Flushed-clause-capacity : goal.returns-in-Flushed-clause-capacity
returns-in-Flushed-clause-capacity c = c.write_of_kind-in-Flushed.ensures.capacity

pub returns-in_err-write_of_kind-in-Replaced-clause-room : goal.returns-in_err-write_of_kind-in-Replaced-clause-room
returns-in_err-write_of_kind-in-Replaced-clause-room c =
    let r = c.in-Replaced in
    rw r.is (no_room_first c.from_residual.result ((6 ∷ []) ∷ output_fields r.born r.space r.place r.output)
    (files_fields r.sequence ++ files_fields r.unsequence)
    c.args.into.now.items (vec_capacity c.args.into.now) c.in_err-write_of_kind-in-Replaced.ensures.room)

pub returns-in_err-write_of_kind-in-Replaced-clause-capacity : goal.returns-in_err-write_of_kind-in-Replaced-clause-capacity
returns-in_err-write_of_kind-in-Replaced-clause-capacity c = c.write_of_kind-in-Replaced.ensures.capacity

pub returns-in_ok-write_of_kind-in-Replaced-clause-room : goal.returns-in_ok-write_of_kind-in-Replaced-clause-room
returns-in_ok-write_of_kind-in-Replaced-clause-room c =
    let r = c.in-Replaced in
    rw r.is (no_room_behind c.write_inputs.result ((6 ∷ []) ∷ output_fields r.born r.space r.place r.output)
    (files_fields r.sequence ++ files_fields r.unsequence)
    c.args.into.now.items c.write_of_kind-in-Replaced.new.into.items (vec_capacity c.args.into.now)
    (vec_capacity c.write_of_kind-in-Replaced.new.into) c.in_ok-write_of_kind-in-Replaced.ensures.ok c.write_of_kind-in-Replaced.ensures.capacity
    (rw (c.items-in-Replaced.ensures, c.items-in-Replaced-2.ensures) at c.write_inputs.ensures.room))

pub returns-in_ok-write_of_kind-in-Replaced-clause-capacity : goal.returns-in_ok-write_of_kind-in-Replaced-clause-capacity
returns-in_ok-write_of_kind-in-Replaced-clause-capacity c =
    omega (arith, c.write_of_kind-in-Replaced.ensures.capacity, c.write_inputs.ensures.capacity)

pub returns-in_err-put_bytes-in-Snapshot-clause-room : goal.returns-in_err-put_bytes-in-Snapshot-clause-room
returns-in_err-put_bytes-in-Snapshot-clause-room c =
    rw c.in-Snapshot.is
    (no_room_first c.from_residual-in_err-put_bytes-in-Snapshot.result ((7 ∷ []) ∷ []) (snapshot_fields c.in-Snapshot.snapshot)
    c.args.into.now.items (vec_capacity c.args.into.now)
    c.in_err-put_bytes-in-Snapshot.ensures.room)

pub returns-in_err-put_bytes-in-Snapshot-clause-capacity : goal.returns-in_err-put_bytes-in-Snapshot-clause-capacity
returns-in_err-put_bytes-in-Snapshot-clause-capacity c = c.put_bytes-in-Snapshot.ensures.capacity

pub returns-in_ok-put_bytes-in-Snapshot-clause-room : goal.returns-in_ok-put_bytes-in-Snapshot-clause-room
returns-in_ok-put_bytes-in-Snapshot-clause-room c =
    rw c.in-Snapshot.is
    (no_room_behind c.write_snapshot.result ((7 ∷ []) ∷ []) (snapshot_fields c.in-Snapshot.snapshot) c.args.into.now.items
    c.put_bytes-in-Snapshot.new.into.items (vec_capacity c.args.into.now) (vec_capacity c.put_bytes-in-Snapshot.new.into)
    c.in_ok-put_bytes-in-Snapshot.ensures.ok c.put_bytes-in-Snapshot.ensures.capacity c.write_snapshot.ensures.room)

pub returns-in_ok-put_bytes-in-Snapshot-clause-capacity : goal.returns-in_ok-put_bytes-in-Snapshot-clause-capacity
returns-in_ok-put_bytes-in-Snapshot-clause-capacity c = omega (arith, c.put_bytes-in-Snapshot.ensures.capacity, c.write_snapshot.ensures.capacity)
