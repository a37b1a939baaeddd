use Rattle.std.proofs.Common.{[], ◌∷◌, ◌++◌, arith}
use Rattle.std.specs.Vec.{vec_capacity}
use Rattle.tsdb_base.specs.Fields.{number64}
use Rattle.tsdb_log.specs.Snapshots.{counted_fields, table_fields}
use Rattle.tsdb_log.proofs.Parts.{no_room_first, no_room_behind, writes_pair}
use Rattle.tsdb_log.proofs.snapshot_parts.PairRecordPart.write.Goals as goal

pub returns-in_err-write-clause-room : goal.returns-in_err-write-clause-room
returns-in_err-write-clause-room c =
    let pair = c.args.self.now in
    let tables = counted_fields table_fields pair.sequence ++ counted_fields table_fields pair.unsequence in
    no_room_first c.from_residual.result (number64 pair.born.0 ∷ []) tables c.args.into.now.items (vec_capacity c.args.into.now)
    c.in_err-write.ensures.room

pub returns-in_err-write-clause-capacity : goal.returns-in_err-write-clause-capacity
returns-in_err-write-clause-capacity c = c.write.ensures.capacity

pub returns-clause-ok : goal.returns-clause-ok
returns-clause-ok c =
    let pair = c.args.self.now in
    let tables = counted_fields table_fields pair.sequence ++ counted_fields table_fields pair.unsequence in
    writes_pair c.write_both.result (number64 pair.born.0 ∷ []) tables c.args.into.now.items c.write.new.into.items c.write_both.new.into.items
    c.in_ok-write.ensures.ok c.write_both.ensures.ok

pub returns-clause-room : goal.returns-clause-room
returns-clause-room c =
    let pair = c.args.self.now in
    let tables = counted_fields table_fields pair.sequence ++ counted_fields table_fields pair.unsequence in
    no_room_behind c.write_both.result (number64 pair.born.0 ∷ []) tables c.args.into.now.items c.write.new.into.items
    (vec_capacity c.args.into.now) (vec_capacity c.write.new.into) c.in_ok-write.ensures.ok c.write.ensures.capacity c.write_both.ensures.room

pub returns-clause-capacity : goal.returns-clause-capacity
returns-clause-capacity c = omega (arith, c.write.ensures.capacity, c.write_both.ensures.capacity)
