use Rattle.std.proofs.Common.{arith}
use Rattle.std.specs.Vec.{vec_capacity}
use Rattle.tsdb_log.specs.Spelling.{files_fields}
use Rattle.tsdb_log.proofs.Parts.{no_room_first, no_room_behind, writes_pair}
use Rattle.tsdb_log.proofs.writing.write_inputs.Goals as goal

pub returns-in_err-write_files-clause-room : goal.returns-in_err-write_files-clause-room
returns-in_err-write_files-clause-room c =
    no_room_first c.from_residual.result (files_fields c.args.sequence.now) (files_fields c.args.unsequence.now) c.args.into.now.items
    (vec_capacity c.args.into.now) c.in_err-write_files.ensures.room

pub returns-in_err-write_files-clause-capacity : goal.returns-in_err-write_files-clause-capacity
returns-in_err-write_files-clause-capacity c = c.write_files.ensures.capacity

pub returns-clause-ok : goal.returns-clause-ok
returns-clause-ok c =
    writes_pair c.write_files-2.result (files_fields c.args.sequence.now) (files_fields c.args.unsequence.now) c.args.into.now.items
    c.write_files.new.into.items c.write_files-2.new.into.items c.in_ok-write_files.ensures.ok c.write_files-2.ensures.ok

pub returns-clause-room : goal.returns-clause-room
returns-clause-room c =
    no_room_behind c.write_files-2.result (files_fields c.args.sequence.now) (files_fields c.args.unsequence.now) c.args.into.now.items
    c.write_files.new.into.items (vec_capacity c.args.into.now) (vec_capacity c.write_files.new.into) c.in_ok-write_files.ensures.ok
    c.write_files.ensures.capacity c.write_files-2.ensures.room

pub returns-clause-capacity : goal.returns-clause-capacity
returns-clause-capacity c = omega (arith, c.write_files.ensures.capacity, c.write_files-2.ensures.capacity)
