use Rattle.std.proofs.Common.{ℕ, List, ◌≡◌, ◌++◌, append_assoc, subst, ◌+◌, ◌<◌, length, arith}
use Rattle.std.specs.Prelude.{OnOk, OnErr}
use Rattle.std.specs.Vec.{vec_capacity}
use Rattle.tsdb_log.specs.SnapshotLaws.{numbers_row}
use Rattle.tsdb_log.specs.Snapshots.{counted_fields, listed_fields, mark_fields, schema_fields, watermark_fields}
use Rattle.tsdb_log.specs.Spelling.{joined_fields}
use Rattle.tsdb_log.proofs.Parts.{writes_pair, no_room_first, no_room_behind}
use Rattle.tsdb_log.proofs.snapshot_parts.write_front.Goals as goal

pub returns-clause-ok : goal.returns-clause-ok
returns-clause-ok c =
    let s = c.args.snapshot.now in
    let numbers = numbers_row (s.generation, (s.stamp.0, s.next_file)) in
    let schemas = counted_fields schema_fields s.schemas in
    let watermarks = counted_fields watermark_fields s.watermarks in
    let marks = counted_fields mark_fields s.marks in
    let files = counted_fields listed_fields s.sequence ++ counted_fields listed_fields s.unsequence in
    let old = c.args.into.now.items in
    let last = c.write_both-2.new.into.items in
    let result = c.write_both-2.result in
    subst (λ (l : List (List ℕ)). OnOk result (last ≡ old ++ joined_fields (numbers ++ l))) (append_assoc schemas watermarks (marks ++ files))
    (writes_pair result numbers ((schemas ++ watermarks) ++ (marks ++ files)) old c.write.new.into.items last c.in_ok-write.ensures.ok
    (writes_pair result (schemas ++ watermarks) (marks ++ files) c.write.new.into.items c.write_both.new.into.items last c.in_ok-write_both.ensures.ok
    (writes_pair result marks files c.write_both.new.into.items c.write-2.new.into.items last c.in_ok-write-2.ensures.ok c.write_both-2.ensures.ok)))

pub returns-in_err-write-clause-room : goal.returns-in_err-write-clause-room
returns-in_err-write-clause-room c =
    let s = c.args.snapshot.now in
    let numbers = numbers_row (s.generation, (s.stamp.0, s.next_file)) in
    let schemas = counted_fields schema_fields s.schemas in
    let watermarks = counted_fields watermark_fields s.watermarks in
    let marks = counted_fields mark_fields s.marks in
    let files = counted_fields listed_fields s.sequence ++ counted_fields listed_fields s.unsequence in
    no_room_first c.from_residual.result numbers (schemas ++ (watermarks ++ (marks ++ files))) c.args.into.now.items (vec_capacity c.args.into.now)
    c.in_err-write.ensures.room

pub returns-in_err-write-clause-capacity : goal.returns-in_err-write-clause-capacity
returns-in_err-write-clause-capacity c = c.write.ensures.capacity

pub returns-in_err-write_both-clause-room : goal.returns-in_err-write_both-clause-room
returns-in_err-write_both-clause-room c =
    let s = c.args.snapshot.now in
    let numbers = numbers_row (s.generation, (s.stamp.0, s.next_file)) in
    let schemas = counted_fields schema_fields s.schemas in
    let watermarks = counted_fields watermark_fields s.watermarks in
    let marks = counted_fields mark_fields s.marks in
    let files = counted_fields listed_fields s.sequence ++ counted_fields listed_fields s.unsequence in
    let result = c.from_residual-in_err-write_both.result in
    subst (λ (l : List (List ℕ)). OnErr result (vec_capacity c.args.into.now < length c.args.into.now.items + length (joined_fields (numbers ++ l))))
    (append_assoc schemas watermarks (marks ++ files))
    (no_room_behind result numbers ((schemas ++ watermarks) ++ (marks ++ files)) c.args.into.now.items c.write.new.into.items
    (vec_capacity c.args.into.now) (vec_capacity c.write.new.into) c.in_ok-write.ensures.ok c.write.ensures.capacity
    (no_room_first result (schemas ++ watermarks) (marks ++ files) c.write.new.into.items (vec_capacity c.write.new.into)
    c.in_err-write_both.ensures.room))

pub returns-in_err-write_both-clause-capacity : goal.returns-in_err-write_both-clause-capacity
returns-in_err-write_both-clause-capacity c = omega (arith, c.write.ensures.capacity, c.write_both.ensures.capacity)

pub returns-in_err-write-2-clause-room : goal.returns-in_err-write-2-clause-room
returns-in_err-write-2-clause-room c =
    let s = c.args.snapshot.now in
    let numbers = numbers_row (s.generation, (s.stamp.0, s.next_file)) in
    let schemas = counted_fields schema_fields s.schemas in
    let watermarks = counted_fields watermark_fields s.watermarks in
    let marks = counted_fields mark_fields s.marks in
    let files = counted_fields listed_fields s.sequence ++ counted_fields listed_fields s.unsequence in
    let result = c.from_residual-in_err-write-2.result in
    subst (λ (l : List (List ℕ)). OnErr result (vec_capacity c.args.into.now < length c.args.into.now.items + length (joined_fields (numbers ++ l))))
    (append_assoc schemas watermarks (marks ++ files))
    (no_room_behind result numbers ((schemas ++ watermarks) ++ (marks ++ files)) c.args.into.now.items c.write.new.into.items
    (vec_capacity c.args.into.now) (vec_capacity c.write.new.into) c.in_ok-write.ensures.ok c.write.ensures.capacity
    (no_room_behind result (schemas ++ watermarks) (marks ++ files) c.write.new.into.items c.write_both.new.into.items
    (vec_capacity c.write.new.into) (vec_capacity c.write_both.new.into) c.in_ok-write_both.ensures.ok c.write_both.ensures.capacity
    (no_room_first result marks files c.write_both.new.into.items (vec_capacity c.write_both.new.into) c.in_err-write-2.ensures.room)))

pub returns-in_err-write-2-clause-capacity : goal.returns-in_err-write-2-clause-capacity
returns-in_err-write-2-clause-capacity c = omega (arith, c.write.ensures.capacity, c.write_both.ensures.capacity, c.write-2.ensures.capacity)

pub returns-clause-room : goal.returns-clause-room
returns-clause-room c =
    let s = c.args.snapshot.now in
    let numbers = numbers_row (s.generation, (s.stamp.0, s.next_file)) in
    let schemas = counted_fields schema_fields s.schemas in
    let watermarks = counted_fields watermark_fields s.watermarks in
    let marks = counted_fields mark_fields s.marks in
    let files = counted_fields listed_fields s.sequence ++ counted_fields listed_fields s.unsequence in
    let result = c.write_both-2.result in
    subst (λ (l : List (List ℕ)). OnErr result (vec_capacity c.args.into.now < length c.args.into.now.items + length (joined_fields (numbers ++ l))))
    (append_assoc schemas watermarks (marks ++ files))
    (no_room_behind result numbers ((schemas ++ watermarks) ++ (marks ++ files)) c.args.into.now.items c.write.new.into.items
    (vec_capacity c.args.into.now) (vec_capacity c.write.new.into) c.in_ok-write.ensures.ok c.write.ensures.capacity
    (no_room_behind result (schemas ++ watermarks) (marks ++ files) c.write.new.into.items c.write_both.new.into.items
    (vec_capacity c.write.new.into) (vec_capacity c.write_both.new.into) c.in_ok-write_both.ensures.ok c.write_both.ensures.capacity
    (no_room_behind result marks files c.write_both.new.into.items c.write-2.new.into.items (vec_capacity c.write_both.new.into)
    (vec_capacity c.write-2.new.into) c.in_ok-write-2.ensures.ok c.write-2.ensures.capacity c.write_both-2.ensures.room)))

pub returns-clause-capacity : goal.returns-clause-capacity
returns-clause-capacity c =
    omega (arith, c.write.ensures.capacity, c.write_both.ensures.capacity, c.write-2.ensures.capacity, c.write_both-2.ensures.capacity)
