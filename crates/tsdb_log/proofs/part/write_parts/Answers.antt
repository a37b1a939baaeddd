use Rattle.std.proofs.Common.{subst, rules, arith, ◌≡◌, ◌++◌, sym}
use Rattle.std.specs.Vec.{vec_capacity}
use Rattle.std.proofs.lemmas.List.Elements.{All-more}
use Rattle.std.specs.Prelude.{All}
use Rattle.std.specs.List.{flat_map}
use Rattle.std.proofs.lemmas.List.{append-nil, take_all}
use Rattle.tsdb_log.specs.Spelling.{joined_fields}
use Rattle.tsdb_log.proofs.Parts.{always_on_err, no_room_part}
use Rattle.tsdb_log.proofs.Wholes.{row_more}
use Rattle.tsdb_log.proofs.part.write_parts.Goals as goal

pub returns-in_err-write-clause-room : goal.returns-in_err-write-clause-room
returns-in_err-write-clause-room g c = always_on_err c.from_residual.result
    (no_room_part g.T.Part.fields c.args.parts.now c.loop-part.part-index c.part-item.result (vec_capacity c.args.into.now) (vec_capacity c.loop-part.into)
    c.args.into.now.items c.loop-part.into.items c.loop-part-test.true c.part-item.is c.loop-part.invariant.capacity c.loop-part.invariant.bytes
    c.in_err-write.ensures.room)

pub loop-part-preserved : goal.loop-part-preserved
loop-part-preserved g c =
    let parts = c.args.parts.now in
    let i = c.loop-part.part-index in
    let item = c.part-item.result in
    record {
      are = All-more g.T.Part.is_part parts i item c.loop-part-test.true c.loop-part.invariant.are (subst (λ x. g.T.Part.is_part x) c.part-item.is c.in_ok-write.ensures.is);
      bytes = row_more g.T.Part.fields parts i item c.args.into.now.items c.loop-part.into.items c.write.new.into.items
          c.loop-part-test.true c.part-item.is c.loop-part.invariant.bytes c.in_ok-write.ensures.ok;
      capacity = omega (arith, c.loop-part.invariant.capacity, c.write.ensures.capacity);
    }

pub returns-in_err-write-clause-capacity : goal.returns-in_err-write-clause-capacity
returns-in_err-write-clause-capacity g c = omega (arith, c.loop-part.invariant.capacity, c.write.ensures.capacity)

pub loop-part-init : goal.loop-part-init
loop-part-init g c = record { are = search rules; bytes = sym (append-nil c.args.into.now.items); capacity = omega arith }

pub returns-clause-ok : goal.returns-clause-ok
returns-clause-ok g c =
    let row = g.T.Part.fields in
    subst (λ parts. c.loop-part.into.items ≡ c.args.into.now.items ++ joined_fields (flat_map row parts))
    (take_all c.loop-part.part-index c.args.parts.now c.loop-part-test.false) c.loop-part.invariant.bytes

pub returns-clause-are : goal.returns-clause-are
returns-clause-are g c =
    subst (λ parts. All g.T.Part.is_part parts) (take_all c.loop-part.part-index c.args.parts.now c.loop-part-test.false) c.loop-part.invariant.are

pub returns-clause-capacity : goal.returns-clause-capacity
returns-clause-capacity g c = c.loop-part.invariant.capacity
