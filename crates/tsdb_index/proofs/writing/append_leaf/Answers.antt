use Rattle.std.proofs.Common.{◌≡◌, ◌+◌, ◌++◌, length, rules}
use Rattle.tsdb_index.specs.Spelling.{pointer_field}
use Rattle.tsdb_index.proofs.Leaves.{leaf_written}
use Rattle.tsdb_index.proofs.writing.append_leaf.Goals as goal

pub returns : goal.returns
returns c = record {
  ok =
      let old = c.args.into.now in
      let at : c.in_ok-at.at ≡ c.args.place + length old.bytes.items = search rules in
      let count : c.in_ok-into.field-0 ≡ old.count + 1 = search rules in
      let pointer : c.write_pointer.new.into.items ≡ old.pointers.items ++ pointer_field c.index-leaf-0.result (c.args.place + length old.bytes.items) = rw at at c.in_ok-write_pointer.ensures.ok in
      leaf_written c.write_leaf.result c.args.leaf.now c.args.place old record { bytes = c.write_leaf.new.into; pointers = c.write_pointer.new.into; count = c.in_ok-into.field-0 }
      c.index-leaf-0.result c.requires.some c.index-leaf-0.is pointer count c.write_leaf.ensures.ok;
}
