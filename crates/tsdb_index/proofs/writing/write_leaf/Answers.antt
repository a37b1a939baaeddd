use Rattle.std.proofs.Common.{[], ◌∷◌, ◌++◌, length}
use Rattle.std.specs.List.{flat_map}
use Rattle.tsdb_base.specs.Fields.{number16}
use Rattle.tsdb_fields.proofs.Appending.{both_written}
use Rattle.tsdb_index.specs.declared.marks.TheConstants.{LEAF}
use Rattle.tsdb_index.specs.Spelling.{entry_field}
use Rattle.tsdb_index.proofs.writing.write_leaf.Goals as goal

pub returns : goal.returns
returns c = record {
  ok =
      let leaf = c.args.leaf.now in
      let r = c.write_entries.result in
      let number = number16 (length leaf) in
      let entries = flat_map entry_field leaf in
      let last = c.write_entries.new.into.items in
      both_written r c.args.into.now.items (LEAF ∷ []) (number ++ entries) c.push.new.self.items last c.in_ok-push.ensures.items
      (both_written r c.push.new.self.items number entries c.put.new.into.items last c.in_ok-put.ensures.ok c.write_entries.ensures.ok);
}
