use Rattle.std.proofs.Common.{◌≡◌, ◌++◌, ap, ◌∙◌, length, rules}
use Rattle.std.specs.List.{flat_map}
use Rattle.tsdb_base.specs.Fields.{number32, number64, type_field, encoding_field}
use Rattle.tsdb_base.specs.Plain.{plain_text}
use Rattle.tsdb_fields.specs.Statistics.{stats_field}
use Rattle.tsdb_fields.proofs.Appending.{both_written}
use Rattle.tsdb_index.specs.Spelling.{page_entry_field}
use Rattle.tsdb_index.proofs.Leaves.{written_behind}
use Rattle.tsdb_index.proofs.writing.write_entry.Goals as goal

pub returns : goal.returns
returns c = record {
  ok =
      let e = c.args.entry.now in
      let r = c.write_pages.result in
      let new = c.write_pages.new.into.items in
      let count : c.in-Ok.pages ≡ length e.pages = search rules in
      let old = c.args.into.now.items in
      let to_name = plain_text e.device ++ plain_text e.measurement in
      let to_type = to_name ++ type_field e.data_type in
      let to_encoding = to_type ++ encoding_field e.encoding in
      let to_place = to_encoding ++ number64 e.place in
      let to_stats = to_place ++ stats_field e.stats in
      let name = written_behind old (plain_text e.device) (plain_text e.measurement) c.write_path.new.into.items c.write_name.new.into.items c.in_ok-write_path.ensures.ok c.in_ok-write_name.ensures.ok in
      let kind = written_behind old to_name (type_field e.data_type) c.write_name.new.into.items c.put.new.into.items name c.in_ok-put.ensures.ok in
      let encoding = written_behind old to_type (encoding_field e.encoding) c.put.new.into.items c.put-2.new.into.items kind c.in_ok-put-2.ensures.ok in
      let place = written_behind old to_encoding (number64 e.place) c.put-2.new.into.items c.put-3.new.into.items encoding c.in_ok-put-3.ensures.ok in
      let stats = written_behind old to_place (stats_field e.stats) c.put-3.new.into.items c.write_stats.new.into.items place c.in_ok-write_stats.ensures.ok in
      let number = written_behind old to_stats (number32 (length e.pages)) c.write_stats.new.into.items c.put-4.new.into.items stats
      (c.in_ok-put-4.ensures.ok ∙ ap (λ n. c.write_stats.new.into.items ++ number32 n) count) in
      both_written r old (to_stats ++ number32 (length e.pages)) (flat_map page_entry_field e.pages) c.put-4.new.into.items new number (rw c.items-2.ensures at c.write_pages.ensures.ok);
}
