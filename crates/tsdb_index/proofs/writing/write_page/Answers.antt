use Rattle.tsdb_base.specs.Fields.{number64}
use Rattle.tsdb_fields.specs.Statistics.{stats_field}
use Rattle.tsdb_fields.proofs.Appending.{both_written}
use Rattle.tsdb_index.proofs.writing.write_page.Goals as goal

pub returns : goal.returns
returns c = record {
  ok = both_written c.write_stats.result c.args.into.now.items (number64 c.args.page.now.place) (stats_field c.args.page.now.stats)
      c.put.new.into.items c.write_stats.new.into.items c.in_ok-put.ensures.ok c.write_stats.ensures.ok;
}
