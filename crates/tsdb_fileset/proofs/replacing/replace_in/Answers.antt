use Rattle.std.proofs.Common.{rules}
use Rattle.tsdb_fileset.proofs.Replaced.{put_back}
use Rattle.tsdb_fileset.proofs.replacing.replace_in.Goals as goal

pub returns-in-Some : goal.returns-in-Some
returns-in-Some c = record {
  items = put_back c.args.run c.args.entry c.in-Some.entry c.args.list.now.items c.take_out.new.list.items
      c.put_in.new.list.items (search rules) c.requires.within c.take_out.ensures.items c.put_in.ensures.items;
  len = search rules;
  capacity = search rules;
  out_items = search rules;
  out_len = search rules;
  out_capacity = search rules;
}
