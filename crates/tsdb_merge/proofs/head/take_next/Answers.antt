use Rattle.std.proofs.Common.{rules}
use Rattle.tsdb_merge.proofs.ReadLemmas.{low_alone}
use Rattle.tsdb_merge.proofs.head.take_next.Goals as goal

pub returns-in-Some-None : goal.returns-in-Some-None
returns-in-Some-None c = low_alone c.args.low.now c.replace-in-Some-None.new.dest c.args.high.now c.replace-in-Some-None.result c.requires.low (search rules) (search rules) (search rules)
