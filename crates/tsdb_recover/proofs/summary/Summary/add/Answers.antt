use Rattle.std.proofs.Common.{rules}
use Rattle.tsdb_recover.proofs.Summaries.{summary_more}
use Rattle.tsdb_recover.proofs.summary.Summary.add.Goals as goal

pub returns : goal.returns
returns c = λ part filled says before is.
    summary_more part filled c.args.entry.now c.args.self.now _ says before is (search rules)
    c.in_ok-add_hull.ensures c.in_ok-add_path.ensures
