use Rattle.std.proofs.Common.{refl}
use Rattle.tsdb_merge.specs.declared.head.Head.TheVariants.{Unread}
use Rattle.tsdb_merge.proofs.Pulls.{cause_ok}
use Rattle.tsdb_merge.proofs.TreeLemmas.{pulled}
use Rattle.tsdb_merge.proofs.lazy.pull_root.Goals as goal

pub returns : goal.returns
returns g c = record {
  pulled = pulled c.args.root.now c.read_ahead.new.node _ _ _ _ Unread c.read_ahead.new.head c.into_point.result refl c.in_ok-read_ahead.ensures.ahead c.into_point.ensures;
  lists = c.in_ok-read_ahead.ensures.sources;
  kept = c.in_ok-read_ahead.ensures.kept;
  cause = cause_ok _ _ _ _ _ _ c.in_ok-read_ahead.ensures.cause;
}
