use Rattle.std.proofs.Common.{refl}
use Rattle.std.proofs.lemmas.Result.{err_from_is_err_and}
use Rattle.tsdb_merge.specs.declared.head.Head.TheVariants.{Unread}
use Rattle.tsdb_merge.proofs.TreeLemmas.{pulled}
use Rattle.tsdb_streams.proofs.Leaving.{leaves_fault, leaves_ok}
use Rattle.tsdb_streams.proofs.walking.pull_root.Goals as goal

pub returns : goal.returns
returns g c = record {
  pulled = λ pages truth. pulled c.args.root.now c.read_ahead.new.node _ _ _ _ Unread c.read_ahead.new.head c.into_point.result refl (c.in_ok-read_ahead.ensures.ahead pages truth) c.into_point.ensures;
  sources = c.in_ok-read_ahead.ensures.sources;
  leaves = leaves_ok g.P.Right.ReadRight.file _ _ _ _ _ _ _ _ c.in_ok-read_ahead.ensures.leaves;
}

pub returns-in_err-read_ahead-clause-leaves : goal.returns-in_err-read_ahead-clause-leaves
returns-in_err-read_ahead-clause-leaves g c =
    let p = err_from_is_err_and c.from_residual.result c.from_residual.ensures.1 in
    rw (p.1, p.2) (leaves_fault g.P.Right.ReadRight.file _ _ _ _ _ _ c.in_err-read_ahead.field-0.0 c.in_err-read_ahead.ensures.leaves)
