use Rattle.std.proofs.Common.{rules}
use Rattle.std.specs.Prelude.{None, Some}
use Rattle.tsdb_streams.proofs.Leaving.{leaves_none, leaves_ok, nothing_true}
use Rattle.tsdb_streams.proofs.WalkFacts.{ended, stays, took}
use Rattle.tsdb_streams.proofs.walking.pull_from.Goals as goal

pub returns-in_default-clause-next : goal.returns-in_default-clause-next
returns-in_default-clause-next g c = λ pages truth. ended c.args.root.now _ _ c.in_default.not-Some

pub returns-in_default-clause-leaves : goal.returns-in_default-clause-leaves
returns-in_default-clause-leaves g c = leaves_none g.P.Right.ReadRight.file _ _ _ _ c.requires.of

pub returns-in-Ok-Some-clause-next : goal.returns-in-Ok-Some-clause-next
returns-in-Ok-Some-clause-next g c = λ pages truth. took c.args.root.now c.in-Some.node c.pull_root.new.root _ _ _ _ _ (Some c.in-Ok-Some.point) c.in-Some.is (search rules) (c.in-Ok-Some.ensures.pulled pages truth)

pub returns-in-Ok-Some-clause-tree : goal.returns-in-Ok-Some-clause-tree
returns-in-Ok-Some-clause-tree g c = stays _ _ c.args.root.now c.in-Some.node c.pull_root.new.root _ _ _ _ _ c.in-Ok-Some.ensures.sources c.in-Some.is c.requires.tree (c.in-Ok-Some.ensures.pulled (λ _. None) (nothing_true g.P.Right.ReadRight.file c.args.list.now.items))

pub returns-in-Ok-Some-clause-leaves : goal.returns-in-Ok-Some-clause-leaves
returns-in-Ok-Some-clause-leaves g c = leaves_ok g.P.Right.ReadRight.file _ _ _ _ _ _ _ _ c.in-Ok-Some.ensures.leaves

pub returns-in-Ok-None-clause-next : goal.returns-in-Ok-None-clause-next
returns-in-Ok-None-clause-next g c = λ pages truth. took c.args.root.now c.in-Some.node c.pull_root.new.root _ _ _ _ _ None c.in-Some.is (search rules) (c.in-Ok-None.ensures.pulled pages truth)

pub returns-in-Ok-None-clause-tree : goal.returns-in-Ok-None-clause-tree
returns-in-Ok-None-clause-tree g c = tt

pub returns-in-Ok-None-clause-leaves : goal.returns-in-Ok-None-clause-leaves
returns-in-Ok-None-clause-leaves g c = leaves_ok g.P.Right.ReadRight.file _ _ _ _ _ _ _ _ c.in-Ok-None.ensures.leaves

pub returns-in-Err-clause-tree : goal.returns-in-Err-clause-tree
returns-in-Err-clause-tree g c = tt

pub returns-in-Err-clause-leaves : goal.returns-in-Err-clause-leaves
returns-in-Err-clause-leaves g c = c.in-Err.ensures.leaves
