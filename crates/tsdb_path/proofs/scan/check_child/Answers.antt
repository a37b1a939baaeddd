use Rattle.std.proofs.Common.{◌≡◌, ◌≢◌, ◌≤◌, ◌+◌, length, arith, rules}
use Rattle.std.proofs.lemmas.Grind.{common_steps}
use Rattle.tsdb_path.specs.declared.fault.PathFault.TheVariants.{TooLong}
use Rattle.tsdb_path.specs.Nodes.{node_count}
use Rattle.tsdb_path.proofs.Reasons.{child_full, child_fits, child_as_path}
use Rattle.tsdb_path.proofs.scan.check_child.Goals as goal

pub returns-clause-ok : goal.returns-clause-ok
returns-clause-ok c =
    let short : length c.args.path.now + 1 + length c.args.name.now ≤ 255 = omega arith in
    let room : node_count c.args.path.now ≢ 16 = search rules in
    child_fits c.args.path.now c.args.name.now c.requires.path c.requires.name short room

pub returns-then-count_nodes-clause-as_read : goal.returns-then-count_nodes-clause-as_read
returns-then-count_nodes-clause-as_read c =
    let short : length c.args.path.now + 1 + length c.args.name.now ≤ 255 = omega arith in
    let full : node_count c.args.path.now ≡ 16 = search rules in
    child_as_path c.args.path.now c.args.name.now (TooLong (length c.args.path.now + 1)) c.requires.path c.requires.name.node
    (child_full c.args.path.now c.args.name.now short full)

pub returns-then-count_nodes-clause-err : goal.returns-then-count_nodes-clause-err
returns-then-count_nodes-clause-err c = grind (arith, common_steps)

pub returns-then-path-name-gt-MAX_BYTES-clause-err : goal.returns-then-path-name-gt-MAX_BYTES-clause-err
returns-then-path-name-gt-MAX_BYTES-clause-err c = grind (arith, common_steps)

pub returns-then-path-name-gt-MAX_BYTES-clause-as_read : goal.returns-then-path-name-gt-MAX_BYTES-clause-as_read
returns-then-path-name-gt-MAX_BYTES-clause-as_read c = grind (arith, common_steps)
