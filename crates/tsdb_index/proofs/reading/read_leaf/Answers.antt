use Rattle.std.proofs.Common.{rules}
use Rattle.tsdb_index.proofs.Roots.{leaf_is, leaf_none}
use Rattle.tsdb_index.proofs.reading.read_leaf.Goals as goal

pub returns-then-not-are_leaf : goal.returns-then-not-are_leaf
returns-then-not-are_leaf c =
    leaf_none c.args.version c.args.pointer.now c.args.behind.now c.args.bytes.now c.in_ok-entries.entries.items c.in_ok-entries.ensures
    (λ are. let yes = c.are_leaf.ensures.1 (rw c.deref.ensures.value are) in search (rules, yes))

pub returns : goal.returns
returns c =
    let yes = rw c.deref.ensures.value at c.are_leaf.ensures.0 (search rules) in
    leaf_is c.args.version c.args.pointer.now c.args.behind.now c.args.bytes.now c.in_ok-entries.entries.items c.in_ok-entries.ensures yes
