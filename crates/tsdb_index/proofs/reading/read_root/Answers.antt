use Rattle.std.proofs.Common.{rules}
use Rattle.tsdb_index.proofs.Roots.{root_is, root_none}
use Rattle.tsdb_index.proofs.reading.read_root.Goals as goal

pub returns-then-not-are_root : goal.returns-then-not-are_root
returns-then-not-are_root c =
    root_none c.args.place c.args.root c.args.bytes.now c.in_ok-pointers.pointers.items c.in_ok-pointers.ensures
    (λ are. let yes = c.are_root.ensures.1 (rw c.deref.ensures.value are) in search (rules, yes))

pub returns : goal.returns
returns c =
    let yes = rw c.deref.ensures.value at c.are_root.ensures.0 (search rules) in
    root_is c.args.place c.args.root c.args.bytes.now c.in_ok-pointers.pointers.items c.in_ok-pointers.ensures yes
