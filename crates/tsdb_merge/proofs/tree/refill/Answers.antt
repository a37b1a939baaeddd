use Rattle.std.proofs.lemmas.List.{reverse-reverse}
use Rattle.tsdb_merge.proofs.tree.refill.Goals as goal

pub returns-clause-moved : goal.returns-clause-moved
returns-clause-moved g c = rw (c.reverse.ensures.items, reverse-reverse) c.in_ok-more.ensures.moved

pub returns-clause-filled : goal.returns-clause-filled
returns-clause-filled g c = rw (c.reverse.ensures.items, reverse-reverse) c.in_ok-more.ensures.filled
