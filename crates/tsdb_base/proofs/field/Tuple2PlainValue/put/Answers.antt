use Rattle.std.proofs.Common.{rules}
use Rattle.tsdb_base.proofs.GrowthLemmas.{grew_behind, grew_within}
use Rattle.tsdb_base.proofs.field.Tuple2PlainValue.put.Goals as goal

pub returns-in_err-put-clause-memory : goal.returns-in_err-put-clause-memory
returns-in_err-put-clause-memory g c =
    let grew = grew_within c.args.into.now.items (g.A.PlainValue.spelling c.args.self.now.0) (g.B.PlainValue.spelling c.args.self.now.1) c.put.new.into.items
    c.in_err-put.ensures.memory in
    search (rules, grew)

pub returns-in_err-put-2-clause-memory : goal.returns-in_err-put-2-clause-memory
returns-in_err-put-2-clause-memory g c =
    let grew = grew_behind c.args.into.now.items (g.A.PlainValue.spelling c.args.self.now.0) (g.B.PlainValue.spelling c.args.self.now.1) c.put.new.into.items c.put-2.new.into.items
    c.in_ok-put.ensures.ok c.in_err-put-2.ensures.memory in
    search (rules, grew)
