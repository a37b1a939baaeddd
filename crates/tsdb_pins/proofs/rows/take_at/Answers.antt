use Rattle.std.proofs.Common.{rules, refl}
use Rattle.tsdb_pins.specs.Rows.{BeginsAt}
use Rattle.tsdb_pins.proofs.RowLemmas.{not_empty, take_first}
use Rattle.tsdb_pins.proofs.rows.take_at.Goals as goal

pub returns-in-Some : goal.returns-in-Some
returns-in-Some c =
    let begins : BeginsAt c.args.time c.args.column.now.items = search rules in
    take_first _ _ _ _ _ begins c.pop_front.ensures.items c.in-Some.is

pub returns-in-None : goal.returns-in-None
returns-in-None c =
    let begins : BeginsAt c.args.time c.args.column.now.items = search rules in
    let some = not_empty c.args.column.now.items c.args.time begins in
    absurd (search (rules, some))

pub returns-then-not-begins_at : goal.returns-then-not-begins_at
returns-then-not-begins_at c = (refl, λ begins. search (rules, begins))
