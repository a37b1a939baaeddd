use Rattle.std.proofs.Common.{rules, ◌≡◌, ◌<◌, length}
use Rattle.tsdb_marks.proofs.ModelLemmas.{none-old, no-mark}
use Rattle.tsdb_marks.proofs.marks.has_old.Goals as goal

pub returns-in-Some : goal.returns-in-Some
returns-in-Some c = λ new.
    let newer : c.args.version < c.in-Some.mark.now.version.0 = search rules in
    none-old c.args.version c.args.marks.now c.in-Some.mark.now c.requires c.in-Some.ensures.item.3.0 c.in-Some.ensures.item.1 newer

pub returns-in-None : goal.returns-in-None
returns-in-None c = λ new.
    let none : length c.args.marks.now ≡ 0 = search rules in
    no-mark c.args.version c.args.marks.now none
