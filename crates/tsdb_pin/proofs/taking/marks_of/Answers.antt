use Rattle.std.proofs.Common.{◌≡◌, ◌∙◌, subst}
use Rattle.std.specs.Prelude.{IfOk}
use Rattle.std.specs.List.{filter}
use Rattle.tsdb_marks.specs.Lists.{is_of}
use Rattle.tsdb_pin.proofs.Asked.{all_paths, path_added}
use Rattle.tsdb_pin.proofs.taking.marks_of.Goals as goal

pub loop-asked-init : goal.loop-asked-init
loop-asked-init c = c.in_ok-paths.ensures.items

pub loop-asked-preserved : goal.loop-asked-preserved
loop-asked-preserved c = path_added c.args.all.now c.loop-asked.asked-index c.asked-item.result c.in_ok-copy.field-0
    c.loop-asked.paths.items c.push.new.self.items c.loop-asked-test.true c.asked-item.is c.loop-asked.invariant
    c.in_ok-copy.ensures c.in_ok-push.ensures.items

pub returns : goal.returns
returns c = subst (λ l. IfOk c.only.result (λ marks. marks.marks ≡ filter (is_of l) c.args.memory.now.marks.marks))
    (c.deref.ensures.value ∙ all_paths c.args.all.now c.loop-asked.asked-index c.loop-asked.paths.items
    c.loop-asked-test.false c.loop-asked.invariant)
    (subst (λ m. IfOk c.only.result (λ marks. marks.marks ≡ filter (is_of c.deref.result.now) m.marks)) c.marks.ensures
    c.only.ensures)
