use Rattle.std.proofs.Common.{rules, refl, sym, ◌∙◌}
use Rattle.tsdb_plan.proofs.Walk.{rest, head_and_rest, walk_less, walk_greater, walk_equal, walk_found}
use Rattle.tsdb_plan.proofs.overlap.reaches.Goals as goal

pub returns-then-ends_from : goal.returns-then-ends_from
returns-then-ends_from c =
    let xs = c.loop-xs.xs.now in
    let ys = c.loop-xs.ys.now in
    let x = c.x-item.result in
    let y = c.y-item.result in
    let found = walk_found c.args.late.now c.args.early.now xs ys x y (rest xs) (rest ys) (head_and_rest xs x (search rules) c.x-item.is) (head_and_rest ys y (search rules) c.y-item.is) c.loop-xs.invariant.same (sym c.cmp.ensures ∙ c.in-Equal.is) (search rules) in
    (λ _. found, λ _. refl)

pub loop-xs-preserved-in-Less : goal.loop-xs-preserved-in-Less
loop-xs-preserved-in-Less c =
    let xs = c.loop-xs.xs.now in
    let ys = c.loop-xs.ys.now in
    let x = c.x-item.result in
    let y = c.y-item.result in
    let step = walk_less c.args.late.now c.args.early.now xs ys x y (rest xs) (rest ys) (head_and_rest xs x (search rules) c.x-item.is) (head_and_rest ys y (search rules) c.y-item.is) c.loop-xs.invariant.late c.loop-xs.invariant.early c.loop-xs.invariant.same (sym c.cmp.ensures ∙ c.in-Less.is) in
    record { late = step.0; early = c.loop-xs.invariant.early; same = step.1 }

pub loop-xs-preserved-in-Greater : goal.loop-xs-preserved-in-Greater
loop-xs-preserved-in-Greater c =
    let xs = c.loop-xs.xs.now in
    let ys = c.loop-xs.ys.now in
    let x = c.x-item.result in
    let y = c.y-item.result in
    let step = walk_greater c.args.late.now c.args.early.now xs ys x y (rest xs) (rest ys) (head_and_rest xs x (search rules) c.x-item.is) (head_and_rest ys y (search rules) c.y-item.is) c.loop-xs.invariant.late c.loop-xs.invariant.early c.loop-xs.invariant.same (sym c.cmp.ensures ∙ c.in-Greater.is) in
    record { late = c.loop-xs.invariant.late; early = step.0; same = step.1 }

pub loop-xs-preserved : goal.loop-xs-preserved
loop-xs-preserved c =
    let xs = c.loop-xs.xs.now in
    let ys = c.loop-xs.ys.now in
    let x = c.x-item.result in
    let y = c.y-item.result in
    let step = walk_equal c.args.late.now c.args.early.now xs ys x y (rest xs) (rest ys) (head_and_rest xs x (search rules) c.x-item.is) (head_and_rest ys y (search rules) c.y-item.is) c.loop-xs.invariant.late c.loop-xs.invariant.early c.loop-xs.invariant.same (sym c.cmp.ensures ∙ c.in-Equal.is) (search rules) in
    record { late = step.0; early = step.1; same = step.2 }
