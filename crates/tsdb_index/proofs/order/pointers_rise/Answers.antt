use Rattle.std.proofs.Common.{refl, arith, rules}
use Rattle.std.proofs.lemmas.Bool.{false≢true}
use Rattle.tsdb_index.specs.Parts.{IsPointerBefore}
use Rattle.tsdb_index.proofs.Orders.{in_order, not_neighbours}
use Rattle.tsdb_index.proofs.order.pointers_rise.Goals as goal

pub returns-then-not-is_pointer_before : goal.returns-then-not-is_pointer_before
returns-then-not-is_pointer_before c =
    let last = c.index-pointers-i.result in
    let next = c.index-pointers-i-in-loop-i.result in (
      λ e. absurd (false≢true e),
      λ order. absurd (not_neighbours IsPointerBefore c.args.pointers.now c.loop-i.i last next (omega arith) (omega arith) c.index-pointers-i.is c.index-pointers-i-in-loop-i.is
          (λ before. let yes = c.is_pointer_before.ensures.1 before in search (rules, yes)) (order)),
    )

pub returns : goal.returns
returns c = (λ _. in_order IsPointerBefore c.args.pointers.now (λ k d l. c.loop-i.invariant k d (omega arith)), λ _. refl)
