use Rattle.std.proofs.Common.{refl, arith, rules}
use Rattle.std.proofs.lemmas.Bool.{false≢true}
use Rattle.tsdb_index.specs.declared.index.IndexEntry.{IndexEntry}
use Rattle.tsdb_index.specs.Entries.{names_of}
use Rattle.tsdb_fields.specs.Order.{AreNamesBefore}
use Rattle.tsdb_index.proofs.Orders.{in_order, not_neighbours, order_map, order_of_map}
use Rattle.tsdb_index.proofs.order.entries_rise.Goals as goal

pub returns-then-not-is_before : goal.returns-then-not-is_before
returns-then-not-is_before c =
    let last = c.index-entries-i.result in
    let next = c.index-entries-i-in-loop-i.result in (
      λ e. absurd (false≢true e),
      λ order. absurd (not_neighbours (λ (a b : IndexEntry). AreNamesBefore (names_of a) (names_of b)) c.args.entries.now c.loop-i.i last next (omega arith) (omega arith) c.index-entries-i.is c.index-entries-i-in-loop-i.is
          (λ before. let yes = c.is_before.ensures.1 before in search (rules, yes)) (order_of_map AreNamesBefore names_of c.args.entries.now order)),
    )

pub returns : goal.returns
returns c = (λ _. order_map AreNamesBefore names_of c.args.entries.now (in_order (λ (a b : IndexEntry). AreNamesBefore (names_of a) (names_of b)) c.args.entries.now (λ k d l. c.loop-i.invariant k d (omega arith))), λ _. refl)
