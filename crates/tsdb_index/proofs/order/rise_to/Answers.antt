use Rattle.std.proofs.lemmas.Bool.{false≢true}
use Rattle.tsdb_index.specs.Entries.{names_of}
use Rattle.tsdb_fields.specs.Order.{AreNamesBefore}
use Rattle.tsdb_index.specs.Parts.{next_names}
use Rattle.tsdb_index.proofs.Orders.{end_in_order, order_from_end, order_left}
use Rattle.std.proofs.Common.{map, sym, ◌∙◌}
use Rattle.tsdb_index.proofs.order.rise_to.Goals as goal

pub returns-then-entries_rise : goal.returns-then-entries_rise
returns-then-entries_rise c =
    let es = c.args.entries.now in
    let next = next_names c.args.behind.now in (
      λ end. order_from_end AreNamesBefore names_of es next c.requires (c.entries_rise.ensures.0 c.if-entries_rise.true) (c.end_before.ensures.0 end),
      λ order. c.end_before.ensures.1 (end_in_order AreNamesBefore names_of es next c.requires order),
    )

pub returns-else-entries_rise : goal.returns-else-entries_rise
returns-else-entries_rise c =
    let es = c.args.entries.now in
    let next = next_names c.args.behind.now in
    (λ e. absurd (false≢true (sym c.if-entries_rise.false ∙ e)), λ order. let yes = c.entries_rise.ensures.1 (order_left AreNamesBefore (map names_of es) next order) in absurd (false≢true (sym c.if-entries_rise.false ∙ yes)))
