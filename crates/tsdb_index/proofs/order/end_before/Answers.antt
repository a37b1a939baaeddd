use Rattle.std.proofs.Common.{refl}
use Rattle.tsdb_index.specs.Entries.{names_of}
use Rattle.tsdb_fields.specs.Order.{AreNamesBefore}
use Rattle.tsdb_index.specs.Parts.{next_names}
use Rattle.tsdb_index.proofs.Orders.{lone_last, no_next}
use Rattle.tsdb_index.proofs.order.end_before.Goals as goal

pub returns-in-empty : goal.returns-in-empty
returns-in-empty c = (λ _. lone_last AreNamesBefore names_of c.args.entries.now (next_names c.args.behind.now) c.requires (no_next c.args.behind.now c.in-empty.len_below), λ _. refl)
