use Rattle.std.proofs.Common.{subst, sym, ◌∙◌}
use Rattle.tsdb_querying.specs.Pinning.{HasRead}
use Rattle.tsdb_querying.proofs.reading.read_pin.Goals as goal

pub returns-then-ask_aggregates-clause-read : goal.returns-then-ask_aggregates-clause-read
returns-then-ask_aggregates-clause-read g c = λ device range world tells map.
    subst (λ reply. HasRead reply c.read_values.result)
    (sym (map.values_are (sym c.ask_aggregates.ensures ∙ c.if-ask_aggregates.true)))
    (c.read_values.ensures.read world tells)

pub returns-clause-read : goal.returns-clause-read
returns-clause-read g c = λ device range world tells map. subst (λ reply. HasRead reply c.read_rows.result)
    (sym (map.rows_are (sym c.ask_aggregates.ensures ∙ c.if-ask_aggregates.false)))
    (c.read_rows.ensures.read world tells)
