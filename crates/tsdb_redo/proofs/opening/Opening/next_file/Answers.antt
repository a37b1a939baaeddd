use Rattle.std.proofs.Common.{◌∙◌, ap}
use Rattle.std.specs.Prelude.{◌+◌}
use Rattle.tsdb_redo.proofs.Greatest.{greatest_is, next_is}
use Rattle.tsdb_redo.proofs.opening.Opening.next_file.Goals as goal

pub returns-clause-number : goal.returns-clause-number
returns-clause-number c = λ recorded is.
    ap (λ n. n + 1) c.greater.ensures.number
    ∙ next_is c.args.stored recorded.named c.greatest.result
    (greatest_is c.args.self.now.named recorded.named c.greatest.result is.named c.greatest.ensures.number)
