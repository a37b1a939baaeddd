use Rattle.std.proofs.Common.{ap}
use Rattle.tsdb_inner.proofs.Opened.{ok_both}
use Rattle.tsdb_inner.proofs.inputs.open_input.Goals as goal

pub returns-clause-opened : goal.returns-clause-opened
returns-clause-opened g c =
    ok_both _ _ _ (λ file is indexed. ((ap (λ r. r.now) is.0, is.1), indexed)) c.open_index.result c.open_index.ensures.file c.open_index.ensures.indexed
