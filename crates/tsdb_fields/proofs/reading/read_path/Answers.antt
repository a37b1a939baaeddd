use Rattle.std.proofs.Common.{◌≤◌, length, arith}
use Rattle.tsdb_path.specs.Nodes.{IsPath}
use Rattle.tsdb_fields.proofs.Counted.{refused}
use Rattle.tsdb_fields.proofs.reading.read_path.Goals as goal

pub returns-in-Err : goal.returns-in-Err
returns-in-Err c = record {
  exact = refused IsPath (λ x. x) c.args.rest c.in_ok-bytes.behind c.in_ok-bytes.bytes.now c.in-Err.fault c.field_fault.result
      c.in_ok-bytes.ensures.exact.0 c.in_ok-bytes.ensures.exact.1 (λ f is. let short : length f ≤ 255 = is.1.short in omega arith) c.in-Err.ensures.good c.field_fault.ensures.memory c.field_fault.ensures.bad;
}
