use Rattle.std.proofs.Common.{Vec, Global}
use Rattle.tsdb_log.proofs.Faults.{reads_rows}
use Rattle.tsdb_log.proofs.part.read_parts.Goals as goal

pub returns : goal.returns
returns g c = record {
  exact = reads_rows g.T.Part.fields g.T.Part.is_part g.met.T.Part.rows c.args.count c.args.rest (λ (vs : Vec _ Global). vs.items) c.read_fields.result c.read_fields.ensures.exact;
}
