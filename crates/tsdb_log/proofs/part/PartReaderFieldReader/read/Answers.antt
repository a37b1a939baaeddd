use Rattle.tsdb_log.proofs.Faults.{reads_row}
use Rattle.tsdb_log.proofs.part.PartReaderFieldReader.read.Goals as goal

pub returns : goal.returns
returns g c = record { exact = reads_row g.T.Part.fields g.T.Part.is_part c.args.rest (λ v. v) c.read.result c.read.ensures.exact }
