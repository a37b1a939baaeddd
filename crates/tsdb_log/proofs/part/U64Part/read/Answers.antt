use Rattle.tsdb_base.specs.Fields.{number64}
use Rattle.tsdb_log.specs.PartLaws.{some_number}
use Rattle.tsdb_log.specs.Rows.{IsNumber64}
use Rattle.tsdb_log.proofs.Parts.{reads_one}
use Rattle.tsdb_log.proofs.part.U64Part.read.Goals as goal

pub returns : goal.returns
returns c = record { exact = reads_one number64 IsNumber64 c.args.rest (λ v. v) c.read_field.result some_number.0 some_number.1 c.read_field.ensures.exact }
