use Rattle.tsdb_base.specs.Fields.{type_field}
use Rattle.tsdb_log.specs.PartLaws.{some_type}
use Rattle.tsdb_log.specs.Rows.{IsAny}
use Rattle.tsdb_log.proofs.Parts.{reads_one}
use Rattle.tsdb_log.proofs.part.DataTypePart.read.Goals as goal

pub returns : goal.returns
returns c = record { exact = reads_one type_field IsAny c.args.rest (λ v. v) c.read_field.result some_type.0 some_type.1 c.read_field.ensures.exact }
