use Rattle.tsdb_base.specs.Fields.{encoding_field}
use Rattle.tsdb_log.specs.PartLaws.{some_encoding}
use Rattle.tsdb_log.specs.Rows.{IsAny}
use Rattle.tsdb_log.proofs.Parts.{reads_one}
use Rattle.tsdb_log.proofs.part.EncodingPart.read.Goals as goal

pub returns : goal.returns
returns c = record { exact = reads_one encoding_field IsAny c.args.rest (λ v. v) c.read_field.result some_encoding.0 some_encoding.1 c.read_field.ensures.exact }
