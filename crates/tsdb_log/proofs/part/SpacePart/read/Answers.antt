use Rattle.tsdb_log.specs.PartLaws.{some_space}
use Rattle.tsdb_log.specs.Rows.{IsAny}
use Rattle.tsdb_log.specs.Spelling.{space_field}
use Rattle.tsdb_log.proofs.Parts.{reads_one}
use Rattle.tsdb_log.proofs.part.SpacePart.read.Goals as goal

pub returns : goal.returns
returns c = record { exact = reads_one space_field IsAny c.args.rest (λ v. v) c.read_space.result some_space.0 some_space.1 c.read_space.ensures.exact }
