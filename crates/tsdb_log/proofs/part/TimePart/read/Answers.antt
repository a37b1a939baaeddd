use Rattle.std.specs.Prelude.{FitsSigned}
use Rattle.std.specs.Int.{w64}
use Rattle.tsdb_base.specs.Plain.{plain_i64}
use Rattle.tsdb_log.specs.PartLaws.{some_time}
use Rattle.tsdb_log.proofs.Parts.{reads_one}
use Rattle.tsdb_log.proofs.part.TimePart.read.Goals as goal

pub returns : goal.returns
returns c = record { exact = reads_one plain_i64 (FitsSigned w64) c.args.rest (λ v. v) c.read_field.result some_time.0 some_time.1 c.read_field.ensures.exact }
