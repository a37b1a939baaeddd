use Rattle.tsdb_base.specs.Plain.{plain_text}
use Rattle.tsdb_path.specs.Nodes.{IsPath}
use Rattle.tsdb_log.specs.PartLaws.{some_path}
use Rattle.tsdb_log.proofs.Parts.{reads_one}
use Rattle.tsdb_log.proofs.part.PathPart.read.Goals as goal

pub returns : goal.returns
returns c = record { exact = reads_one plain_text IsPath c.args.rest (λ v. v) c.read_path.result some_path.0 some_path.1 c.read_path.ensures.exact }
