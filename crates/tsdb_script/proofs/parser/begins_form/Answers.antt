use Rattle.std.proofs.Common.{arith}
use Rattle.std.proofs.lemmas.Grind.{common_steps}
use Rattle.tsdb_script.proofs.parser.begins_form.Goals as goal

pub returns : goal.returns
returns c = grind (arith, common_steps)
