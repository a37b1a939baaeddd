use Rattle.std.proofs.Common.{arith}
use Rattle.std.proofs.lemmas.Grind.{common_steps}
use Rattle.tsdb_script.specs.declared.syntax.Syntax.TheVariants.{Select}
use Rattle.tsdb_script.proofs.MeaningLaws.{well_formed_result}
use Rattle.tsdb_script.proofs.meaning.command_of.Goals as goal

pub returns-in-Select-clause-good : goal.returns-in-Select-clause-good
returns-in-Select-clause-good c =
    let parts = rw c.in-Select.is at c.requires.parts in
    well_formed_result (Select c.in-Select.columns c.in-Select.device c.in-Select.conditions) c.select.result parts c.select.ensures.found

pub returns-in-Insert-clause-good : goal.returns-in-Insert-clause-good
returns-in-Insert-clause-good c = grind (arith, common_steps)
