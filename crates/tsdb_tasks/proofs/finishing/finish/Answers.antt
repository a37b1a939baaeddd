use Rattle.std.proofs.Common.{arith, ap, subst}
use Rattle.tsdb_tasks.proofs.Finished.{both_long, finished}
use Rattle.tsdb_tasks.specs.Inputs.{input_numbers}
use Rattle.tsdb_fileset.specs.declared.room.Spare.{Spare}
use Rattle.tsdb_pin.specs.Changes.{GivesRights}
use Rattle.tsdb_tasks.proofs.finishing.finish.Goals as goal

pub replace-requires-clause-outgoing : goal.replace-requires-clause-outgoing
replace-requires-clause-outgoing g c = λ κs within.
    let long = both_long c.args.runs.sequence c.args.runs.unsequence c.args.job.sequence c.args.job.unsequence
    c.args.files.now.sequence c.args.files.now.unsequence _ c.requires.runs.sequence c.requires.runs.unsequence
    c.requires.all in
    let same = ap (λ (s : Spare). s.outgoing) c.give_back_inputs.ensures.room in
    omega (arith, long, same, c.requires.out.outgoing)

pub returns : goal.returns
returns g c = finished c.args.files.now c.give_back_inputs.new.files c.replace.new.self c.args.job c.args.runs
    c.args.output _
    (subst (λ inputs. GivesRights (input_numbers inputs) c.args.files.now c.give_back_inputs.new.files)
    c.into_vec.ensures c.give_back_inputs.ensures)
    (both_long c.args.runs.sequence c.args.runs.unsequence c.args.job.sequence c.args.job.unsequence
    c.args.files.now.sequence c.args.files.now.unsequence _ c.requires.runs.sequence c.requires.runs.unsequence
    c.requires.all)
    c.replace.ensures.lists c.replace.ensures.file c.replace.ensures.others c.replace.ensures.room
