use Rattle.std.proofs.Common.{◌≡◌, ◌-◌, List, length, subst}
use Rattle.tsdb_base.specs.declared.ids.FileNumber.{FileNumber}
use Rattle.tsdb_tasks.proofs.Given.{given_up}
use Rattle.tsdb_tasks.specs.Ending.{FreesLate}
use Rattle.tsdb_tasks.specs.Inputs.{input_numbers}
use Rattle.tsdb_pin.specs.Changes.{GivesRights}
use Rattle.tsdb_tasks.proofs.ending.give_up.Goals as goal

pub returns : goal.returns
returns g c = given_up c.args.files.now c.free_late.new.files c.give_back_inputs.new.files c.end_output.new.files
    c.free_outgoing.new.self c.args.job _ c.requires.out.some
    (subst (λ (numbers : List FileNumber). FreesLate numbers c.args.files.now c.free_late.new.files) c.items.ensures
    c.free_late.ensures)
    (subst (λ inputs. GivesRights (input_numbers inputs) c.free_late.new.files c.give_back_inputs.new.files)
    c.into_vec.ensures c.give_back_inputs.ensures)
    c.end_output.ensures
    (subst (λ inputs. c.free_outgoing.new.self ≡ record c.end_output.new.files {
      spare = record c.end_output.new.files.spare {
        outgoing = c.end_output.new.files.spare.outgoing - (length inputs - 1);
      };
    }) c.items-count.ensures c.free_outgoing.ensures)
