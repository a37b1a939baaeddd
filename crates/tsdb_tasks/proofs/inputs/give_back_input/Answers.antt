use Rattle.tsdb_pin.proofs.Changing.{gives_one}
use Rattle.tsdb_tasks.proofs.inputs.give_back_input.Goals as goal

pub returns : goal.returns
returns g c = gives_one c.args.input.number.0 c.args.files.now c.give_back.new.self c.give_back.ensures.file
    c.give_back.ensures.others c.give_back.ensures.lists c.give_back.ensures.room
