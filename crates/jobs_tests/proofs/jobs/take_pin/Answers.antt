use Rattle.tsdb_core.specs.Core.{files_of, logged_of}
use Rattle.tsdb_memory.specs.LogState.{memory_of}
use Rattle.tsdb_pins.proofs.Named.{have_nodes}
use Rattle.jobs_tests.proofs.Out.{pin_refused, pin_taken}
use Rattle.jobs_tests.proofs.jobs.take_pin.Goals as goal

pub returns-in-Ok : goal.returns-in-Ok
returns-in-Ok g c = pin_taken g.F.Right.ReadRight.file c.args.core.now c.pin.new.self c.in-Ok.pin c.in-Ok.ensures.taken
    (have_nodes g.F.Right.ReadRight.file (files_of c.args.core.now) (memory_of (logged_of c.args.core.now)) c.args.device.now
    c.args.range.now c.args.items.now c.in-Ok.pin.columns c.in-Ok.ensures.pin.columns)

pub returns-in-Err : goal.returns-in-Err
returns-in-Err g c = pin_refused g.F.Right.ReadRight.file c.args.core.now c.pin.new.self c.in-Err.ensures.not
