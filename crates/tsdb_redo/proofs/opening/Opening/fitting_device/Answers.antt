use Rattle.tsdb_redo.proofs.RowFacts.{no_row}
use Rattle.tsdb_redo.proofs.opening.Opening.fitting_device.Goals as goal

pub returns-then-not-branch-clause-no_replay : goal.returns-then-not-branch-clause-no_replay
returns-then-not-branch-clause-no_replay c = λ is.
    no_row c.args.self.now.memory c.in_ok-device.device c.args.time c.args.cells.now c.in_ok-is_row.field-0
    c.if-not-branch.true c.in_ok-device.ensures.device c.in_ok-is_row.ensures
