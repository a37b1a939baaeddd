use Rattle.tsdb_core.proofs.Loans.{on_columns}
use Rattle.tsdb_core.proofs.LoansOut.{pin_held}
use Rattle.tsdb_core.proofs.laws.a_kept_pin_is_held.Goals as goal

pub returns-clause-rights : goal.returns-clause-rights
returns-clause-rights g c = on_columns g.F.Right.ReadRight.file c.args._pin.now

pub returns-clause-held : goal.returns-clause-held
returns-clause-held g c = pin_held g.F.Right.ReadRight.file c.args._core.now c.args._pin.now
