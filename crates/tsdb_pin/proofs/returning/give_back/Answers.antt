use Rattle.std.proofs.Common.{subst}
use Rattle.tsdb_pin.proofs.Pinned.{files_unpinned}
use Rattle.tsdb_pin.specs.Changes.{GivesRights, column_numbers}
use Rattle.tsdb_pin.proofs.returning.give_back.Goals as goal

pub returns-clause-state : goal.returns-clause-state
returns-clause-state g c = files_unpinned c.args.files.now c.give_back_columns.new.files c.args.pin
    (subst (λ l. GivesRights (column_numbers l) c.args.files.now c.give_back_columns.new.files) c.into_vec.ensures
    c.give_back_columns.ensures)
