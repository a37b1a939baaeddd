use Rattle.tsdb_history.proofs.Turns.{still_more}
use Rattle.tsdb_history.proofs.laws.a_turn_adds_an_entry.Goals as goal

pub returns : goal.returns
returns g c = λ loans left first files start entries so_far place stays same serving command reply full none allowed.
    still_more g.J.Disk.lawful loans left first c.args._mid.now c.args._new.now files start entries so_far place stays same
    serving command reply full none allowed
