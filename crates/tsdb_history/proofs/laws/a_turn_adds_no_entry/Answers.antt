use Rattle.tsdb_base.specs.Lists.{Among}
use Rattle.tsdb_history.proofs.Turns.{no_more_answered, still_answered}
use Rattle.tsdb_history.proofs.laws.a_turn_adds_no_entry.Goals as goal

pub returns-clause-still : goal.returns-clause-still
returns-clause-still g c = λ loans left first files start entries so_far place stays same serving.
    still_answered g.J.Disk.lawful loans left first c.args._mid.now c.args._new.now files start entries so_far place stays
    same serving

pub returns-clause-put : goal.returns-clause-put
returns-clause-put g c = λ loans left first files start entries so_far place stays numbers since apart served.
    no_more_answered g.J.Disk.lawful loans left first c.args._mid.now c.args._new.now files start entries so_far place stays
    (λ n. Among n numbers) since apart served
