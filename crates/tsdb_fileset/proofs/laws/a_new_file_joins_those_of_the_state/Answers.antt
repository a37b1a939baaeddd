use Rattle.tsdb_fileset.proofs.Joining.{enlisted, sent_out}
use Rattle.tsdb_fileset.proofs.laws.a_new_file_joins_those_of_the_state.Goals as goal

pub returns-clause-outgoing : goal.returns-clause-outgoing
returns-clause-outgoing c files new known state file token are kept free unread sent =
    sent_out files new known state file token are kept free unread sent

pub returns-clause-listed : goal.returns-clause-listed
returns-clause-listed c files new known state space entry token are kept free unread is joined =
    enlisted files new known state space entry token are kept free unread is joined
