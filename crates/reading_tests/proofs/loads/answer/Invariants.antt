use Rattle.reading_tests.proofs.loads.answer.Given as goal

abbrev pub ghosts-answer_with-K-Ledger : goal.ghosts-answer_with-K-Ledger
ghosts-answer_with-K-Ledger a = record { name = a.own.name; parts = a.own.parts }

abbrev pub ghosts-answer_with-L-Ledger : goal.ghosts-answer_with-L-Ledger
ghosts-answer_with-L-Ledger a = record { name = a.blank.name; parts = a.blank.parts }
