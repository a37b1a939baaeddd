use Rattle.reading_tests.proofs.asking.answer_of.Given as goal

abbrev pub ghosts-fold : goal.ghosts-fold
ghosts-fold g a = record { name = a.blank.name; parts = a.blank.parts }
