use Rattle.tsdb_querying.proofs.reading.read_values.Given as goal

abbrev pub ghosts-fold_columns : goal.ghosts-fold_columns
ghosts-fold_columns g a = record { name = a.blank.name; parts = a.blank.parts }
