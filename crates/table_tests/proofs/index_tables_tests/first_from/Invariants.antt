use Rattle.table_tests.proofs.index_tables_tests.first_from.Given as goal

abbrev pub ghosts-first_by : goal.ghosts-first_by
ghosts-first_by g a = record { name = a.blank.name; parts = a.blank.parts }
