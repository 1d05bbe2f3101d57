use Rattle.table_tests.proofs.idb_cursors_tests.a_hundred_thousand_rows_of_one_key.Given as goal

abbrev pub ghosts-count_visited : goal.ghosts-count_visited
ghosts-count_visited g a = record { name = a.blank.name; parts = a.blank.parts }
