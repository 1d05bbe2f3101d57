use Rattle.sorted_table.proofs.tests.a_thousand_entries_take_eleven_comparisons.Given as goal

abbrev pub ghosts-is_among_a_thousand : goal.ghosts-is_among_a_thousand
ghosts-is_among_a_thousand g a = record { name = a.blank.name; parts = a.blank.parts }
