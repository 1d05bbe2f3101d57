use Rattle.idb_cursors.proofs.cursor.Cursor.iterate.Given as goal

abbrev pub ghosts-iterate_by : goal.ghosts-iterate_by
ghosts-iterate_by g a = record { name = a.blank.name; parts = a.blank.parts }
