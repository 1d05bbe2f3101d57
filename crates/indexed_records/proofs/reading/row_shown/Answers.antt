use Rattle.indexed_records.proofs.reading.row_shown.Goals as goal

pub returns-in-Some : goal.returns-in-Some
returns-in-Some g c = c.in-Some.ensures
