-- What posts change.
--     with_note             one note is taken: a post becomes a task
use Rattle.script_runs.specs.declared.notes.Note.{Note}
use Rattle.script_runs.specs.declared.notes.Note.TheVariants as note
use Rattle.client_seats.specs.ClientStates.{ClientState, with_task}

abbrev pub with_note : ClientState → Note → ClientState
with_note c (note.Line l) = c
with_note c (note.Posted task) = with_task c task
