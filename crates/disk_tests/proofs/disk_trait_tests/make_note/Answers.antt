use Rattle.std.proofs.Common.{ap}
use Rattle.disk_trait.specs.Note.{note_in}
use Rattle.disk_tests.proofs.disk_trait_tests.make_note.Goals as goal

-- the byte that was written is a closed gate
pub leave_note-requires-clause-closed : goal.leave_note-requires-clause-closed
leave_note-requires-clause-closed g c = λ areas told. ap note_in (c.in_ok-write_synced.ensures.written areas told).stepped.here
