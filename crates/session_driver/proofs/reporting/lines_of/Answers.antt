use Rattle.std.proofs.Common.{[], ◌∷◌, ◌++◌}
use Rattle.session_driver.proofs.Listing.{written_more, lines_end}
use Rattle.session_driver.proofs.reporting.lines_of.Goals as goal

pub loop-note-preserved : goal.loop-note-preserved
loop-note-preserved c =
    let next = written_more c.loop-note.lines c.write_note.new.lines c.loop-note.posts c.in_ok-posts.posts c.loop-note.yielded c.in-Some.note c.loop-note.invariant.rest c.in_ok-posts.ensures.written in
    record { rest = next; whole = lines_end c.write_note.new.lines c.in_ok-posts.posts (c.loop-note.yielded ++ c.in-Some.note ∷ []) next }
