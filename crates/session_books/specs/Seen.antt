-- How the parts of a session's book are seen.
--     commit_seen, commits_seen    the commit of a note;  those of notes
--     end_seen              how the session ended
--     noted_commits         the commits after an answer of the book
use Rattle.std.specs.Prelude.{List, [], ◌∷◌, ◌++◌, map}
use Rattle.idb_calls.specs.declared.traces.TxTrace.{TxTrace}
use Rattle.log_history.specs.Batching.{Commit, commit_of}
use Rattle.log_history.specs.Kept.{End, Dropped, Flushed, FailedCommit, FailedFlush}
use Rattle.tx_book.specs.declared.answers.Finish.{Finish}
use Rattle.tx_book.specs.declared.answers.Finish.TheVariants as answer
use Rattle.session_books.specs.declared.notes.CommitNote.{CommitNote}
use Rattle.session_books.specs.declared.notes.Ended.{Ended}
use Rattle.session_books.specs.declared.notes.Ended.TheVariants as ended

abbrev pub commit_seen : CommitNote → Commit
commit_seen note = commit_of note.trace.value

abbrev pub commits_seen : List CommitNote → List Commit
commits_seen notes = map commit_seen notes

abbrev pub end_seen : Ended → End
end_seen ended.Running = Dropped
end_seen ended.Flushed = Flushed
end_seen (ended.AtCommit note) = FailedCommit (commit_seen note)
end_seen ended.AtFlush = FailedFlush

abbrev pub noted_commits : TxTrace → Finish → List Commit → List Commit
noted_commits trace answer.Sealed commits = commits ++ commit_of trace ∷ []
noted_commits trace answer.Waiting commits = commits ++ commit_of trace ∷ []
noted_commits trace answer.Noted commits = commits
noted_commits trace answer.DiskFault commits = commits
noted_commits trace (answer.Faulted seen) commits = commits
noted_commits trace answer.NoMemory commits = commits
