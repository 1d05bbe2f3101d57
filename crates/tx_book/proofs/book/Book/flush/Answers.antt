use Rattle.std.proofs.Common.{◌≡◌, ℕ, List, refl, sym, ap, subst}
use Rattle.disk_trait.specs.Disk.{LeavesOnly}
use Rattle.record_bytes.specs.Records.{AreRecords}
use Rattle.record_bytes.specs.Spelling.{batch_spelling}
use Rattle.log_history.specs.Batching.{batch_payload}
use Rattle.tx_book.specs.Books.{BookLog, BookState, IsFoundOr}
use Rattle.tx_book.specs.Waiting.{relaxed}
use Rattle.tx_book.specs.Seen.{log_held}
use Rattle.tx_book.specs.Answers.{FlushIs, SealsPayload, Fails}
use Rattle.tx_book.specs.declared.answers.Flush.{Flush}
use Rattle.tx_book.specs.declared.answers.Flush.TheVariants as flush
use Rattle.tx_book.proofs.Commits.{records_of_relaxed, payload_of_relaxed}
use Rattle.tx_book.proofs.book.Book.flush.Goals as goal
use Rattle.tx_book.proofs.book.Book.flush.Goals.{in-Sealed, in-DiskFault, in-NoMemory}

pub returns-clause-answer : goal.returns-clause-answer
returns-clause-answer g c =
    let shows = g.D.Disk.shows in
    let s = c.self.inside in
    let was : BookState g.row.D.Denot = record { log = log_held s.held; finished = s.finished.items; committed = s.committed.items } in
    let now : BookState g.row.D.Denot = record { log = log_held c.seal.new.held; finished = s.finished.items; committed = s.committed.items } in
    let same : batch_spelling s.held.waiting ≡ batch_payload (relaxed s.held.waiting) = sym (payload_of_relaxed s.held.waiting) in
    subst (λ (b : BookState g.row.D.Denot). FlushIs shows b c.match-seal.result now) c.self.view_is
    (elim c.match-seal.branch [
      | in-Sealed w ↦
          subst (λ (r : Flush). FlushIs shows was r now) (sym w.result-is)
          (subst AreRecords (sym (records_of_relaxed s.held.waiting)) w.in-Sealed.ensures.answer.0, subst (λ (p : List ℕ). SealsPayload shows p was.log now.log) same w.in-Sealed.ensures.answer.1, refl)
      | in-DiskFault w ↦
          subst (λ (r : Flush). FlushIs shows was r now) (sym w.result-is)
          (subst AreRecords (sym (records_of_relaxed s.held.waiting)) w.in-DiskFault.ensures.answer.0, subst (λ (p : List ℕ). Fails shows p was.log now.log) same w.in-DiskFault.ensures.answer.1, refl)
      | in-NoMemory w ↦
          subst (λ (r : Flush). FlushIs shows was r now) (sym w.result-is)
          (ap (λ h. let b : BookState g.row.D.Denot = record { log = log_held h; finished = s.finished.items; committed = s.committed.items } in b) w.in-NoMemory.ensures.answer)
    ])

pub returns-clause-any_moment : goal.returns-clause-any_moment
returns-clause-any_moment g c =
    let shows = g.D.Disk.shows in
    let s = c.self.inside in
    let same : batch_spelling s.held.waiting ≡ batch_payload (relaxed s.held.waiting) = sym (payload_of_relaxed s.held.waiting) in
    λ none. subst (λ (b : BookState g.row.D.Denot). LeavesOnly (shows b.log.disk) (shows (log_held c.seal.new.held).disk) (IsFoundOr shows (batch_payload b.log.waiting) b.log)) c.self.view_is
    (subst (λ (p : List ℕ). LeavesOnly (shows (log_held s.held).disk) (shows (log_held c.seal.new.held).disk) (IsFoundOr shows p (log_held s.held))) same c.seal.ensures.any_moment)
