use Rattle.std.proofs.Common.{rules, ◌≡◌, true, false, List, ℕ, [], ◌∷◌, ◌++◌, sym, ap, ◌∙◌, subst}
use Rattle.disk_trait.specs.Disk.{LeavesOnly}
use Rattle.record_bytes.specs.declared.records.LogRecord.{LogRecord}
use Rattle.record_bytes.specs.Records.{recorded, AreRecords}
use Rattle.record_bytes.specs.Spelling.{batch_spelling}
use Rattle.log_history.specs.Batching.{Commit, IsBelowLimits, batch_payload}
use Rattle.tx_book.specs.Books.{BookLog, IsFoundOr}
use Rattle.tx_book.specs.Waiting.{relaxed}
use Rattle.tx_book.specs.Entries.{batch_with, is_last}
use Rattle.tx_book.specs.Committing.{ends_with}
use Rattle.tx_book.specs.Answers.{SealsPayload, Fails}
use Rattle.tx_book.specs.Seen.{log_held}
use Rattle.tx_book.proofs.Commits.{records_with, payload_with, last_with, waits_with, below_with}
use Rattle.tx_book.proofs.committing.commit.Goals as goal

pub returns-then-not-ends-clause-below : goal.returns-then-not-ends-clause-below
returns-then-not-ends-clause-below g c = below_with c.args.trace.now c.push.new.self (sym c.ends.ensures ∙ c.if-not-ends.true)

pub returns-then-not-ends-clause-answer : goal.returns-then-not-ends-clause-answer
returns-then-not-ends-clause-answer g c =
    let rs = c.args.held.now.waiting in
    let pushed : c.push.new.self ≡ c.args.held.now.waiting ++ recorded c.args.trace.now ∷ [] = search rules in
    let fits : AreRecords c.push.new.self = search rules in
    let open_still : ends_with c.args.trace.now (c.args.held.now.waiting ++ recorded c.args.trace.now ∷ []) ≡ false = sym (ap (ends_with c.args.trace.now) pushed) ∙ sym c.ends.ensures ∙ c.if-not-ends.true in (
      last_with c.args.trace.now rs ∙ open_still,
      subst AreRecords (pushed ∙ sym (records_with c.args.trace.now rs)) fits,
      ap (λ (w : List Commit). let l : BookLog g.row.D.Denot = record (log_held c.args.held.now) { waiting = w } in l) (ap relaxed pushed ∙ waits_with c.args.trace.now rs open_still),
    )

pub returns-in-Sealed-clause-answer : goal.returns-in-Sealed-clause-answer
returns-in-Sealed-clause-answer g c =
    let rs = c.args.held.now.waiting in
    let pushed : c.push.new.self ≡ c.args.held.now.waiting ++ recorded c.args.trace.now ∷ [] = search rules in
    let s = c.in-Sealed.ensures.answer.1 in
    let same : batch_spelling c.push.new.self ≡ batch_payload (batch_with c.args.trace.now (relaxed c.args.held.now.waiting)) = ap batch_spelling pushed ∙ sym (payload_with c.args.trace.now rs) in (
      last_with c.args.trace.now rs ∙ sym (ap (ends_with c.args.trace.now) pushed) ∙ sym c.ends.ensures ∙ c.if-not-ends.false,
      subst AreRecords (pushed ∙ sym (records_with c.args.trace.now rs)) c.in-Sealed.ensures.answer.0,
      subst (λ (p : List ℕ). SealsPayload g.D.Disk.shows p (log_held c.args.held.now) (log_held c.seal.new.held)) same
          (record { faultless = s.faultless; batches = s.batches; live = s.live; failed = s.failed; waiting = s.waiting; lost = s.lost }),
    )

pub returns-in-Sealed-clause-any_moment : goal.returns-in-Sealed-clause-any_moment
returns-in-Sealed-clause-any_moment g c =
    let rs = c.args.held.now.waiting in
    let pushed : c.push.new.self ≡ c.args.held.now.waiting ++ recorded c.args.trace.now ∷ [] = search rules in
    let same : batch_spelling c.push.new.self ≡ batch_payload (batch_with c.args.trace.now (relaxed c.args.held.now.waiting)) = ap batch_spelling pushed ∙ sym (payload_with c.args.trace.now rs) in
    subst (λ (p : List ℕ). LeavesOnly (g.D.Disk.shows (log_held c.args.held.now).disk) (g.D.Disk.shows (log_held c.seal.new.held).disk) (IsFoundOr g.D.Disk.shows p (log_held c.args.held.now))) same
    c.in-Sealed.ensures.any_moment

pub returns-in-DiskFault-clause-answer : goal.returns-in-DiskFault-clause-answer
returns-in-DiskFault-clause-answer g c =
    let rs = c.args.held.now.waiting in
    let pushed : c.push.new.self ≡ c.args.held.now.waiting ++ recorded c.args.trace.now ∷ [] = search rules in
    let s = c.in-DiskFault.ensures.answer.1 in
    let same : batch_spelling c.push.new.self ≡ batch_payload (batch_with c.args.trace.now (relaxed c.args.held.now.waiting)) = ap batch_spelling pushed ∙ sym (payload_with c.args.trace.now rs) in (
      last_with c.args.trace.now rs ∙ sym (ap (ends_with c.args.trace.now) pushed) ∙ sym c.ends.ensures ∙ c.if-not-ends.false,
      subst AreRecords (pushed ∙ sym (records_with c.args.trace.now rs)) c.in-DiskFault.ensures.answer.0,
      subst (λ (p : List ℕ). Fails g.D.Disk.shows p (log_held c.args.held.now) (log_held c.seal.new.held)) same
          (record { faultless = s.faultless; batches = s.batches; live = s.live; rose = s.rose; failed = s.failed; waiting = s.waiting; lost = s.lost }),
    )

pub returns-in-DiskFault-clause-any_moment : goal.returns-in-DiskFault-clause-any_moment
returns-in-DiskFault-clause-any_moment g c =
    let rs = c.args.held.now.waiting in
    let pushed : c.push.new.self ≡ c.args.held.now.waiting ++ recorded c.args.trace.now ∷ [] = search rules in
    let same : batch_spelling c.push.new.self ≡ batch_payload (batch_with c.args.trace.now (relaxed c.args.held.now.waiting)) = ap batch_spelling pushed ∙ sym (payload_with c.args.trace.now rs) in
    subst (λ (p : List ℕ). LeavesOnly (g.D.Disk.shows (log_held c.args.held.now).disk) (g.D.Disk.shows (log_held c.seal.new.held).disk) (IsFoundOr g.D.Disk.shows p (log_held c.args.held.now))) same
    c.in-DiskFault.ensures.any_moment
