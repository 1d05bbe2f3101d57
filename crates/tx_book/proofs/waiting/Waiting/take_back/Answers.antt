use Rattle.std.proofs.Common.{◌≡◌, ◌+◌, ◌-◌, ◌≤◌, ℕ, List, length, sym, ap, ◌∙◌, subst, arith}
use Rattle.record_bytes.specs.declared.records.LogRecord.{LogRecord}
use Rattle.record_bytes.specs.Spelling.{batch_spelling}
use Rattle.tx_book.specs.Ending.{front_of}
use Rattle.tx_book.specs.Waiting.{waiting_in, AreSpelled}
use Rattle.tx_book.proofs.Spelled.{one_less, front_fits, keeps, seen}
use Rattle.tx_book.proofs.waiting.Waiting.take_back.Goals as goal

pub overflow_add-payload_len : goal.overflow_add-payload_len
overflow_add-payload_len c =
    let s = c.self.inside in
    let long : c.args.payload_len + 8 ≤ length s.bytes.items =
    front_fits s.count c.args.payload_len s.bytes.items (waiting_in s.count s.bytes.items) c.self.invariant (omega (arith, c.requires.some, ap length c.self.view_is))
    (c.requires.payload ∙ ap (λ (rs : List LogRecord). length (batch_spelling (front_of rs))) (sym c.self.view_is)) in
    omega (arith, long, s.bytes.ok.0)

pub invariant_of-self : goal.invariant_of-self
invariant_of-self c =
    let s = c.self.inside in
    subst (λ (l : List ℕ). AreSpelled (s.count - 1) l (waiting_in (s.count - 1) l)) (sym c.truncate.ensures.items)
    (keeps (s.count - 1) _ (front_of (waiting_in s.count s.bytes.items))
    (one_less s.count c.args.payload_len s.bytes.items (waiting_in s.count s.bytes.items) c.self.invariant (omega (arith, c.requires.some, ap length c.self.view_is))
    (c.requires.payload ∙ ap (λ (rs : List LogRecord). length (batch_spelling (front_of rs))) (sym c.self.view_is))))

pub returns : goal.returns
returns c =
    let s = c.self.inside in
    ap (waiting_in (s.count - 1)) c.truncate.ensures.items
    ∙ seen (s.count - 1) _ (front_of (waiting_in s.count s.bytes.items))
    (one_less s.count c.args.payload_len s.bytes.items (waiting_in s.count s.bytes.items) c.self.invariant (omega (arith, c.requires.some, ap length c.self.view_is))
    (c.requires.payload ∙ ap (λ (rs : List LogRecord). length (batch_spelling (front_of rs))) (sym c.self.view_is)))
    ∙ ap front_of c.self.view_is
