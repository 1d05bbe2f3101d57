use Rattle.std.proofs.Common.{◌≡◌, ◌+◌, ◌++◌, ◌∷◌, [], ℕ, List, length, ap, ◌∙◌, arith}
use Rattle.record_bytes.specs.declared.records.LogRecord.{LogRecord}
use Rattle.record_bytes.specs.Records.{recorded}
use Rattle.tx_book.specs.Waiting.{waiting_in, AreSpelled}
use Rattle.tx_book.proofs.Spelled.{one_more, keeps, seen, are_records}
use Rattle.tx_book.proofs.waiting.Waiting.push.Goals as goal

pub invariant_of-self-2 : goal.invariant_of-self-2
invariant_of-self-2 c =
    let s = c.self.inside in
    keeps (s.count + 1) c.write_record.new.out.items (waiting_in s.count s.bytes.items ++ recorded c.args.trace.now ∷ [])
    (one_more s.count s.bytes.items c.make_room.new.bytes.items c.write_record.new.out.items (waiting_in s.count s.bytes.items) (recorded c.args.trace.now) c.self.invariant c.in_ok-make_room.ensures.same
    (omega (arith, c.in_ok-make_room.ensures.room, c.make_room.new.bytes.ok.0)) c.in_ok-write_record.ensures.written c.in_ok-write_record.ensures.spelled.fits (omega (arith, c.requires.few, ap length c.self.view_is, c.self.invariant.counted)))

pub returns-clause-pushed : goal.returns-clause-pushed
returns-clause-pushed c =
    let s = c.self.inside in
    seen (s.count + 1) c.write_record.new.out.items (waiting_in s.count s.bytes.items ++ recorded c.args.trace.now ∷ [])
    (one_more s.count s.bytes.items c.make_room.new.bytes.items c.write_record.new.out.items (waiting_in s.count s.bytes.items) (recorded c.args.trace.now) c.self.invariant c.in_ok-make_room.ensures.same
    (omega (arith, c.in_ok-make_room.ensures.room, c.make_room.new.bytes.ok.0)) c.in_ok-write_record.ensures.written c.in_ok-write_record.ensures.spelled.fits (omega (arith, c.requires.few, ap length c.self.view_is, c.self.invariant.counted)))
    ∙ ap (λ (l : List LogRecord). l ++ recorded c.args.trace.now ∷ []) c.self.view_is

pub returns-clause-fits : goal.returns-clause-fits
returns-clause-fits c =
    let s = c.self.inside in
    let more = one_more s.count s.bytes.items c.make_room.new.bytes.items c.write_record.new.out.items (waiting_in s.count s.bytes.items) (recorded c.args.trace.now) c.self.invariant c.in_ok-make_room.ensures.same
    (omega (arith, c.in_ok-make_room.ensures.room, c.make_room.new.bytes.ok.0)) c.in_ok-write_record.ensures.written c.in_ok-write_record.ensures.spelled.fits (omega (arith, c.requires.few, ap length c.self.view_is, c.self.invariant.counted)) in
    let sealed = keeps (s.count + 1) c.write_record.new.out.items (waiting_in s.count s.bytes.items ++ recorded c.args.trace.now ∷ []) more in
    are_records (s.count + 1) c.write_record.new.out.items (waiting_in (s.count + 1) c.write_record.new.out.items) sealed (omega arith)
