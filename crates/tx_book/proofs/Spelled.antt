-- The commits that wait, and the bytes that spell them.
use Rattle.std.proofs.Common.{◌≡◌, ℕ, zero, suc, ◌+◌, ◌-◌, ◌<◌, ◌≤◌, List, [], ◌∷◌, ◌++◌, length, take, drop, Some, unwrap_or, refl, sym, ap, subst, ◌∙◌, arith}
use Rattle.std.specs.List.{flat_map, AllByRecursion}
use Rattle.std.proofs.lemmas.Grind.{flat_map-append}
use Rattle.std.proofs.lemmas.List.{length-append, length-drop, drop_all, drop-append-le, drop-take, take-append-drop, take-append-le, take_all, append-nil, length-take}
use Rattle.value_bytes.specs.Spelling.{count_bytes}
use Rattle.record_bytes.specs.declared.records.LogRecord.{LogRecord}
use Rattle.record_bytes.specs.Records.{IsRecord, AreRecords, SpellsBatch}
use Rattle.record_bytes.specs.Reading.{records_in_batch}
use Rattle.record_bytes.specs.Spelling.{record_spelling, batch_spelling}
use Rattle.record_bytes.proofs.Laws.{read_if_spelled}
use Rattle.tx_book.specs.declared.waiting.TheConstants.{ROOM}
use Rattle.tx_book.specs.Waiting.{waiting_in, AreSpelled}
use Rattle.tx_book.specs.Ending.{front_of}

all_snoc : {X : Type 0} (P : X → Type 0) (xs : List X) (y : X) → AllByRecursion P xs → P y → AllByRecursion P (xs ++ y ∷ [])
all_snoc P [] y all p = (p, tt)
all_snoc P (x ∷ xs) y all p = (all.0, all_snoc P xs y all.1 p)

all_take : {X : Type 0} (P : X → Type 0) (n : ℕ) (xs : List X) → AllByRecursion P xs → AllByRecursion P (take n xs)
all_take P zero xs all = tt
all_take P (suc n) [] all = tt
all_take P (suc n) (x ∷ xs) all = (all.0, all_take P n xs all.1)

-- the bytes are read back as the records that they spell
read_back : (count : ℕ) (bytes : List ℕ) (rs : List LogRecord) → length rs ≡ count → count ≤ 64 → drop ROOM bytes ≡ flat_map record_spelling rs → AllByRecursion IsRecord rs → waiting_in count bytes ≡ rs
read_back zero bytes [] counted few spelled each = refl
read_back zero bytes (r ∷ rs) counted few spelled each = absurd (omega arith)
read_back (suc n) bytes rs counted few spelled each =
    let word : count_bytes (suc n) ++ drop ROOM bytes ≡ batch_spelling rs = ap (λ (k : ℕ). count_bytes k ++ drop ROOM bytes) (sym counted) ∙ ap (λ (w : List ℕ). count_bytes (length rs) ++ w) spelled in
    let spells : SpellsBatch (count_bytes (suc n) ++ drop ROOM bytes) rs = record { spelled = word; fits = record { some = omega arith; count = omega arith; records = each } } in
    ap (λ o. unwrap_or o []) (read_if_spelled (count_bytes (suc n) ++ drop ROOM bytes) rs spells)

pub seen : (count : ℕ) (bytes : List ℕ) (rs : List LogRecord) → AreSpelled count bytes rs → waiting_in count bytes ≡ rs
seen count bytes rs w = read_back count bytes rs w.counted w.few w.spelled w.each

pub keeps : (count : ℕ) (bytes : List ℕ) (rs : List LogRecord) → AreSpelled count bytes rs → AreSpelled count bytes (waiting_in count bytes)
keeps count bytes rs w = subst (AreSpelled count bytes) (sym (seen count bytes rs w)) w

-- one record more, behind room
pub one_more : (count : ℕ) (before roomy after : List ℕ) (rs : List LogRecord) (r : LogRecord) → AreSpelled count before rs → drop ROOM roomy ≡ drop ROOM before → ROOM ≤ length roomy
    → after ≡ roomy ++ record_spelling r → IsRecord r → count < 64 → AreSpelled (count + 1) after (rs ++ r ∷ [])
one_more count before roomy after rs r w same room written fits few = record {
  counted = omega (arith, length-append rs (r ∷ []), w.counted);
  few = omega arith;
  roomy = λ _. omega (arith, ap length written, length-append roomy (record_spelling r));
  spelled =
      ap (drop ROOM) written ∙ drop-append-le ROOM roomy (record_spelling r) room
      ∙ ap (λ (l : List ℕ). l ++ record_spelling r) (same ∙ w.spelled)
      ∙ ap (λ (l : List ℕ). flat_map record_spelling rs ++ l) (sym (append-nil (record_spelling r)))
      ∙ sym (flat_map-append record_spelling rs (r ∷ []));
  each = all_snoc IsRecord rs r w.each fits;
}

-- they can be read again
pub are_records : (count : ℕ) (bytes : List ℕ) (rs : List LogRecord) → AreSpelled count bytes rs → 1 ≤ count → AreRecords rs
are_records count bytes rs w some = record { some = omega (arith, w.counted); count = omega (arith, w.counted, w.few); records = w.each }

-- without the last one
pub one_less : (count payload_len : ℕ) (bytes : List ℕ) (rs : List LogRecord) → AreSpelled count bytes rs → 1 ≤ length rs → payload_len ≡ length (batch_spelling (front_of rs))
    → AreSpelled (count - 1) (take (payload_len + 8) bytes) (front_of rs)
one_less count payload_len bytes rs w some long =
    let front = take (length rs - 1) rs in
    let rest = drop (length rs - 1) rs in
    let whole : flat_map record_spelling rs ≡ flat_map record_spelling front ++ flat_map record_spelling rest =
    ap (flat_map record_spelling) (sym (take-append-drop (length rs - 1) rs)) ∙ flat_map-append record_spelling front rest in
    let size : payload_len + 8 ≡ ROOM + length (flat_map record_spelling front) = omega (arith, long, length-append (count_bytes (length front)) (flat_map record_spelling front)) in
    let here : drop ROOM (take (payload_len + 8) bytes) ≡ flat_map record_spelling front =
    ap (λ (k : ℕ). drop ROOM (take k bytes)) size
    ∙ drop-take ROOM (length (flat_map record_spelling front)) bytes
    ∙ ap (take (length (flat_map record_spelling front))) (w.spelled ∙ whole)
    ∙ take-append-le (length (flat_map record_spelling front)) (flat_map record_spelling front) (flat_map record_spelling rest) (omega arith)
    ∙ take_all (length (flat_map record_spelling front)) (flat_map record_spelling front) (omega arith) in
    record {
      counted = omega (arith, length-take (length rs - 1) rs, w.counted);
      few = omega (arith, w.few);
      roomy = λ _. let long_enough : ROOM ≤ length bytes = w.roomy (omega (arith, w.counted)) in omega (arith, length-take (payload_len + 8) bytes, size, long_enough);
      spelled = here;
      each = all_take IsRecord (length rs - 1) rs w.each;
    }

-- so many bytes are there
pub front_fits : (count payload_len : ℕ) (bytes : List ℕ) (rs : List LogRecord) → AreSpelled count bytes rs → 1 ≤ length rs → payload_len ≡ length (batch_spelling (front_of rs)) → payload_len + 8 ≤ length bytes
front_fits count payload_len bytes rs w some long =
    let front = take (length rs - 1) rs in
    let rest = drop (length rs - 1) rs in
    let whole : flat_map record_spelling rs ≡ flat_map record_spelling front ++ flat_map record_spelling rest =
    ap (flat_map record_spelling) (sym (take-append-drop (length rs - 1) rs)) ∙ flat_map-append record_spelling front rest in
    let room : ROOM ≤ length bytes = w.roomy (omega (arith, w.counted)) in
    omega (arith, room, long, length-append (count_bytes (length front)) (flat_map record_spelling front), ap length (w.spelled ∙ whole), length-drop ROOM bytes, length-append (flat_map record_spelling front) (flat_map record_spelling rest))

-- other memory, with nothing behind the room
pub emptied : (count : ℕ) (bytes new longer : List ℕ) → AreSpelled count bytes (waiting_in count bytes) → waiting_in count bytes ≡ [] → new ≡ take ROOM longer → AreSpelled count new (waiting_in count new)
emptied count bytes new longer w none is =
    let no : count ≡ 0 = omega (arith, w.counted, ap length none) in
    keeps count new [] (record {
      counted = sym no;
      few = w.few;
      roomy = λ some. absurd (omega (arith, no, some));
      spelled = ap (drop ROOM) is ∙ drop_all ROOM (take ROOM longer) (omega (arith, length-take ROOM longer));
      each = tt;
    })
