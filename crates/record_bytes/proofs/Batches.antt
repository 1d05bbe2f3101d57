-- Records and batches are read exactly where they are spelled.
use Rattle.std.proofs.Common.{◌≡◌, ℕ, ◌<◌, ◌^◌, true, cond, eqb, List, [], ◌∷◌, ◌++◌, length, Some, None, refl, sym, ap, subst, ◌∙◌, zero, suc, nat_le, inl, inr, arith}
use Rattle.std.specs.List.{flat_map, list_all, AllByRecursion}
use Rattle.std.specs.Cmp.{first_so, second_so}
use Rattle.std.proofs.lemmas.Bool.{leb-true, le-leb, ltb-true, eqb-true}
use Rattle.std.proofs.lemmas.List.{append-nil}
use Rattle.clone_values.specs.WellFormed.{is_byte}
use Rattle.value_bytes.specs.Spelling.{count_bytes, word_bytes}
use Rattle.std.specs.Prelude.{Result, Ok, Err, IfOk, IsErrOf}
use Rattle.idb_base.specs.Results.{Gives}
use Rattle.value_bytes.specs.declared.error.SpellingError.{SpellingError}
use Rattle.value_bytes.specs.declared.error.SpellingError.TheVariants as error
use Rattle.value_bytes.specs.Steps.{IsUnspelled, ◌>>=◌, word_at, pair_at, counted_at}
use Rattle.value_bytes.proofs.Laws as field
use Rattle.value_bytes.proofs.Laws.{IsBytes, Took, Format, Grammar, checked, pair, good_as, counted}
use Rattle.idb_calls.specs.Deltas.{DeltaTree}
use Rattle.record_bytes.specs.declared.records.LogRecord.{LogRecord}
use Rattle.record_bytes.specs.Loggable.{IsLoggable}
use Rattle.record_bytes.specs.Spelling.{delta_spelling, record_spelling, batch_spelling}
use Rattle.record_bytes.specs.Records.{IsRecord, AreRecords, SpellsRecord, SpellsBatch}
use Rattle.record_bytes.specs.Reading.{delta_at, record_at, batch_at, whole_batch, records_in_batch}
use Rattle.record_bytes.proofs.Fields.{bind_some, chosen, some_is}
use Rattle.record_bytes.proofs.Deltas.{delta}

-- ---- records
abbrev AreDeltas : List DeltaTree → Type 0
AreDeltas ds = (length ds < 2 ^ 32) × AllByRecursion IsLoggable ds

abbrev deltas_word : List DeltaTree → List ℕ
deltas_word ds = count_bytes (length ds) ++ flat_map delta_spelling ds

abbrev IsParts : ℕ × List DeltaTree → Type 0
IsParts x = (x.0 < 2 ^ 64) × AreDeltas x.1

abbrev parts_word : ℕ × List DeltaTree → List ℕ
parts_word x = word_bytes x.0 ++ deltas_word x.1

parts : Format (pair_at word_at (counted_at delta_at)) parts_word IsParts
parts = pair word_at word_bytes (λ n. n < 2 ^ 64) (counted_at delta_at) deltas_word AreDeltas field.word (counted delta_at delta_spelling IsLoggable delta)

abbrev put_together : ℕ × List DeltaTree → LogRecord
put_together x = record { number = x.0; deltas = x.1 }

pub record_format : Format record_at record_spelling IsRecord
unfolding record_at
record_format = record {
  sound = λ bs x fits e.
      let a = bind_some (pair_at word_at (counted_at delta_at) bs) (λ y. Some (put_together y.0, y.1)) x e in
      let got = parts.sound bs a.0 fits a.1 in
      subst (λ y. Took bs (record_spelling y.0) y.1 × IsRecord y.0) (some_is (put_together a.0.0, a.0.1) x a.2)
      (got.0, record { number = got.1.0; count = omega (arith, got.1.1.0); deltas = got.1.1.1 });
  again = λ r rest good.
      ap (λ o. o >>= λ y. Some (put_together y.0, y.1)) (parts.again (r.number, r.deltas) rest (good.number, (omega (arith, good.count), good.deltas)));
}

pub record_grammar : Grammar record_at record_spelling IsRecord SpellsRecord
record_grammar = record {
  format = record_format;
  spelled = λ word r s. s.spelled;
  fits = λ word r s. s.fits;
  spells = λ word r e f. record { spelled = e; fits = f };
}

-- ---- batches
abbrev AreSome : List LogRecord → Type 0
AreSome rs = ((length rs < 2 ^ 32) × AllByRecursion IsRecord rs) × (nat_le 1 (length rs) ≡ true)

pub batch_format : Format batch_at batch_spelling AreRecords
batch_format = good_as batch_at batch_spelling AreSome AreRecords
    (λ rs g. record { some = leb-true 1 (length rs) g.1; count = omega (arith, g.0.0); records = g.0.1 })
    (λ rs g. ((omega (arith, g.count), g.records), le-leb 1 (length rs) g.some))
    (checked (λ rs. nat_le 1 (length rs)) (counted_at record_at) batch_spelling (λ rs. (length rs < 2 ^ 32) × AllByRecursion IsRecord rs) (counted record_at record_spelling IsRecord record_format))

pub batch_grammar : Grammar batch_at batch_spelling AreRecords SpellsBatch
batch_grammar = record {
  format = batch_format;
  spelled = λ word rs s. s.spelled;
  fits = λ word rs s. s.fits;
  spells = λ word rs e f. record { spelled = e; fits = f };
}

-- ---- all bytes of a batch
no_more : (rest : List ℕ) → length rest ≡ 0 → rest ≡ []
no_more [] h = refl
no_more (b ∷ rest) h = absurd (omega (arith, h))

pub spelled_if_read : (bytes : List ℕ) (rs : List LogRecord) → IsBytes bytes → records_in_batch bytes ≡ Some rs → SpellsBatch bytes rs
unfolding records_in_batch
spelled_if_read bytes rs fits e =
    let a = bind_some (batch_at bytes) (λ x. cond (eqb (length x.1) 0) (Some x.0) None) rs e in
    elim (chosen (eqb (length a.0.1) 0) (Some a.0.0) None (Some rs) a.2) [
      | inl p ↦
          let got = batch_format.sound bytes a.0 fits a.1 in
          let end : a.0.1 ≡ [] = no_more a.0.1 (eqb-true (length a.0.1) 0 p.0) in
          let same : a.0.0 ≡ rs = some_is a.0.0 rs p.1 in
          subst (λ x. SpellsBatch bytes x) same (record { spelled = got.0.parts ∙ ap (λ w. batch_spelling a.0.0 ++ w) end ∙ append-nil (batch_spelling a.0.0); fits = got.1 })
      | inr p ↦ absurd cc
    ]

pub read_if_spelled : (bytes : List ℕ) (rs : List LogRecord) → SpellsBatch bytes rs → records_in_batch bytes ≡ Some rs
unfolding records_in_batch
read_if_spelled bytes rs s = ap whole_batch (ap batch_at (s.spelled ∙ sym (append-nil (batch_spelling rs))) ∙ batch_format.again rs [] s.fits)

pub unread_if_none : (bytes : List ℕ) → records_in_batch bytes ≡ None → (rs : List LogRecord) → ¬ (SpellsBatch bytes rs)
unread_if_none bytes e rs s = let read = read_if_spelled bytes rs s in absurd cc

pub bytes_by_test : (bytes : List ℕ) → list_all is_byte bytes ≡ true → IsBytes bytes
bytes_by_test [] h i = omega arith
bytes_by_test (b ∷ bytes) h zero = ltb-true b 256 (first_so (is_byte b) (list_all is_byte bytes) h)
bytes_by_test (b ∷ bytes) h (suc i) = bytes_by_test bytes (second_so (is_byte b) (list_all is_byte bytes) h) i

-- ---- what was returned
pub found_if_given : (result : Result (List LogRecord) SpellingError) (bytes : List ℕ) → IsBytes bytes → Gives IsUnspelled (λ rs. rs) result (records_in_batch bytes) → IfOk result (λ rs. SpellsBatch bytes rs)
found_if_given (Ok rs) bytes fits given = spelled_if_read bytes rs fits given
found_if_given (Err e) bytes fits given = tt

pub refused_if_given : (result : Result (List LogRecord) SpellingError) (bytes : List ℕ) → Gives IsUnspelled (λ rs. rs) result (records_in_batch bytes) → IsErrOf result error.NotInGrammar → (rs : List LogRecord) → ¬ (SpellsBatch bytes rs)
refused_if_given (Ok rs) bytes given refused = absurd cc
refused_if_given (Err error.NotInGrammar) bytes given refused = unread_if_none bytes given
refused_if_given (Err error.NoMemory) bytes given refused = absurd cc
