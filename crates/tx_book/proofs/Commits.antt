-- The commits that wait, and their records.
use Rattle.std.proofs.Common.{◌≡◌, ℕ, suc, ◌<◌, Bool, true, false, ◌||◌, nat_le, List, [], ◌∷◌, ◌++◌, length, map, refl, sym, ap, subst, ◌∙◌, arith}
use Rattle.std.proofs.lemmas.Bool.{leb-false}
use Rattle.std.proofs.lemmas.List.{map-append, length-append}
use Rattle.idb_calls.specs.declared.traces.TxTrace.{TxTrace}
use Rattle.record_bytes.specs.declared.records.LogRecord.{LogRecord}
use Rattle.record_bytes.specs.Records.{recorded}
use Rattle.record_bytes.specs.Spelling.{batch_spelling}
use Rattle.log_history.specs.declared.limits.TheConstants.{GREATEST_BATCH_COUNT, FULL_BATCH_BYTES}
use Rattle.log_history.specs.Batching.{Commit, is_strict, commit_of, records_of_commits, batch_payload, IsBelowLimits}
use Rattle.tx_book.specs.Waiting.{relaxed}
use Rattle.tx_book.specs.Entries.{batch_with, is_last}
use Rattle.tx_book.specs.Committing.{ends_with}

pub records_of_relaxed : (rs : List LogRecord) → records_of_commits (relaxed rs) ≡ rs
records_of_relaxed [] = refl
records_of_relaxed (r ∷ rs) = ap (λ (l : List LogRecord). r ∷ l) (records_of_relaxed rs)

pub payload_of_relaxed : (rs : List LogRecord) → batch_payload (relaxed rs) ≡ batch_spelling rs
payload_of_relaxed rs = ap batch_spelling (records_of_relaxed rs)

pub length_of_relaxed : (rs : List LogRecord) → length (relaxed rs) ≡ length rs
length_of_relaxed [] = refl
length_of_relaxed (r ∷ rs) = ap suc (length_of_relaxed rs)

module _ (trace : TxTrace) (rs : List LogRecord) where
  pub records_with : records_of_commits (batch_with trace (relaxed rs)) ≡ rs ++ recorded trace ∷ []
  records_with = map-append (λ (c : Commit). c.logged) (relaxed rs) (commit_of trace ∷ []) ∙ ap (λ (l : List LogRecord). l ++ recorded trace ∷ []) (records_of_relaxed rs)

  pub payload_with : batch_payload (batch_with trace (relaxed rs)) ≡ batch_spelling (rs ++ recorded trace ∷ [])
  payload_with = ap batch_spelling records_with

  length_with : length (batch_with trace (relaxed rs)) ≡ length (rs ++ recorded trace ∷ [])
  length_with = omega (arith, length_of_relaxed rs, length-append (relaxed rs) (commit_of trace ∷ []), length-append rs (recorded trace ∷ []))

  pub last_with : is_last trace (relaxed rs) ≡ ends_with trace (rs ++ recorded trace ∷ [])
  last_with =
      ap (λ (n : ℕ). is_strict trace.durability || (nat_le GREATEST_BATCH_COUNT n || nat_le FULL_BATCH_BYTES (length (batch_payload (batch_with trace (relaxed rs)))))) length_with
      ∙ ap (λ (bytes : List ℕ). is_strict trace.durability || (nat_le GREATEST_BATCH_COUNT (length (rs ++ recorded trace ∷ [])) || nat_le FULL_BATCH_BYTES (length bytes))) payload_with

-- neither of both
neither : (a b : Bool) → (a || b) ≡ false → (a ≡ false) × (b ≡ false)
neither true b e = absurd (cc e)
neither false b e = (refl, e)

-- a commit that doesn't end its batch is relaxed
pub waits_with : (trace : TxTrace) (rs : List LogRecord) → ends_with trace (rs ++ recorded trace ∷ []) ≡ false → relaxed (rs ++ recorded trace ∷ []) ≡ batch_with trace (relaxed rs)
waits_with trace rs not_last =
    let loose = neither (is_strict trace.durability) (nat_le GREATEST_BATCH_COUNT (length (rs ++ recorded trace ∷ [])) || nat_le FULL_BATCH_BYTES (length (batch_spelling (rs ++ recorded trace ∷ [])))) not_last in
    map-append (λ (r : LogRecord). let c : Commit = record { strict = false; logged = r } in c) rs (recorded trace ∷ [])
    ∙ ap (λ (s : Bool). let c : Commit = record { strict = s; logged = recorded trace } in relaxed rs ++ c ∷ []) (sym loose.0)

pub below_with : (trace : TxTrace) (all : List LogRecord) → ends_with trace all ≡ false → IsBelowLimits (relaxed all)
below_with trace all not_last =
    let loose = neither (is_strict trace.durability) (nat_le GREATEST_BATCH_COUNT (length all) || nat_le FULL_BATCH_BYTES (length (batch_spelling all))) not_last in
    let both = neither (nat_le GREATEST_BATCH_COUNT (length all)) (nat_le FULL_BATCH_BYTES (length (batch_spelling all))) loose.1 in
    record {
      count = subst (λ (n : ℕ). n < GREATEST_BATCH_COUNT) (sym (length_of_relaxed all)) (leb-false GREATEST_BATCH_COUNT (length all) both.0);
      bytes = subst (λ (w : List ℕ). length w < FULL_BATCH_BYTES) (sym (payload_of_relaxed all)) (leb-false FULL_BATCH_BYTES (length (batch_spelling all)) both.1);
    }
