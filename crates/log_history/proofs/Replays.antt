-- What batches give, one after the other.
use Rattle.std.proofs.Common.{◌≡◌, ℕ, Bool, true, false, cond, List, [], ◌∷◌, ◌++◌, Option, Some, None, unwrap_or, Result, Ok, Err, refl, sym, ap, ◌∙◌, append_assoc}
use Rattle.std.proofs.lemmas.List.{append-nil}
use Rattle.value_bytes.specs.Steps.{◌>>=◌}
use Rattle.item_changes.specs.Items.{Items}
use Rattle.item_changes.specs.Effects.{applied_all}
use Rattle.gate_areas.specs.Sealed.{BatchList}
use Rattle.record_bytes.specs.declared.records.LogRecord.{LogRecord}
use Rattle.record_bytes.specs.Records.{AreRecords}
use Rattle.record_bytes.specs.Spelling.{batch_spelling}
use Rattle.record_bytes.specs.Reading.{records_in_batch}
use Rattle.record_bytes.proofs.Laws.{read_if_spelled}
use Rattle.log_history.specs.Replayed.{record_applies, after_record, after_records, after_payload, or_fault, replayed_on, records_of_payload, records_in_log}
use Rattle.log_history.specs.Batching.{Commit, records_of_commits}
use Rattle.log_history.specs.Kept.{applied_commits}

pub replayed_both : (items : Result Items ℕ) (front rest : BatchList) → replayed_on items (front ++ rest) ≡ replayed_on (replayed_on items front) rest
replayed_both (Err place) front rest = refl
replayed_both (Ok items) [] rest = refl
replayed_both (Ok items) (batch ∷ front) rest = replayed_both (or_fault batch.0 (after_payload items batch.1)) front rest

pub records_both : (front rest : BatchList) → records_in_log (front ++ rest) ≡ records_in_log front ++ records_in_log rest
records_both [] rest = refl
records_both (batch ∷ front) rest = ap (λ rs. records_of_payload batch.1 ++ rs) (records_both front rest) ∙ sym (append_assoc (records_of_payload batch.1) (records_in_log front) (records_in_log rest))

read_again : (rs : List LogRecord) → AreRecords rs → records_in_batch (batch_spelling rs) ≡ Some rs
read_again rs fits = read_if_spelled (batch_spelling rs) rs (record { spelled = refl; fits = fits })

fine : (items : Result Items ℕ) → replayed_on items [] ≡ items
fine (Ok items) = refl
fine (Err place) = refl

pub one_more : (items more : Items) (gate : ℕ) (rs : List LogRecord) → AreRecords rs → after_records items rs ≡ Some more → replayed_on (Ok items) ((gate, batch_spelling rs) ∷ []) ≡ Ok more
one_more items more gate rs fits apply =
    fine (or_fault gate (after_payload items (batch_spelling rs)))
    ∙ ap (or_fault gate) (ap (λ o. o >>= λ xs. after_records items xs) (read_again rs fits) ∙ apply)

pub its_records : (gate : ℕ) (rs : List LogRecord) → AreRecords rs → records_in_log ((gate, batch_spelling rs) ∷ []) ≡ rs
its_records gate rs fits = append-nil (records_of_payload (batch_spelling rs)) ∙ ap (λ o. unwrap_or o []) (read_again rs fits)

made_if : (test : Bool) (items more : Items) → cond test (Some items) None ≡ Some more → items ≡ more
made_if true items more e = cc
made_if false items more e = absurd cc

bind_some : {A B : Type 0} (o : Option A) (f : A → Option B) (y : B) → (o >>= f) ≡ Some y → (x : A) × (o ≡ Some x) × (f x ≡ Some y)
bind_some None f y e = absurd cc
bind_some (Some x) f y e = (x, refl, e)

pub made_by_commits : (items more : Items) (commits : List Commit) → after_records items (records_of_commits commits) ≡ Some more → applied_commits items commits ≡ more
made_by_commits items more [] e = cc
made_by_commits items more (c ∷ commits) e =
    let step = bind_some (after_record items c.logged) (λ next. after_records next (records_of_commits commits)) more e in
    let same : applied_all items c.logged.deltas ≡ step.0 = made_if (record_applies items c.logged) (applied_all items c.logged.deltas) step.0 step.1 in
    ap (λ next. applied_commits next commits) same ∙ made_by_commits step.0 more commits step.2
