-- What the batches of a log give is within the limits.
use Rattle.std.proofs.Common.{◌≡◌, ◌&&◌, Bool, true, false, List, [], ◌∷◌, Option, None, Some, Result, Ok, length, map, nat_le, refl, sym, ap, ◌∙◌, ℕ, arith}
use Rattle.std.proofs.lemmas.Option.{same_Some, cond_some}
use Rattle.std.specs.List.{list_all}
use Rattle.std.specs.FinMap as finite
use Rattle.value_bytes.specs.Steps.{◌>>=◌}
use Rattle.item_changes.specs.Items.{Items, Database, name_cmp}
use Rattle.item_changes.specs.Effects.{applied_all, all_apply}
use Rattle.idb_databases.specs.Items.{fits_stores, is_within_limits}
use Rattle.idb_databases.specs.declared.limits.TheConstants.{GREATEST_DATABASE_COUNT}
use Rattle.gate_areas.specs.Sealed.{BatchList}
use Rattle.record_bytes.specs.declared.records.LogRecord.{LogRecord}
use Rattle.record_bytes.specs.Reading.{records_in_batch}
use Rattle.log_history.specs.Replayed.{are_unbroken, record_applies, after_record, after_records, after_payload, or_fault, replayed_on, replayed}

last_true : (a b c : Bool) → (a && (b && c)) ≡ true → c ≡ true
last_true false b c e = absurd cc
last_true true false c e = absurd cc
last_true true true c e = e

same_Ok : {X Y : Type 0} (x y : X) → ◌≡◌ {A = Result X Y} (Ok x) (Ok y) → x ≡ y
same_Ok x y e = cc

of_record : (items more : Items) (r : LogRecord) → after_record items r ≡ Some more → is_within_limits more ≡ true
of_record items more r e =
    let made = applied_all items r.deltas in
    let both = cond_some (record_applies items r) made more e in
    sym (ap is_within_limits both.1) ∙ last_true (all_apply items r.deltas) (are_unbroken made) (is_within_limits made) both.0

of_records : (rs : List LogRecord) (items more : Items) → is_within_limits items ≡ true → after_records items rs ≡ Some more → is_within_limits more ≡ true
of_records [] items more few e = sym (ap is_within_limits (same_Some items more e)) ∙ few
of_records (r ∷ rs) items more few e = by_record (λ next. of_records rs next more) (after_record items r) refl e
  where
    by_record : ((next : Items) → is_within_limits next ≡ true → after_records next rs ≡ Some more → is_within_limits more ≡ true)
        → (o : Option Items) → after_record items r ≡ o → (o >>= λ next. after_records next rs) ≡ Some more → is_within_limits more ≡ true
    by_record rest None is e = absurd cc
    by_record rest (Some next) is e = rest next (of_record items next r is) e

of_payload : (bytes : List ℕ) (items more : Items) → is_within_limits items ≡ true → after_payload items bytes ≡ Some more → is_within_limits more ≡ true
of_payload bytes items more few e = by_batch (records_in_batch bytes) e
  where
    by_batch : (o : Option (List LogRecord)) → (o >>= λ rs. after_records items rs) ≡ Some more → is_within_limits more ≡ true
    by_batch None e = absurd cc
    by_batch (Some rs) e = of_records rs items more few e

of_batches : (batches : BatchList) (items more : Items) → is_within_limits items ≡ true → replayed_on (Ok items) batches ≡ Ok more → is_within_limits more ≡ true
of_batches [] items more few e = sym (ap is_within_limits (same_Ok items more e)) ∙ few
of_batches (b ∷ bs) items more few e = by_payload (λ next. of_batches bs next more) (after_payload items b.1) refl e
  where
    by_payload : ((next : Items) → is_within_limits next ≡ true → replayed_on (Ok next) bs ≡ Ok more → is_within_limits more ≡ true)
        → (o : Option Items) → after_payload items b.1 ≡ o → replayed_on (or_fault b.0 o) bs ≡ Ok more → is_within_limits more ≡ true
    by_payload rest None is e = absurd cc
    by_payload rest (Some next) is e = rest next (of_payload b.1 items next few is) e

none_in : {X Y : Type 0} (f : Y → Bool) (g : X → Y) (xs : List X) → length xs ≡ 0 → list_all f (map g xs) ≡ true
none_in f g [] none = refl
none_in f g (x ∷ xs) none = absurd (omega (arith, none))

none_within : is_within_limits finite.empty ≡ true
none_within =
    let none = finite.len-empty name_cmp Database in
    let blank : Items = finite.empty in
    ap (λ n. nat_le n GREATEST_DATABASE_COUNT && list_all fits_stores (finite.values blank)) none
    ∙ none_in fits_stores (λ e. e.1) (finite.entries blank) (sym (finite.len-entries blank) ∙ none)

pub within_limits : (batches : BatchList) (items : Items) → replayed batches ≡ Ok items → is_within_limits items ≡ true
within_limits batches items e = of_batches batches finite.empty items none_within e
