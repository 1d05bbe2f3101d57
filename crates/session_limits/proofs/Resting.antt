-- Databases at rest, and records one behind the other.
use Rattle.std.proofs.Common.{◌≡◌, true, not, ◌&&◌, List, [], ◌∷◌, ◌++◌, Option, Some, None, refl, ap, ◌∙◌}
use Rattle.std.proofs.lemmas.List.{map-append}
use Rattle.value_bytes.specs.Steps.{◌>>=◌}
use Rattle.std.specs.FinMap as finite
use Rattle.item_changes.specs.Items.{Name, Database, Items}
use Rattle.item_changes.specs.Effects.{applied_all, all_apply}
use Rattle.idb_databases.specs.Stores.{AreStores}
use Rattle.idb_databases.specs.Items.{AreItems, is_within_limits}
use Rattle.record_bytes.specs.declared.records.LogRecord.{LogRecord}
use Rattle.log_history.specs.Replayed.{keeps_unique, stores_keep_unique, are_unbroken, is_at_rest, after_record, after_records}
use Rattle.log_history.specs.Batching.{Commit, records_of_commits}
use Rattle.session_limits.proofs.Counting.{values_pass}

-- each store is unbroken by itself
pub unbroken : (items : Items) → ((name : Name) (d : Database) → finite.get items name ≡ Some d → AreStores d.stores) → are_unbroken items ≡ true
unbroken items sound = values_pass stores_keep_unique items (λ db d at. values_pass keeps_unique d.stores (λ name x there. ap not (sound db d at name x there).1.content.unique))

pub rests : (items : Items) → AreItems items → is_within_limits items ≡ true → is_at_rest items ≡ true
rests items sound few = ap (λ b. b && is_within_limits items) (unbroken items (λ name d at. (sound name d at).stores)) ∙ few

pub record_gives : (items : Items) (r : LogRecord) → all_apply items r.deltas ≡ true → is_at_rest (applied_all items r.deltas) ≡ true → after_record items r ≡ Some (applied_all items r.deltas)
record_gives items r apply rest = rw apply (rw rest refl)

-- ---- records, one after the other
bind_some : {A B : Type 0} (o : Option A) (f : A → Option B) (y : B) → (o >>= f) ≡ Some y → (x : A) × (o ≡ Some x) × (f x ≡ Some y)
bind_some None f y e = absurd cc
bind_some (Some x) f y e = (x, refl, e)

same_some : (items mid : Items) → Some items ≡ Some mid → items ≡ mid
same_some items mid e = cc

pub record_more : (items mid new : Items) (rs : List LogRecord) (r : LogRecord) → after_records items rs ≡ Some mid → after_record mid r ≡ Some new → after_records items (rs ++ r ∷ []) ≡ Some new
record_more items mid new [] r e last = ap (λ o. o >>= λ more. Some more) (ap (λ (m : Items). after_record m r) (same_some items mid e) ∙ last)
record_more items mid new (x ∷ xs) r e last =
    let step = bind_some (after_record items x) (λ next. after_records next xs) mid e in
    ap (λ o. o >>= λ next. after_records next (xs ++ r ∷ [])) step.1 ∙ record_more step.0 mid new xs r step.2 last

pub commit_more : (items mid new : Items) (commits : List Commit) (c : Commit) → after_records items (records_of_commits commits) ≡ Some mid → after_record mid c.logged ≡ Some new
    → after_records items (records_of_commits (commits ++ c ∷ [])) ≡ Some new
commit_more items mid new commits c e last =
    ap (λ (rs : List LogRecord). after_records items rs) (map-append (λ (d : Commit). d.logged) commits (c ∷ []))
    ∙ record_more items mid new (records_of_commits commits) c.logged e last
