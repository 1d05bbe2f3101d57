-- Databases stay sound where a part of them comes back.
--     sound_joined          with a sound part
--     sound_without         without a database
use Rattle.std.proofs.Common.{◌≡◌, Bool, true, false, cond, List, [], ◌∷◌, Option, Some, None, inl, inr, refl, sym, ◌∙◌, ap, subst}
use Rattle.std.specs.Option.{option_or}
use Rattle.std.specs.FinMap as finite
use Rattle.std.proofs.lemmas.Bool.{cases_Bool}
use Rattle.object_stores.specs.Store.{Store}
use Rattle.idb_calls.specs.Deltas.{DropDatabase}
use Rattle.item_changes.specs.Items.{Name, name_cmp, is_same_name, Database, Items, stores_in}
use Rattle.item_changes.specs.Effects.{applied_all}
use Rattle.item_changes.specs.Scopes.{Access, Reads, Writes, Whole, Scope, is_among}
use Rattle.item_changes.proofs.Laws.{names_total, one_name, same_name, changed_here, changed_elsewhere}
use Rattle.idb_databases.specs.Stores.{Stores, AreStores}
use Rattle.session_databases.specs.Parts.{with_stores_of, joined_by, with_part, AreSoundDatabases}
use Rattle.session_databases.proofs.Parts.{get_with}

none_sound : AreStores (stores_in None)
none_sound name store at = let no : None ≡ Some store = sym (finite.get-empty name_cmp name) ∙ at in cc

by_either : {G : Type 0} (b : Bool) (o r : Option Store) (x : Store) → (o ≡ Some x → G) → (r ≡ Some x → G) → option_or (cond b o None) r ≡ Some x → G
by_either true (Some y) r x f g e = f e
by_either true None r x f g e = g e
by_either false o r x f g e = g e

with_sound : (names : List Name) (others m : Stores) → AreStores others → AreStores m → AreStores (with_stores_of names others m)
with_sound names others m p t q x at = by_either (is_among names q) (finite.get others q) (finite.get m q) x (p q x) (t q x) (sym (get_with names others m q) ∙ at)

joined_sound : (access : Access) (part there : Option Database) → AreStores (stores_in part) → AreStores (stores_in there) → AreStores (stores_in (joined_by access part there))
joined_sound (Reads names) part None p t = none_sound
joined_sound (Reads names) part (Some d) p t = with_sound names (stores_in part) d.stores p t
joined_sound (Writes names) part None p t = none_sound
joined_sound (Writes names) part (Some d) p t = with_sound names (stores_in part) d.stores p t
joined_sound Whole part there p t = p

sound_at : (items : Items) (k : Name) (o : Option Database) → finite.get items k ≡ o → AreSoundDatabases items → AreStores (stores_in o)
sound_at items k None e sound = none_sound
sound_at items k (Some d) e sound = sound k d e

pub sound_joined : (scope : Scope) (items : Items) (part : Option Database) → AreSoundDatabases items → AreStores (stores_in part) → AreSoundDatabases (with_part scope items part)
sound_joined scope items part sound p q d at = elim (cases_Bool (is_same_name q scope.database)) [
  | inl same ↦
      let here : finite.get (with_part scope items part) scope.database ≡ Some d = ap (finite.get (with_part scope items part)) (sym (same_name q scope.database same)) ∙ at in
      let is : joined_by scope.access part (finite.get items scope.database) ≡ Some d = sym (changed_here names_total one_name items scope.database (joined_by scope.access part)) ∙ here in
      subst (λ (o : Option Database). AreStores (stores_in o)) is (joined_sound scope.access part (finite.get items scope.database) p (sound_at items scope.database (finite.get items scope.database) refl sound))
  | inr other ↦ sound q d (sym (changed_elsewhere names_total one_name items scope.database (joined_by scope.access part) q other) ∙ at)
]

pub sound_without : (items : Items) (name : Name) → AreSoundDatabases items → AreSoundDatabases (applied_all items (DropDatabase name ∷ []))
sound_without items name sound = sound_joined (record { database = name; access = Whole }) items None sound none_sound
