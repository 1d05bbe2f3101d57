-- Databases that stand when a session begins.
--     all_entries           what holds of all that is found holds of each entry
--     added                 entries put one after the other
--     inserted_more, all_held       stores that move one after the other
--     one_opened, same_databases, in_order              databases that are opened one after the other
--     all_next, sound_at    what was seen at each place, and of what is found
use Rattle.std.proofs.Common.{◌≡◌, ℕ, zero, suc, ◌+◌, ◌<◌, ◌≤◌, Bool, true, false, cond, ◌&&◌, T, List, [], ◌∷◌, ◌++◌, length, take, get_or, Option, Some, None, option_map, Ordering, Equal, is_lt, is_eq, refl, sym, ap, ◌∙◌, subst, inl, inr, add-one, arith}
use Rattle.std.proofs.lemmas.Bool.{cases_Bool}
use Rattle.std.proofs.lemmas.Cmp.{tied_itself}
use Rattle.std.proofs.lemmas.List.{map-append}
use Rattle.std.proofs.lemmas.Option.{none-some, same_Some}
use Rattle.std.specs.Option.{option_or}
use Rattle.std.specs.List.{AllByRecursion}
use Rattle.std.specs.Ordering.{eq_by_cmp}
use Rattle.std.specs.Cmp.{IsTotalOrder}
use Rattle.std.specs.FinMap as finite
use Rattle.std.specs.FinMap.{FinMap, IsAntisymmetric, find, is_sorted}
use Rattle.std.specs.FinMap.Entries.{below_all}
use Rattle.sorted_table.specs.Tables.{IsSorted}
use Rattle.sorted_table.proofs.Laws.{first, second, is_less}
use Rattle.object_stores.specs.Store.{Store, Kept}
use Rattle.item_changes.specs.Items.{Name, name_cmp, Items}
use Rattle.item_changes.specs.Items as items
use Rattle.item_changes.proofs.Laws.{names_total, one_name}
use Rattle.idb_databases.specs.declared.databases.Database.{Database}
use Rattle.idb_databases.specs.Named.{with_values}
use Rattle.idb_databases.specs.Stores.{Stores, AreStores, store_alone}
use Rattle.idb_databases.specs.Views.{database_alone}
use Rattle.idb_databases.proofs.Laws.{all_found}
use Rattle.session_databases.specs.declared.entries.SessionDatabase.{SessionDatabase}
use Rattle.session_databases.specs.Sessions.{database_seen, session_items, all_inserted}
use Rattle.session_databases.proofs.Seen.{get_of}

-- ---- entries
tied : (r : Ordering) → is_eq r ≡ true → r ≡ Equal
tied Equal e = refl
tied _ e = cc

either : {X : Type 0} (b : Bool) (found there : Option X) (x : X) → (b ≡ true → found ≡ None) → option_or found (cond b (Some x) there) ≡ option_or (cond b (Some x) found) there
either true found there x none = ap (λ p. option_or p (Some x)) (none refl)
either false found there x none = refl

alone : {X : Type 0} (found : Option X) → option_or found None ≡ found
alone None = refl
alone (Some x) = refl

module _ {K X : Type 0} {R : K → K → Ordering} where
  -- one after the other
  abbrev added : List (K × X) → FinMap R X → FinMap R X
  added [] m = m
  added (e ∷ es) m = added es (finite.insert m e.0 e.1)

module _ {K X : Type 0} (R : K → K → Ordering) where
  below_lacks : (k : K) (es : List (K × X)) → T (below_all R k es) → find R k es ≡ None
  below_lacks k [] h = refl
  below_lacks k (e ∷ es) h = ap (λ r. cond (is_eq r) (Some e.1) (find R k es)) (is_less _ (first _ _ h)) ∙ below_lacks k es (second _ _ h)

  module _ (o : IsTotalOrder R) (same : IsAntisymmetric R) where
    lacks_tied : (e : K × X) (es : List (K × X)) (q : K) → T (below_all R e.0 es) → eq_by_cmp R q e.0 ≡ true → find R q es ≡ None
    lacks_tied e es q h is = ap (λ k. find R k es) (same q e.0 (tied _ is)) ∙ below_lacks e.0 es h

    behind : (e : K × X) (es : List (K × X)) (q : K) (x : X) → T (below_all R e.0 es) → find R q es ≡ Some x → eq_by_cmp R q e.0 ≡ false
    behind e es q x h found = elim (cases_Bool (eq_by_cmp R q e.0)) [
      | inl is ↦ absurd (none-some x (sym (lacks_tied e es q h is) ∙ found))
      | inr out ↦ out
    ]

    all_there : (P : K → X → Type 0) (es : List (K × X)) → T (is_sorted R es) → ((q : K) (x : X) → find R q es ≡ Some x → P q x) → AllByRecursion (λ e. P e.0 e.1) es
    all_there P [] h each = tt
    all_there P (e ∷ es) h each = (
      each e.0 e.1 (ap (λ r. cond (is_eq r) (Some e.1) (find R e.0 es)) (tied_itself o e.0)),
      all_there P es (second _ _ h) (λ q x found. each q x (ap (λ b. cond b (Some e.1) (find R q es)) (behind e es q x (first _ _ h) found) ∙ found)),
    )

    pub all_entries : (P : K → X → Type 0) (m : FinMap R X) → ((q : K) (x : X) → finite.get m q ≡ Some x → P q x) → AllByRecursion (λ e. P e.0 e.1) (finite.entries m)
    all_entries P m each = all_there P (finite.entries m) (finite.entries_sorted m) (λ q x found. each q x (finite.get-entries m q ∙ found))

    get_added : (es : List (K × X)) (m : FinMap R X) (q : K) → T (is_sorted R es) → finite.get (added es m) q ≡ option_or (find R q es) (finite.get m q)
    get_added [] m q h = refl
    get_added (e ∷ es) m q h =
        get_added es (finite.insert m e.0 e.1) q (second _ _ h)
        ∙ ap (option_or (find R q es)) (finite.get-insert o m e.0 e.1 q)
        ∙ either (eq_by_cmp R q e.0) (find R q es) (finite.get m q) e.1 (lacks_tied e es q (first _ _ h))

    added_all : (m n : FinMap R X) → n ≡ finite.empty → added (finite.entries m) n ≡ m
    added_all m n none = finite.same_map o same _ _ (λ q.
        get_added (finite.entries m) n q (finite.entries_sorted m)
        ∙ ap (option_or (find R q (finite.entries m))) (ap (λ k. finite.get k q) none ∙ finite.get-empty R q)
        ∙ alone (find R q (finite.entries m))
        ∙ sym (finite.get-entries m q))

    entries_again : (es : List (K × X)) (m : FinMap R X) → es ≡ finite.entries m → finite.from_entries {R = R} es ≡ m
    entries_again es m is = finite.same_map o same _ _ (λ q. finite.get-from_entries o es q ∙ ap (find R q) is ∙ sym (finite.get-entries m q))

-- ---- stores
abbrev AreNamed : List (Name × Kept) → Type 0
AreNamed es = AllByRecursion (λ e. e.1.store.info.name ≡ e.0) es

named_each : (es : List (Name × Kept)) → AllByRecursion (λ (e : Name × Store). e.1.info.name ≡ e.0) (with_values store_alone es) → AreNamed es
named_each [] all = tt
named_each (e ∷ es) all = (all.0, named_each es all.1)

are_named : (stores : Stores) (es : List (Name × Kept)) → with_values store_alone es ≡ finite.entries stores → AreStores stores → AreNamed es
are_named stores es is sound = named_each es (subst (AllByRecursion (λ (e : Name × Store). e.1.info.name ≡ e.0)) (sym is)
    (all_entries name_cmp names_total one_name (λ name x. x.info.name ≡ name) stores (λ name x at. (sound name x at).0)))

all_added : (stores held : Stores) (es : List (Name × Kept)) → with_values store_alone es ≡ finite.entries stores → held ≡ finite.empty → added (with_values store_alone es) held ≡ stores
all_added stores held es is none = ap (λ l. added l held) is ∙ added_all name_cmp names_total one_name stores held none

inserted_last : (es : List (Name × Kept)) (e : Name × Kept) (m : Stores) → all_inserted (es ++ e ∷ []) m ≡ finite.insert (all_inserted es m) e.1.store.info.name e.1.store
inserted_last [] e m = refl
inserted_last (x ∷ es) e m = inserted_last es e (finite.insert m x.1.store.info.name x.1.store)

pub inserted_more : (es : List (Name × Kept)) (e : Name × Kept) (held last : Stores) → held ≡ all_inserted es finite.empty → last ≡ finite.insert held e.1.store.info.name e.1.store → last ≡ all_inserted (es ++ e ∷ []) finite.empty
inserted_more es e held last so_far put = put ∙ ap (λ m. finite.insert m e.1.store.info.name e.1.store) so_far ∙ sym (inserted_last es e finite.empty)

inserted_named : (es : List (Name × Kept)) (m : Stores) → AreNamed es → all_inserted es m ≡ added (with_values store_alone es) m
inserted_named [] m named = refl
inserted_named (e ∷ es) m named =
    inserted_named es (finite.insert m e.1.store.info.name e.1.store) named.1
    ∙ ap (λ n. added (with_values store_alone es) (finite.insert m n e.1.store)) named.0

pub all_held : (stores : Stores) (es : List (Name × Kept)) → with_values store_alone es ≡ finite.entries stores → AreStores stores → all_inserted es finite.empty ≡ stores
all_held stores es is sound = inserted_named es finite.empty (are_named stores es is sound) ∙ all_added stores finite.empty es is refl

-- ---- databases
module _ {V : Type 0} (view : V → items.Database) where
  below_seen : (k : Name) (es : List (Name × V)) → below_all name_cmp k (with_values view es) ≡ below_all name_cmp k es
  below_seen k [] = refl
  below_seen k (e ∷ es) = ap (λ b. is_lt (name_cmp k e.0) && b) (below_seen k es)

  sorted_seen : (es : List (Name × V)) → is_sorted name_cmp (with_values view es) ≡ is_sorted name_cmp es
  sorted_seen [] = refl
  sorted_seen (e ∷ es) = λ i. below_seen e.0 es i && sorted_seen es i

  seen_sorted : (es : List (Name × V)) → IsSorted name_cmp (with_values view es) → IsSorted name_cmp es
  seen_sorted es h = subst T (sorted_seen es) h

module _ {T R W : Type 0} (es : List (Name × SessionDatabase T R W)) where
  pub one_opened : (out : List (Name × SessionDatabase T R W)) (so_far : List (Name × Database T R W)) (name : Name) (opened : SessionDatabase T R W) (d : Database T R W) → out ≡ es ++ (name, opened) ∷ []
      → with_values database_seen es ≡ with_values database_alone so_far → database_seen opened ≡ database_alone d → with_values database_seen out ≡ with_values database_alone (so_far ++ (name, d) ∷ [])
  one_opened out so_far name opened d pushed seen here =
      ap (with_values database_seen) pushed
      ∙ map-append (λ (e : Name × SessionDatabase T R W). (e.0, database_seen e.1)) es ((name, opened) ∷ [])
      ∙ (λ i. seen i ++ (name, here i) ∷ [])
      ∙ sym (map-append (λ (e : Name × Database T R W). (e.0, database_alone e.1)) so_far ((name, d) ∷ []))

  module _ (all : Items) (is : with_values database_seen es ≡ finite.entries all) where
    pub same_databases : session_items es ≡ all
    same_databases = entries_again name_cmp names_total one_name (with_values database_seen es) all is

    pub in_order : IsSorted name_cmp es
    in_order = seen_sorted database_seen es (subst (IsSorted name_cmp) (sym is) (finite.entries_sorted all))

  -- ---- what was seen
  pub sound_at : AllByRecursion (λ e. AreStores e.1.stores) es → (name : Name) (d : items.Database) → finite.get (session_items es) name ≡ Some d → AreStores d.stores
  sound_at all name d at = seen_at (find name_cmp name es) refl (sym (get_of database_seen es name) ∙ at)
    where
      seen_at : (there : Option (SessionDatabase T R W)) → find name_cmp name es ≡ there → option_map database_seen there ≡ Some d → AreStores d.stores
      seen_at None e seen = absurd (none-some d seen)
      seen_at (Some x) e seen = subst (λ (k : items.Database). AreStores k.stores) (same_Some (database_seen x) d seen) (all_found name_cmp one_name (λ n y. AreStores y.stores) name es x all e)

module _ {X : Type 0} (P : X → Type 0) where
  one_further : (xs : List X) (place : ℕ) (x : X) → place < length xs → AllByRecursion P (take place xs) → P (get_or xs place x) → AllByRecursion P (take (suc place) xs)
  one_further [] place x within all here = absurd (omega arith)
  one_further (y ∷ ys) zero x within all here = (here, tt)
  one_further (y ∷ ys) (suc place) x within all here = (all.0, one_further ys place x (omega arith) all.1 here)

  pub all_next : (xs : List X) (place : ℕ) (x : X) → x ≡ get_or xs place x → place < length xs → AllByRecursion P (take place xs) → P x → AllByRecursion P (take (place + 1) xs)
  all_next xs place x is within all here = subst (λ n. AllByRecursion P (take n xs)) (sym (add-one place)) (one_further xs place x within all (subst P is here))
