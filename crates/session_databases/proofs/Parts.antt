-- The part of the databases that a scope takes out of them.
--     get_kept, get_with    what stands under a name in a part of the stores;  and in stores with others
--     move_step, left_step, moved_none, left_none         the stores that move name by name
--     moved_from            to where there are none
--     rejoined, left_all, applied_part      a part taken out and put back, also after changes
--     whole_seen, stores_held       the part of the whole;  the stores of what is held apart
use Rattle.std.proofs.Common.{◌≡◌, ℕ, ◌+◌, drop, Bool, true, false, not, ◌||◌, cond, List, [], ◌∷◌, Option, Some, None, inl, inr, refl, sym, ◌∙◌, ap, subst}
use Rattle.std.specs.Option.{option_or}
use Rattle.std.specs.FinMap as finite
use Rattle.std.specs.FinMap.{find}
use Rattle.std.proofs.lemmas.Bool.{and_parts, cases_Bool, false≢true}
use Rattle.idb_base.specs.Lists.{StandsAt}
use Rattle.object_stores.specs.Store.{Store}
use Rattle.idb_calls.specs.Deltas.{DeltaTree}
use Rattle.item_changes.specs.Items.{Name, name_cmp, is_same_name, Database, Items, stood_at, changed_at, stores_in}
use Rattle.item_changes.specs.Effects.{Effect, OnDatabase, OnStore, effect_of, database_of, made, made_all, applied, applied_all}
use Rattle.item_changes.specs.Scopes.{Access, Reads, Writes, Whole, Scope, is_among, allows, is_within, AllWithin, seen_by, part_of}
use Rattle.item_changes.proofs.Laws.{names_total, one_name, same_name, changed_here, changed_elsewhere, changed_twice, retain_left, inside_all}
use Rattle.idb_databases.specs.Stores.{Stores}
use Rattle.live_stores.specs.Live.{database_at}
use Rattle.session_databases.specs.Parts.{is_not_among, left_by, without_part, put_if, put_all, with_stores_of, joined_by, with_part}

same_stores : (m n : Stores) → ((q : Name) → finite.get m q ≡ finite.get n q) → m ≡ n
same_stores m n is = finite.same_map names_total one_name m n is

same_items : (m n : Items) → ((q : Name) → finite.get m q ≡ finite.get n q) → m ≡ n
same_items m n is = finite.same_map names_total one_name m n is

-- ---- a part of the stores, and stores with others
get_kept : (m : Stores) (p : Name → Bool) (q : Name) → finite.get (finite.retain_keys m p) q ≡ cond (p q) (finite.get m q) None
get_kept m p q = finite.get-retain_keys m p q (λ x e. sym (ap p (one_name q x e)))

get_all : (es : List (Name × Store)) (m : Stores) (q : Name) → finite.get (put_all es m) q ≡ option_or (find name_cmp q es) (finite.get m q)
get_all [] m q = refl
get_all (e ∷ es) m q =
    finite.get-insert names_total (put_all es m) e.0 e.1 q
    ∙ ap (cond (is_same_name q e.0) (Some e.1)) (get_all es m q)
    ∙ either (is_same_name q e.0) e.1 (find name_cmp q es) (finite.get m q)
  where
    either : (b : Bool) (x : Store) (o r : Option Store) → cond b (Some x) (option_or o r) ≡ option_or (cond b (Some x) o) r
    either true x o r = refl
    either false x o r = refl

pub get_with : (names : List Name) (others m : Stores) (q : Name) → finite.get (with_stores_of names others m) q ≡ option_or (cond (is_among names q) (finite.get others q) None) (finite.get m q)
get_with names others m q =
    get_all (finite.entries (finite.retain_keys others (is_among names))) m q
    ∙ ap (λ o. option_or o (finite.get m q)) (sym (finite.get-entries (finite.retain_keys others (is_among names)) q) ∙ get_kept others (is_among names) q)

-- ---- name by name
get_if : (m : Stores) (n : Name) (o : Option Store) (q : Name) → finite.get (put_if m n o) q ≡ cond (is_same_name q n) (option_or o (finite.get m q)) (finite.get m q)
get_if m n (Some x) q = finite.get-insert names_total m n x q
get_if m n None q = both_same (is_same_name q n) (finite.get m q)
  where
    both_same : (b : Bool) (o : Option Store) → o ≡ cond b o o
    both_same true o = refl
    both_same false o = refl

pub move_on : (n : Name) (ns : List Name) (others m : Stores) → with_stores_of ns (finite.remove others n) (put_if m n (finite.get others n)) ≡ with_stores_of (n ∷ ns) others m
move_on n ns others m = same_stores _ _ (λ q.
    get_with ns (finite.remove others n) (put_if m n (finite.get others n)) q
    ∙ ap (λ o. option_or (cond (is_among ns q) o None) (finite.get (put_if m n (finite.get others n)) q)) (finite.get-remove names_total others n q)
    ∙ ap (λ o. option_or (cond (is_among ns q) (cond (is_same_name q n) None (finite.get others q)) None) o) (get_if m n (finite.get others n) q)
    ∙ step (is_same_name q n) (is_among ns q) (finite.get others q) (finite.get others n) (finite.get m q) (λ e. ap (finite.get others) (same_name q n e))
    ∙ sym (get_with (n ∷ ns) others m q))
  where
    step : (b c : Bool) (here there old : Option Store) → (b ≡ true → here ≡ there)
        → option_or (cond c (cond b None here) None) (cond b (option_or there old) old) ≡ option_or (cond (b || c) here None) old
    step true true here there old same = rw (same refl) refl
    step true false here there old same = rw (same refl) refl
    step false c here there old same = refl

pub left_on : (n : Name) (ns : List Name) (others : Stores) → finite.retain_keys (finite.remove others n) (is_not_among ns) ≡ finite.retain_keys others (is_not_among (n ∷ ns))
left_on n ns others = same_stores _ _ (λ q.
    get_kept (finite.remove others n) (is_not_among ns) q
    ∙ ap (λ o. cond (is_not_among ns q) o None) (finite.get-remove names_total others n q)
    ∙ step (is_same_name q n) (is_among ns q) (finite.get others q)
    ∙ sym (get_kept others (is_not_among (n ∷ ns)) q))
  where
    step : (b c : Bool) (here : Option Store) → cond (not c) (cond b None here) None ≡ cond (not (b || c)) here None
    step true true here = refl
    step true false here = refl
    step false c here = refl

pub moved_none : (others m : Stores) → with_stores_of [] others m ≡ m
moved_none others m = same_stores _ _ (λ q. get_with [] others m q)

pub left_none : (others : Stores) → finite.retain_keys others (is_not_among []) ≡ others
left_none others = same_stores _ _ (λ q. get_kept others (is_not_among []) q)

pub moved_from : (names : List Name) (others m : Stores) → m ≡ finite.empty → with_stores_of names others m ≡ finite.retain_keys others (is_among names)
moved_from names others m none = same_stores _ _ (λ q.
    get_with names others m q
    ∙ ap (option_or (cond (is_among names q) (finite.get others q) None)) (ap (λ n. finite.get n q) none ∙ finite.get-empty name_cmp q)
    ∙ alone (cond (is_among names q) (finite.get others q) None)
    ∙ sym (get_kept others (is_among names) q))
  where
    alone : (o : Option Store) → option_or o None ≡ o
    alone None = refl
    alone (Some x) = refl

module _ (names : List Name) (place : ℕ) (n : Name) (here : StandsAt names place n) (from last : Stores) (gone : last ≡ finite.remove from n) where
  pub move_step : (to next all : Stores) → next ≡ put_if to n (finite.get from n) → with_stores_of (drop place names) from to ≡ all → with_stores_of (drop (place + 1) names) last next ≡ all
  move_step to next all put so_far =
      ap (λ m. with_stores_of (drop (place + 1) names) m next) gone
      ∙ ap (with_stores_of (drop (place + 1) names) (finite.remove from n)) put
      ∙ move_on n (drop (place + 1) names) from to
      ∙ ap (λ ns. with_stores_of ns from to) (sym here)
      ∙ so_far

  pub left_step : (all : Stores) → finite.retain_keys from (is_not_among (drop place names)) ≡ all → finite.retain_keys last (is_not_among (drop (place + 1) names)) ≡ all
  left_step all so_far =
      ap (λ m. finite.retain_keys m (is_not_among (drop (place + 1) names))) gone
      ∙ left_on n (drop (place + 1) names) from
      ∙ ap (λ ns. finite.retain_keys from (is_not_among ns)) (sym here)
      ∙ so_far

-- ---- taken out and put back
whole_again : (names : List Name) (m : Stores) → with_stores_of names (finite.retain_keys m (is_among names)) (finite.retain_keys m (is_not_among names)) ≡ m
whole_again names m = same_stores _ _ (λ q.
    get_with names (finite.retain_keys m (is_among names)) (finite.retain_keys m (is_not_among names)) q
    ∙ ap (λ o. option_or (cond (is_among names q) o None) (finite.get (finite.retain_keys m (is_not_among names)) q)) (get_kept m (is_among names) q)
    ∙ ap (option_or (cond (is_among names q) (cond (is_among names q) (finite.get m q) None) None)) (get_kept m (is_not_among names) q)
    ∙ either (is_among names q) (finite.get m q))
  where
    either : (b : Bool) (o : Option Store) → option_or (cond b (cond b o None) None) (cond (not b) o None) ≡ o
    either true None = refl
    either true (Some x) = refl
    either false o = refl

rejoined_there : (access : Access) (there : Option Database) → joined_by access (seen_by access there) (left_by access there) ≡ there
rejoined_there (Reads names) None = refl
rejoined_there (Reads names) (Some d) = ap (λ stores. Some (record d { stores = stores })) (whole_again names d.stores)
rejoined_there (Writes names) None = refl
rejoined_there (Writes names) (Some d) = ap (λ stores. Some (record d { stores = stores })) (whole_again names d.stores)
rejoined_there Whole None = refl
rejoined_there Whole (Some d) = refl

stood_again : (m : Items) (k : Name) → stood_at m k (finite.get m k) ≡ m
stood_again m k = same_items _ _ (λ q. elim (cases_Bool (is_same_name q k)) [
  | inl same ↦ subst (λ n. finite.get (changed_at m k (λ x. x)) n ≡ finite.get m n) (sym (same_name q k same)) (changed_here names_total one_name m k (λ x. x))
  | inr other ↦ changed_elsewhere names_total one_name m k (λ x. x) q other
])

pub rejoined : (scope : Scope) (items : Items) → with_part scope (without_part scope items) (part_of scope items) ≡ items
rejoined scope items =
    changed_twice names_total one_name items scope.database (left_by scope.access) (joined_by scope.access (part_of scope items))
    ∙ ap (stood_at items scope.database) (rejoined_there scope.access (finite.get items scope.database))
    ∙ stood_again items scope.database

-- ---- changes in the scope
left_there : (access : Access) (effect : Effect) (there : Option Database) → allows access effect ≡ true → left_by access (made effect there) ≡ left_by access there
left_there (Reads names) effect there allowed = absurd (false≢true allowed)
left_there (Writes names) (OnDatabase test make) there allowed = absurd (false≢true allowed)
left_there (Writes names) (OnStore store test make) None allowed = refl
left_there (Writes names) (OnStore store test make) (Some d) allowed = ap (λ stores. Some (record d { stores = stores })) (retain_left names_total one_name d.stores (is_not_among names) store make (ap not allowed))
left_there Whole effect there allowed = refl

left_one : (scope : Scope) (items : Items) (delta : DeltaTree) → is_within scope delta ≡ true → without_part scope (applied items delta) ≡ without_part scope items
left_one scope items delta within =
    let parts = and_parts (is_same_name scope.database (database_of delta)) (allows scope.access (effect_of delta)) within in
    subst (λ db. without_part scope (changed_at items db (made (effect_of delta))) ≡ without_part scope items) (same_name scope.database (database_of delta) parts.0)
    (changed_twice names_total one_name items scope.database (made (effect_of delta)) (left_by scope.access)
    ∙ ap (stood_at items scope.database) (left_there scope.access (effect_of delta) (finite.get items scope.database) parts.1))

pub left_all : (scope : Scope) (items : Items) (changes : List DeltaTree) → AllWithin scope changes → without_part scope (applied_all items changes) ≡ without_part scope items
left_all scope items [] all = refl
left_all scope items (d ∷ ds) all = left_all scope (applied items d) ds all.1 ∙ left_one scope items d all.0

pub applied_part : (scope : Scope) (items : Items) (changes : List DeltaTree) → AllWithin scope changes → with_part scope (without_part scope items) (made_all changes (part_of scope items)) ≡ applied_all items changes
applied_part scope items changes all =
    ap (with_part scope (without_part scope items)) (sym (inside_all scope items changes all))
    ∙ ap (λ left. with_part scope left (part_of scope (applied_all items changes))) (sym (left_all scope items changes all))
    ∙ rejoined scope (applied_all items changes)

-- ---- what is held apart
pub whole_seen : (there : Option Database) → there ≡ seen_by Whole there
whole_seen None = refl
whole_seen (Some d) = refl

pub stores_held : (version : Option ℕ) (stores : Stores) → (version ≡ None → stores ≡ finite.empty) → stores ≡ stores_in (database_at version stores)
stores_held None stores none = none refl
stores_held (Some v) stores none = refl
