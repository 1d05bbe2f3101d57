-- Databases in the order of their names, as a map.
--     get_of, of_put, of_without    what is found in it, and what `put` and `without` make of it
--     got_of                what was found in it
--     sorted_put, sorted_without    what stays in order
--     changed_none, changed_some    a change of what was taken out
use Rattle.std.proofs.Common.{◌≡◌, Bool, true, false, not, cond, List, [], ◌∷◌, Option, Some, None, option_map, refl, sym, ◌∙◌, ap, subst}
use Rattle.std.specs.Ordering.{eq_by_cmp}
use Rattle.std.specs.Cmp.{eq_by_cmp_equiv}
use Rattle.std.specs.FinMap as finite
use Rattle.std.specs.FinMap.{FinMap, find, put}
use Rattle.std.specs.FinMap.Entries.{find-put, find-where_key, is_sorted-put, is_sorted-where_key}
use Rattle.sorted_table.specs.Tables.{IsSorted, without}
use Rattle.item_changes.specs.Items.{Name, name_cmp, Database, Items, stood_at, changed_at}
use Rattle.item_changes.proofs.Laws.{names_total, one_name}
use Rattle.idb_databases.specs.Named.{with_values}

module _ {V W : Type 0} (view : V → W) where
  abbrev pub seen_as : List (Name × V) → FinMap name_cmp W
  seen_as es = finite.from_entries {R = name_cmp} (with_values view es)

  picked : (b : Bool) (v : V) (o : Option V) → cond b (Some (view v)) (option_map view o) ≡ option_map view (cond b (Some v) o)
  picked true v o = refl
  picked false v o = refl

  left_out : (b : Bool) (o : Option V) → option_map view (cond (not b) o None) ≡ cond b None (option_map view o)
  left_out true o = refl
  left_out false o = refl

  find_seen : (q : Name) (es : List (Name × V)) → find name_cmp q (with_values view es) ≡ option_map view (find name_cmp q es)
  find_seen q [] = refl
  find_seen q (e ∷ es) = ap (λ o. cond (eq_by_cmp name_cmp q e.0) (Some (view e.1)) o) (find_seen q es) ∙ picked (eq_by_cmp name_cmp q e.0) e.1 (find name_cmp q es)

  pub get_of : (es : List (Name × V)) (q : Name) → finite.get (seen_as es) q ≡ option_map view (find name_cmp q es)
  get_of es q = finite.get-from_entries names_total (with_values view es) q ∙ find_seen q es

  pub got_of : (es : List (Name × V)) (k : Name) (o : Option V) → o ≡ find name_cmp k es → finite.get (seen_as es) k ≡ option_map view o
  got_of es k o is = get_of es k ∙ ap (option_map view) (sym is)

  pub of_put : (es : List (Name × V)) (k : Name) (v : V) → seen_as (put name_cmp k v es) ≡ finite.insert (seen_as es) k (view v)
  of_put es k v = finite.same_map names_total one_name _ _ (λ q.
      get_of (put name_cmp k v es) q
      ∙ ap (option_map view) (find-put name_cmp names_total q k v es)
      ∙ sym (picked (eq_by_cmp name_cmp q k) v (find name_cmp q es))
      ∙ sym (finite.get-insert names_total (seen_as es) k (view v) q ∙ ap (cond (eq_by_cmp name_cmp q k) (Some (view v))) (get_of es q)))

  pub of_without : (es : List (Name × V)) (k : Name) → seen_as (without name_cmp k es) ≡ finite.remove (seen_as es) k
  of_without es k = finite.same_map names_total one_name _ _ (λ q.
      get_of (without name_cmp k es) q
      ∙ ap (option_map view) (find-where_key name_cmp (λ x. not (eq_by_cmp name_cmp k x)) q (λ x e. sym (ap (λ y. not (eq_by_cmp name_cmp k y)) (one_name q x e))) es)
      ∙ left_out (eq_by_cmp name_cmp k q) (find name_cmp q es)
      ∙ ap (λ b. cond b None (option_map view (find name_cmp q es))) ((eq_by_cmp_equiv names_total).symm k q)
      ∙ sym (finite.get-remove names_total (seen_as es) k q ∙ ap (cond (eq_by_cmp name_cmp q k) None) (get_of es q)))

pub sorted_put : {V : Type 0} (es : List (Name × V)) (k : Name) (v : V) (last : List (Name × V)) → last ≡ put name_cmp k v es → IsSorted name_cmp es → IsSorted name_cmp last
sorted_put es k v last is sorted = subst (IsSorted name_cmp) (sym is) (is_sorted-put name_cmp names_total k v es sorted)

pub sorted_without : {V : Type 0} (es : List (Name × V)) (k : Name) (last : List (Name × V)) → last ≡ without name_cmp k es → IsSorted name_cmp es → IsSorted name_cmp last
sorted_without es k last is sorted = subst (IsSorted name_cmp) (sym is) (is_sorted-where_key name_cmp (λ x. not (eq_by_cmp name_cmp k x)) es sorted)

-- ---- what was taken out
insert_removed : (m : Items) (k : Name) (d : Database) → finite.insert (finite.remove m k) k d ≡ finite.insert m k d
insert_removed m k d = finite.same_map names_total one_name _ _ (λ q.
    finite.get-insert names_total (finite.remove m k) k d q
    ∙ ap (cond (eq_by_cmp name_cmp q k) (Some d)) (finite.get-remove names_total m k q)
    ∙ shadows (eq_by_cmp name_cmp q k) (Some d) None (finite.get m q)
    ∙ sym (finite.get-insert names_total m k d q))
  where
    shadows : {A : Type 0} (b : Bool) (x y z : A) → cond b x (cond b y z) ≡ cond b x z
    shadows true x y z = refl
    shadows false x y z = refl

pub changed_none : (m last : Items) (k : Name) (f : Database → Database) → finite.get m k ≡ None → last ≡ finite.remove m k → last ≡ changed_at m k (option_map f)
changed_none m last k f none is = is ∙ sym (ap (λ o. stood_at m k (option_map f o)) none)

pub changed_some : (m taken last : Items) (k : Name) (f : Database → Database) (d new : Database) → finite.get m k ≡ Some d → taken ≡ finite.remove m k → last ≡ finite.insert taken k new → new ≡ f d
    → last ≡ changed_at m k (option_map f)
changed_some m taken last k f d new some left put is =
    put ∙ ap (λ t. finite.insert t k new) left ∙ insert_removed m k new ∙ ap (finite.insert m k) is ∙ sym (ap (λ o. stood_at m k (option_map f o)) some)
