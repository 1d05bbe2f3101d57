-- Maps by name, told by what they have at each name.
--     itself                a name is the same as itself
--     get_named             what the map has whose values were turned into others
--     changed_seen          what a map has after a change at one name
--     replaced              what was taken out and changed stands in its place again
--     same_items            items are told by their versions and their stores
use Rattle.std.proofs.Common.{◌≡◌, ℕ, true, false, cond, List, [], ◌∷◌, map, Option, Some, None, option_map, option_and_then, refl, sym, ap, ◌∙◌}
use Rattle.std.proofs.lemmas.Option.{same_Some}
use Rattle.std.specs.Ordering.{is_eq}
use Rattle.std.specs.Cmp.{tied_itself}
use Rattle.std.specs.FinMap as finite
use Rattle.std.specs.FinMap.{FinMap, find}
use Rattle.object_stores.specs.Store.{Store}
use Rattle.item_changes.specs.Items.{Name, name_cmp, is_same_name, Database, Items, stood_at, changed_at, store_at}
use Rattle.item_changes.proofs.Laws.{names_total, one_name, same_name, changed_here, changed_elsewhere, changed_twice}
use Rattle.record_changes.specs.Loosened.{named_map}

pub itself : (q : Name) → is_same_name q q ≡ true
itself q = ap is_eq (tied_itself names_total q)

module _ {X Y : Type 0} (f : Name → X → Y) where
  find_named : (q : Name) (es : List (Name × X)) → find name_cmp q (map (λ e. (e.0, f e.0 e.1)) es) ≡ option_map (f q) (find name_cmp q es)
  find_named q [] = refl
  find_named q (e ∷ es) =
      elim (is_same_name q e.0) as (λ b. is_same_name q e.0 ≡ b → cond b (Some (f e.0 e.1)) (find name_cmp q (map (λ e. (e.0, f e.0 e.1)) es)) ≡ option_map (f q) (cond b (Some e.1) (find name_cmp q es))) [
        | true ↦ λ tied. ap (λ (k : Name). Some (f k e.1)) (sym (same_name q e.0 tied))
        | false ↦ λ tied. find_named q es
      ] refl

  pub get_named : (m : FinMap name_cmp X) (q : Name) → finite.get (named_map f m) q ≡ option_map (f q) (finite.get m q)
  get_named m q =
      finite.get-from_entries names_total (map (λ e. (e.0, f e.0 e.1)) (finite.entries m)) q
      ∙ find_named q (finite.entries m)
      ∙ ap (option_map (f q)) (sym (finite.get-entries m q))

pub changed_seen : {X : Type 0} (m : FinMap name_cmp X) (k : Name) (f : Option X → Option X) (q : Name) → finite.get (changed_at m k f) q ≡ cond (is_same_name q k) (f (finite.get m k)) (finite.get m q)
changed_seen m k f q =
    elim (is_same_name q k) as (λ b. is_same_name q k ≡ b → finite.get (changed_at m k f) q ≡ cond b (f (finite.get m k)) (finite.get m q)) [
      | true ↦ λ e. ap (finite.get (changed_at m k f)) (same_name q k e) ∙ changed_here names_total one_name m k f
      | false ↦ λ e. changed_elsewhere names_total one_name m k f q e
    ] refl

pub replaced : {X : Type 0} (m taken last : FinMap name_cmp X) (k n : Name) (old new : X) (change : Option X → Option X) → finite.get m k ≡ Some old → taken ≡ finite.remove m k → last ≡ finite.insert taken n new → n ≡ k → change (Some old) ≡ Some new
    → last ≡ changed_at m k change
replaced m taken last k n old new change there left put named made =
    put ∙ ap (λ t. finite.insert t n new) left ∙ ap (λ (j : Name). finite.insert (finite.remove m k) j new) named
    ∙ changed_twice names_total one_name m k (λ _. None) (λ _. Some new)
    ∙ ap (stood_at m k) (sym (ap change there ∙ made))

abbrev pub version_in : Option Database → Option ℕ
version_in there = option_map (λ d. d.version) there

abbrev pub store_in : Name → Option Database → Option Store
store_in name there = option_and_then (λ d. finite.get d.stores name) there

same_database : (x y : Option Database) → version_in x ≡ version_in y → ((name : Name) → store_in name x ≡ store_in name y) → x ≡ y
same_database None None v s = refl
same_database None (Some e) v s = cc
same_database (Some d) None v s = cc
same_database (Some d) (Some e) v s =
    let versions : d.version ≡ e.version = same_Some d.version e.version v in
    let stores : d.stores ≡ e.stores = finite.same_map names_total one_name d.stores e.stores s in
    λ i. Some (record { version = versions i; stores = stores i })

pub same_items : (a b : Items) → ((db : Name) → version_in (finite.get a db) ≡ version_in (finite.get b db)) → ((db name : Name) → store_at a db name ≡ store_at b db name) → a ≡ b
same_items a b versions stores = finite.same_map names_total one_name a b (λ q. same_database (finite.get a q) (finite.get b q) (versions q) (stores q))
