-- Schemas by the names of their stores.
--     found_named           what an id finds stands under its own name
--     named_put, named_removed, named_changed      the definitions by name once a store comes, goes, or is changed
--     apart_put, apart_removed                     no two stores have one name then
use Rattle.std.proofs.Common.{◌≡◌, ℕ, suc, ◌==◌, nat_eq, Bool, true, false, if◌then◌else◌, List, [], ◌∷◌, remove, slice_get, Option, Some, None, option_map, is_some, inl, inr, refl, sym, ◌∙◌, ap, subst, arith}
use Rattle.std.specs.List.{find, position}
use Rattle.std.specs.Ordering.{is_lt, nat_cmp}
use Rattle.std.specs.Cmp.{eq_by_cmp_equiv}
use Rattle.std.specs.Cmp.Lexicographic.{slice_cmp, pointwise, texts_ties}
use Rattle.std.proofs.lemmas.Bool.{cases_Bool}
use Rattle.std.proofs.lemmas.Grind.{common_steps}
use Rattle.idb_schema.specs.declared.definitions.StoreInfo.{StoreInfo}
use Rattle.idb_schema.specs.declared.entries.StoreEntry.{StoreEntry}
use Rattle.idb_schema.specs.Definitions.{store_named}
use Rattle.idb_schema.specs.Schemas.{infos_of, put_in_order, change_at}
use Rattle.item_changes.specs.Items.{Name, is_same_name}
use Rattle.item_changes.proofs.Laws.{names_total, same_name}
use Rattle.machine_laws.specs.Keeping.{info_named, AreApart}

-- ---- names
pub itself : (n : Name) → is_same_name n n ≡ true
itself n = (eq_by_cmp_equiv names_total).refl n

pub either_way : (a b : Name) → is_same_name a b ≡ is_same_name b a
either_way a b = (eq_by_cmp_equiv names_total).symm a b

-- two names that are not one are not both a third
pub not_both : (a b q : Name) → is_same_name a b ≡ false → is_same_name a q ≡ true → is_same_name b q ≡ false
not_both a b q apart same = ap (is_same_name b) (sym (same_name a q same)) ∙ either_way b a ∙ apart

none_parts : {X : Type 0} (b : Bool) (x : X) (o : Option X) → (if b then Some x else o) ≡ None → (b ≡ false) × (o ≡ None)
none_parts true x o e = cc
none_parts false x o e = (refl, e)

-- two tests of which at most one passes
either_first : {X : Type 0} (a b : Bool) (x y z : X) → (a ≡ true → b ≡ false) → (if a then x else if b then y else z) ≡ (if b then y else if a then x else z)
either_first true b x y z apart = rw (apart refl) refl
either_first false b x y z apart = refl

shadows : {X : Type 0} (a : Bool) (x y z : X) → (if a then x else z) ≡ (if a then x else if a then y else z)
shadows true x y z = refl
shadows false x y z = refl

pub when_false : {X : Type 0} (a : Bool) (x y : X) → a ≡ false → (if a then x else y) ≡ y
when_false true x y e = cc
when_false false x y e = refl

when_true : {X : Type 0} (a : Bool) (x y : X) → a ≡ true → (if a then x else y) ≡ x
when_true true x y e = refl
when_true false x y e = cc

-- ---- a store comes
pub named_put : (es : List StoreEntry) (e : StoreEntry) (q : Name) → info_named es e.info.name ≡ None → info_named (put_in_order es e) q ≡ (if is_same_name e.info.name q then Some e.info else info_named es q)
named_put [] e q new = refl
named_put (d ∷ ds) e q new =
    let parts = none_parts (is_same_name d.info.name e.info.name) d.info (info_named ds e.info.name) new in
    elim (is_lt (slice_cmp nat_cmp e.info.name d.info.name)) as (λ b. info_named (if b then e ∷ d ∷ ds else d ∷ put_in_order ds e) q ≡ (if is_same_name e.info.name q then Some e.info else info_named (d ∷ ds) q)) [
      | true ↦ refl
      | false ↦ ap (λ o. if is_same_name d.info.name q then Some d.info else o) (named_put ds e q parts.1)
          ∙ either_first (is_same_name d.info.name q) (is_same_name e.info.name q) (Some d.info) (Some e.info) (info_named ds q) (not_both d.info.name e.info.name q parts.0)
    ]

pub apart_put : (es : List StoreEntry) (e : StoreEntry) → AreApart es → info_named es e.info.name ≡ None → AreApart (put_in_order es e)
apart_put [] e apart new = (refl, tt)
apart_put (d ∷ ds) e apart new =
    let parts = none_parts (is_same_name d.info.name e.info.name) d.info (info_named ds e.info.name) new in
    elim (is_lt (slice_cmp nat_cmp e.info.name d.info.name)) as (λ b. AreApart (if b then e ∷ d ∷ ds else d ∷ put_in_order ds e)) [
      | true ↦ (new, apart)
      | false ↦ (named_put ds e d.info.name parts.1 ∙ when_false (is_same_name e.info.name d.info.name) (Some e.info) (info_named ds d.info.name) (either_way e.info.name d.info.name ∙ parts.0) ∙ apart.0, apart_put ds e apart.1 parts.1)
    ]

-- ---- the first that passes a test
position_more : {X : Type 0} (test : X → Bool) (x : X) (xs : List X) → position test (x ∷ xs) ≡ (if test x then Some 0 else option_map suc (position test xs))
position_more test x xs = grind (arith, common_steps)

-- it is the first, or one of the others
position_here : {X : Type 0} (test : X → Bool) (x : X) (xs : List X) (p : ℕ) → position test (x ∷ xs) ≡ Some p → test x ≡ true → p ≡ 0
position_here test x xs p e passes = let first : position test (x ∷ xs) ≡ Some 0 = position_more test x xs ∙ when_true (test x) (Some 0) (option_map suc (position test xs)) passes in cc

mapped_suc : (o : Option ℕ) (p : ℕ) → option_map suc o ≡ Some p → (k : ℕ) × (p ≡ suc k) × (o ≡ Some k)
mapped_suc None p e = cc
mapped_suc (Some k) p e = (k, cc, refl)

position_later : {X : Type 0} (test : X → Bool) (x : X) (xs : List X) (p : ℕ) → position test (x ∷ xs) ≡ Some p → test x ≡ false → (k : ℕ) × (p ≡ suc k) × (position test xs ≡ Some k)
position_later test x xs p e fails = mapped_suc (position test xs) p (sym (position_more test x xs ∙ when_false (test x) (Some 0) (option_map suc (position test xs)) fails) ∙ e)

abbrev has_that_name : Name → StoreInfo → Bool
has_that_name name info = pointwise nat_eq info.name name

same_test : (name : Name) (info : StoreInfo) (b : Bool) → has_that_name name info ≡ b → is_same_name info.name name ≡ b
same_test name info b e = sym (texts_ties info.name name) ∙ e

-- a name finds a store exactly where a store has it
pub named_there : (es : List StoreEntry) (name : Name) → is_some (store_named (infos_of es) name) ≡ is_some (info_named es name)
named_there [] name = refl
named_there (e ∷ es) name = elim (cases_Bool (has_that_name name e.info)) [
  | inl here ↦ ap is_some (position_more (has_that_name name) e.info (infos_of es) ∙ when_true _ (Some 0) (option_map suc (store_named (infos_of es) name)) here)
      ∙ sym (ap is_some (when_true (is_same_name e.info.name name) (Some e.info) (info_named es name) (same_test name e.info true here)))
  | inr other ↦ ap is_some (position_more (has_that_name name) e.info (infos_of es) ∙ when_false _ (Some 0) (option_map suc (store_named (infos_of es) name)) other)
      ∙ some_suc (store_named (infos_of es) name) ∙ named_there es name
      ∙ sym (ap is_some (when_false (is_same_name e.info.name name) (Some e.info) (info_named es name) (same_test name e.info false other)))
]
  where
    some_suc : (o : Option ℕ) → is_some (option_map suc o) ≡ is_some o
    some_suc None = refl
    some_suc (Some k) = refl

-- ---- a store goes
pub record Removed (es : List StoreEntry) (name : Name) (p : ℕ) : Type 0 where
  pub named : (q : Name) → info_named (remove es p) q ≡ (if is_same_name name q then None else info_named es q)
  pub apart : AreApart (remove es p)

gone_first : (e : StoreEntry) (es : List StoreEntry) (name q : Name) (b : Bool) → is_same_name e.info.name name ≡ true → info_named es e.info.name ≡ None → is_same_name name q ≡ b
    → info_named es q ≡ (if b then None else if is_same_name e.info.name q then Some e.info else info_named es q)
gone_first e es name q true here apart is = ap (info_named es) (sym (same_name name q is) ∙ sym (same_name e.info.name name here)) ∙ apart
gone_first e es name q false here apart is = sym (when_false (is_same_name e.info.name q) (Some e.info) (info_named es q) (ap (λ n. is_same_name n q) (same_name e.info.name name here) ∙ is))

pub removed_at : (es : List StoreEntry) (name : Name) (p : ℕ) → AreApart es → store_named (infos_of es) name ≡ Some p → Removed es name p
removed_at [] name p apart e = cc
removed_at (e ∷ es) name p apart at = elim (cases_Bool (has_that_name name e.info)) [
  | inl here ↦ subst (Removed (e ∷ es) name) (sym (position_here (has_that_name name) e.info (infos_of es) p at here)) (record {
    named = λ q. gone_first e es name q (is_same_name name q) (same_test name e.info true here) apart.0 refl;
    apart = apart.1;
  })
  | inr other ↦ (
      let later = position_later (has_that_name name) e.info (infos_of es) p at other in
      let rest = removed_at es name later.0 apart.1 later.2 in
      let differ = same_test name e.info false other in
      subst (Removed (e ∷ es) name) (sym later.1) (record {
        named = λ q. ap (λ o. if is_same_name e.info.name q then Some e.info else o) (rest.named q)
            ∙ either_first (is_same_name e.info.name q) (is_same_name name q) (Some e.info) None (info_named es q) (not_both e.info.name name q differ);
        apart = (rest.named e.info.name ∙ none_either (is_same_name name e.info.name) (info_named es e.info.name) apart.0, rest.apart);
      }))
]
  where
    none_either : (b : Bool) (o : Option StoreInfo) → o ≡ None → (if b then None else o) ≡ None
    none_either true o e = refl
    none_either false o e = e

-- ---- a store is changed
abbrev pub has_that_id : ℕ → StoreEntry → Bool
has_that_id n e = e.id == n

-- what an id finds stands under its own name
pub found_named : (es : List StoreEntry) (n : ℕ) (e : StoreEntry) → AreApart es → find (has_that_id n) es ≡ Some e → info_named es e.info.name ≡ Some e.info
found_named [] n e apart at = cc
found_named (d ∷ ds) n e apart at = elim (cases_Bool (has_that_id n d)) [
  | inl here ↦ (
      let same : d ≡ e = one_found d e (sym (when_true (has_that_id n d) (Some d) (find (has_that_id n) ds) here) ∙ at) in
      subst (λ x. info_named (d ∷ ds) x.info.name ≡ Some x.info) same (when_true (is_same_name d.info.name d.info.name) (Some d.info) (info_named ds d.info.name) (itself d.info.name)))
  | inr other ↦ (
      let rest = found_named ds n e apart.1 (sym (when_false (has_that_id n d) (Some d) (find (has_that_id n) ds) other) ∙ at) in
      when_false (is_same_name d.info.name e.info.name) (Some d.info) (info_named ds e.info.name) (not_first d e ds (is_same_name d.info.name e.info.name) apart.0 rest refl) ∙ rest)
]
  where
    one_found : (d e : StoreEntry) → Some d ≡ Some e → d ≡ e
    one_found d e same = cc

    not_first : (d e : StoreEntry) (ds : List StoreEntry) (b : Bool) → info_named ds d.info.name ≡ None → info_named ds e.info.name ≡ Some e.info → is_same_name d.info.name e.info.name ≡ b → b ≡ false
    not_first d e ds false none some is = refl
    not_first d e ds true none some is = let no : None ≡ Some e.info = sym none ∙ ap (info_named ds) (same_name d.info.name e.info.name is) ∙ some in cc

pub record ChangedAt (es : List StoreEntry) (n p : ℕ) (change : StoreEntry → StoreEntry) : Type 0 where
  pub entry : StoreEntry
  pub found : find (has_that_id n) es ≡ Some entry
  pub stands : slice_get es p ≡ Some entry
  pub named : (q : Name) → info_named (change_at es p change) q ≡ (if is_same_name entry.info.name q then Some (change entry).info else info_named es q)
  pub apart : AreApart (change_at es p change)

pub changed_entry : (es : List StoreEntry) (n p : ℕ) (change : StoreEntry → StoreEntry) → ((e : StoreEntry) → (change e).info.name ≡ e.info.name) → AreApart es → position (has_that_id n) es ≡ Some p → ChangedAt es n p change
changed_entry [] n p change keeps apart at = cc
changed_entry (e ∷ es) n p change keeps apart at = elim (cases_Bool (has_that_id n e)) [
  | inl here ↦ subst (λ k. ChangedAt (e ∷ es) n k change) (sym (position_here (has_that_id n) e es p at here)) (record {
    entry = e;
    found = when_true (has_that_id n e) (Some e) (find (has_that_id n) es) here;
    stands = refl;
    named = λ q. ap (λ m. if is_same_name m q then Some (change e).info else info_named es q) (keeps e) ∙ shadows (is_same_name e.info.name q) (Some (change e).info) (Some e.info) (info_named es q);
    apart = (ap (info_named es) (keeps e) ∙ apart.0, apart.1);
  })
  | inr other ↦ (
      let later = position_later (has_that_id n) e es p at other in
      let rest = changed_entry es n later.0 change keeps apart.1 later.2 in
      let differ = differs e rest.entry es (is_same_name e.info.name rest.entry.info.name) apart.0 (found_named es n rest.entry apart.1 rest.found) refl in
      subst (λ k. ChangedAt (e ∷ es) n k change) (sym later.1) (record {
        entry = rest.entry;
        found = when_false (has_that_id n e) (Some e) (find (has_that_id n) es) other ∙ rest.found;
        stands = rest.stands;
        named = λ q. ap (λ o. if is_same_name e.info.name q then Some e.info else o) (rest.named q)
            ∙ either_first (is_same_name e.info.name q) (is_same_name rest.entry.info.name q) (Some e.info) (Some (change rest.entry).info) (info_named es q) (not_both e.info.name rest.entry.info.name q differ);
        apart = (rest.named e.info.name ∙ when_false (is_same_name rest.entry.info.name e.info.name) (Some (change rest.entry).info) (info_named es e.info.name) (either_way rest.entry.info.name e.info.name ∙ differ) ∙ apart.0, rest.apart);
      }))
]
  where
    differs : (d e : StoreEntry) (ds : List StoreEntry) (b : Bool) → info_named ds d.info.name ≡ None → info_named ds e.info.name ≡ Some e.info → is_same_name d.info.name e.info.name ≡ b → b ≡ false
    differs d e ds false none some is = refl
    differs d e ds true none some is = let no : None ≡ Some e.info = sym none ∙ ap (info_named ds) (same_name d.info.name e.info.name is) ∙ some in cc
