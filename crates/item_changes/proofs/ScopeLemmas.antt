-- What changes within a scope come to, within it and outside.
use Rattle.std.proofs.Common.{◌≡◌, Bool, true, false, ◌&&◌, ◌||◌, List, [], ◌∷◌, Option, Some, None, inl, inr, refl, sym, ◌∙◌, ap, subst}
use Rattle.std.specs.List.{list_any}
use Rattle.std.specs.Cmp.{IsTotalOrder, eq_by_cmp_equiv}
use Rattle.std.proofs.lemmas.Cmp.{nat_list_cmp_total}
use Rattle.std.specs.FinMap as finite
use Rattle.std.specs.FinMap.{IsAntisymmetric, slice_cmp-IsAntisymmetric, nat_cmp-IsAntisymmetric}
use Rattle.std.proofs.lemmas.Bool.{and_parts, or_cases, cases_Bool, false≢true}
use Rattle.object_stores.specs.Store.{Store}
use Rattle.idb_calls.specs.Deltas.{DeltaTree}
use Rattle.item_changes.specs.Items.{Name, name_cmp, is_same_name, Database, Items, stood_at, changed_at}
use Rattle.item_changes.specs.Effects.{Effect, OnDatabase, OnStore, effect_of, database_of, finds, made, made_all, finds_all, applied, applies, applied_all, all_apply}
use Rattle.item_changes.specs.Scopes.{Access, Reads, Writes, Whole, Scope, is_among, share_name, clashes, scopes_conflict, allows, is_within, AllWithin, seen_by, part_of}
use Rattle.item_changes.proofs.ChangedAt.{one_key, changed_here, changed_elsewhere, changed_apart, changed_twice, retained, retain_kept, retain_left}

pub names_total : IsTotalOrder name_cmp
names_total = nat_list_cmp_total

pub one_name : IsAntisymmetric name_cmp
one_name = slice_cmp-IsAntisymmetric nat_cmp-IsAntisymmetric

pub same_name : (a b : Name) → is_same_name a b ≡ true → a ≡ b
same_name a b e = one_key names_total one_name a b e

pub names_either_way : (a b : Name) → is_same_name a b ≡ is_same_name b a
names_either_way a b = (eq_by_cmp_equiv names_total).symm a b

or_parts : (a b : Bool) → (a || b) ≡ false → (a ≡ false) × (b ≡ false)
or_parts true b e = cc
or_parts false b e = (refl, e)

-- ---- names in two lists
not_shared : (xs ys : List Name) (s : Name) → share_name xs ys ≡ false → is_among xs s ≡ true → is_among ys s ≡ false
not_shared [] ys s apart here = absurd (false≢true here)
not_shared (x ∷ xs) ys s apart here =
    let parts = or_parts (is_among ys x) (share_name xs ys) apart in
    elim (or_cases (is_same_name s x) (is_among xs s) here) [
      | inl e ↦ ap (is_among ys) (same_name s x e) ∙ parts.0
      | inr e ↦ not_shared xs ys s parts.1 e
    ]

differ : (ys : List Name) (s t : Name) → is_among ys s ≡ false → is_among ys t ≡ true → is_same_name s t ≡ false
differ ys s t out here = elim (cases_Bool (is_same_name s t)) [
  | inl e ↦ absurd (false≢true (sym out ∙ ap (is_among ys) (same_name s t e) ∙ here))
  | inr e ↦ e
]

-- ---- one effect on one database
seen_whole : (there : Option Database) → seen_by Whole there ≡ there
seen_whole None = refl
seen_whole (Some d) = refl

seen_made : (access : Access) (effect : Effect) (there : Option Database) → allows access effect ≡ true → seen_by access (made effect there) ≡ made effect (seen_by access there)
seen_made (Reads xs) effect there allowed = absurd (false≢true allowed)
seen_made (Writes xs) (OnDatabase test make) there allowed = absurd (false≢true allowed)
seen_made (Writes xs) (OnStore store test make) None allowed = refl
seen_made (Writes xs) (OnStore store test make) (Some d) allowed = ap (λ stores. Some (record d { stores = stores })) (retain_kept names_total one_name d.stores (is_among xs) store make allowed)
seen_made Whole effect there allowed = seen_whole (made effect there) ∙ ap (made effect) (sym (seen_whole there))

found_seen : (access : Access) (effect : Effect) (there : Option Database) → allows access effect ≡ true → finds effect there ≡ finds effect (seen_by access there)
found_seen (Reads xs) effect there allowed = absurd (false≢true allowed)
found_seen (Writes xs) (OnDatabase test make) there allowed = absurd (false≢true allowed)
found_seen (Writes xs) (OnStore store test make) None allowed = refl
found_seen (Writes xs) (OnStore store test make) (Some d) allowed = ap test (sym (retained names_total one_name d.stores (is_among xs) store allowed))
found_seen Whole effect there allowed = ap (finds effect) (sym (seen_whole there))

hidden : (xs ys : List Name) (store : Name) (d : Database) (make : Option Store → Option Store) → share_name xs ys ≡ false → is_among xs store ≡ true
    → finite.retain_keys (changed_at d.stores store make) (is_among ys) ≡ finite.retain_keys d.stores (is_among ys)
hidden xs ys store d make apart here = retain_left names_total one_name d.stores (is_among ys) store make (not_shared xs ys store apart here)

unseen : (a b : Access) (effect : Effect) (there : Option Database) → clashes a b ≡ false → allows a effect ≡ true → seen_by b (made effect there) ≡ seen_by b there
unseen (Reads xs) b effect there apart allowed = absurd (false≢true allowed)
unseen Whole b effect there apart allowed = absurd (false≢true (sym apart))
unseen (Writes xs) Whole effect there apart allowed = absurd (false≢true (sym apart))
unseen (Writes xs) b (OnDatabase test make) there apart allowed = absurd (false≢true allowed)
unseen (Writes xs) b (OnStore store test make) None apart allowed = refl
unseen (Writes xs) (Reads ys) (OnStore store test make) (Some d) apart allowed = ap (λ stores. Some (record d { stores = stores })) (hidden xs ys store d make apart allowed)
unseen (Writes xs) (Writes ys) (OnStore store test make) (Some d) apart allowed = ap (λ stores. Some (record d { stores = stores })) (hidden xs ys store d make apart allowed)

swapped : (a b : Access) (e f : Effect) (there : Option Database) → clashes a b ≡ false → allows a e ≡ true → allows b f ≡ true → made f (made e there) ≡ made e (made f there)
swapped (Reads xs) b e f there apart p q = absurd (false≢true p)
swapped Whole b e f there apart p q = absurd (false≢true (sym apart))
swapped (Writes xs) Whole e f there apart p q = absurd (false≢true (sym apart))
swapped (Writes xs) (Reads ys) e f there apart p q = absurd (false≢true q)
swapped (Writes xs) (Writes ys) (OnDatabase test make) f there apart p q = absurd (false≢true p)
swapped (Writes xs) (Writes ys) e (OnDatabase test make) there apart p q = absurd (false≢true q)
swapped (Writes xs) (Writes ys) (OnStore s ts ms) (OnStore t tt_ mt) None apart p q = refl
swapped (Writes xs) (Writes ys) (OnStore s ts ms) (OnStore t tt_ mt) (Some d) apart p q =
    ap (λ stores. Some (record d { stores = stores })) (changed_apart names_total one_name d.stores s t ms mt (differ ys s t (not_shared xs ys s apart p) q))

-- ---- changes on all items
module _ (a : Scope) (delta : DeltaTree) (within : is_within a delta ≡ true) where
  parts : (is_same_name a.database (database_of delta) ≡ true) × (allows a.access (effect_of delta) ≡ true)
  parts = and_parts (is_same_name a.database (database_of delta)) (allows a.access (effect_of delta)) within

  pub in_database : database_of delta ≡ a.database
  in_database = sym (same_name a.database (database_of delta) parts.0)

  pub allowed : allows a.access (effect_of delta) ≡ true
  allowed = parts.1

  -- what stands in the scope's database afterwards
  after_there : (items : Items) → finite.get (applied items delta) a.database ≡ made (effect_of delta) (finite.get items a.database)
  after_there items = subst (λ db. finite.get (changed_at items db (made (effect_of delta))) a.database ≡ made (effect_of delta) (finite.get items a.database)) (sym in_database)
      (changed_here names_total one_name items a.database (made (effect_of delta)))

  pub inside_one : (items : Items) → part_of a (applied items delta) ≡ made (effect_of delta) (part_of a items)
  inside_one items = ap (seen_by a.access) (after_there items) ∙ seen_made a.access (effect_of delta) (finite.get items a.database) allowed

  pub applies_one : (items : Items) → applies items delta ≡ finds (effect_of delta) (part_of a items)
  applies_one items = ap (λ db. finds (effect_of delta) (finite.get items db)) in_database ∙ found_seen a.access (effect_of delta) (finite.get items a.database) allowed

  elsewhere : (b : Scope) (items : Items) → is_same_name a.database b.database ≡ false → finite.get (applied items delta) b.database ≡ finite.get items b.database
  elsewhere b items apart = changed_elsewhere names_total one_name items (database_of delta) (made (effect_of delta)) b.database
      (ap (is_same_name b.database) in_database ∙ names_either_way b.database a.database ∙ apart)

  here : (b : Scope) (items : Items) → is_same_name a.database b.database ≡ true → finite.get (applied items delta) b.database ≡ made (effect_of delta) (finite.get items b.database)
  here b items same = subst (λ db. finite.get (applied items delta) db ≡ made (effect_of delta) (finite.get items db)) (same_name a.database b.database same) (after_there items)

  pub outside_one : (b : Scope) (items : Items) → scopes_conflict a b ≡ false → part_of b (applied items delta) ≡ part_of b items
  outside_one b items apart = elim (cases_Bool (is_same_name a.database b.database)) [
    | inl same ↦ ap (seen_by b.access) (here b items same)
        ∙ unseen a.access b.access (effect_of delta) (finite.get items b.database) (sym (ap (λ t. t && clashes a.access b.access) same) ∙ apart) allowed
    | inr other ↦ ap (seen_by b.access) (elsewhere b items other)
  ]

module _ (a b : Scope) (d e : DeltaTree) (p : is_within a d ≡ true) (q : is_within b e ≡ true) where
  two_names : is_same_name a.database b.database ≡ false → is_same_name (database_of d) (database_of e) ≡ false
  two_names other = ap (λ db. is_same_name db (database_of e)) (in_database a d p) ∙ ap (is_same_name a.database) (in_database b e q) ∙ other

  one_database : is_same_name a.database b.database ≡ true → database_of e ≡ database_of d
  one_database same = in_database b e q ∙ sym (same_name a.database b.database same) ∙ sym (in_database a d p)

  swapped_there : (items : Items) (db : Name) → clashes a.access b.access ≡ false
      → changed_at (changed_at items db (made (effect_of d))) db (made (effect_of e)) ≡ changed_at (changed_at items db (made (effect_of e))) db (made (effect_of d))
  swapped_there items db apart =
      changed_twice names_total one_name items db (made (effect_of d)) (made (effect_of e))
      ∙ ap (stood_at items db) (swapped a.access b.access (effect_of d) (effect_of e) (finite.get items db) apart (allowed a d p) (allowed b e q))
      ∙ sym (changed_twice names_total one_name items db (made (effect_of e)) (made (effect_of d)))

  pub swap_one : (items : Items) → scopes_conflict a b ≡ false → applied (applied items d) e ≡ applied (applied items e) d
  swap_one items apart = elim (cases_Bool (is_same_name a.database b.database)) [
    | inl same ↦ subst (λ db. changed_at (applied items d) db (made (effect_of e)) ≡ changed_at (changed_at items db (made (effect_of e))) (database_of d) (made (effect_of d))) (sym (one_database same))
        (swapped_there items (database_of d) (sym (ap (λ t. t && clashes a.access b.access) same) ∙ apart))
    | inr other ↦ changed_apart names_total one_name items (database_of d) (database_of e) (made (effect_of d)) (made (effect_of e)) (two_names other)
  ]

-- ---- lists of changes
pub inside_all : (a : Scope) (items : Items) (ds : List DeltaTree) → AllWithin a ds → part_of a (applied_all items ds) ≡ made_all ds (part_of a items)
inside_all a items [] all = refl
inside_all a items (d ∷ ds) all = inside_all a (applied items d) ds all.1 ∙ ap (made_all ds) (inside_one a d all.0 items)

pub outside_all : (a b : Scope) (items : Items) (ds : List DeltaTree) → scopes_conflict a b ≡ false → AllWithin a ds → part_of b (applied_all items ds) ≡ part_of b items
outside_all a b items [] apart all = refl
outside_all a b items (d ∷ ds) apart all = outside_all a b (applied items d) ds apart all.1 ∙ outside_one a d all.0 b items apart

pub applies_all : (a : Scope) (items : Items) (ds : List DeltaTree) → AllWithin a ds → all_apply items ds ≡ finds_all ds (part_of a items)
applies_all a items [] all = refl
applies_all a items (d ∷ ds) all =
    ap (λ t. t && all_apply (applied items d) ds) (applies_one a d all.0 items)
    ∙ ap (λ t. finds (effect_of d) (part_of a items) && t) (applies_all a (applied items d) ds all.1 ∙ ap (finds_all ds) (inside_one a d all.0 items))

one_past : (a b : Scope) (items : Items) (d : DeltaTree) (es : List DeltaTree) → scopes_conflict a b ≡ false → is_within a d ≡ true → AllWithin b es
    → applied (applied_all items es) d ≡ applied_all (applied items d) es
one_past a b items d [] apart within all = refl
one_past a b items d (e ∷ es) apart within all = one_past a b (applied items e) d es apart within all.1 ∙ ap (λ x. applied_all x es) (sym (swap_one a b d e within all.0 items apart))

pub swap_all : (a b : Scope) (items : Items) (ds es : List DeltaTree) → scopes_conflict a b ≡ false → AllWithin a ds → AllWithin b es
    → applied_all (applied_all items ds) es ≡ applied_all (applied_all items es) ds
swap_all a b items [] es apart p q = refl
swap_all a b items (d ∷ ds) es apart p q = swap_all a b (applied items d) ds es apart p.1 q ∙ ap (λ x. applied_all x ds) (sym (one_past a b items d es apart p.0 q))

-- ---- conflict goes both ways
any_or : {X : Type 0} (p q : X → Bool) (xs : List X) → list_any (λ x. p x || q x) xs ≡ (list_any p xs || list_any q xs)
any_or p q [] = refl
any_or p q (x ∷ xs) = ap (λ t. (p x || q x) || t) (any_or p q xs) ∙ mixed (p x) (q x) (list_any p xs) (list_any q xs)
  where
    mixed : (a b c d : Bool) → ((a || b) || (c || d)) ≡ ((a || c) || (b || d))
    mixed true b c d = refl
    mixed false true true d = refl
    mixed false true false d = refl
    mixed false false c d = refl

shared_none : (xs : List Name) → share_name xs [] ≡ false
shared_none [] = refl
shared_none (x ∷ xs) = shared_none xs

any_same : (xs : List Name) (y : Name) → list_any (λ x. is_same_name x y) xs ≡ is_among xs y
any_same [] y = refl
any_same (x ∷ xs) y = ap (λ t. t || list_any (λ x. is_same_name x y) xs) (names_either_way x y) ∙ ap (λ t. is_same_name y x || t) (any_same xs y)

pub shared_either_way : (xs ys : List Name) → share_name xs ys ≡ share_name ys xs
shared_either_way xs [] = shared_none xs
shared_either_way xs (y ∷ ys) =
    any_or (λ x. is_same_name x y) (is_among ys) xs
    ∙ ap (λ t. t || share_name xs ys) (any_same xs y)
    ∙ ap (λ t. is_among xs y || t) (shared_either_way xs ys)

clashes_either_way : (a b : Access) → clashes a b ≡ clashes b a
clashes_either_way (Reads xs) (Reads ys) = refl
clashes_either_way (Reads xs) (Writes ys) = shared_either_way xs ys
clashes_either_way (Reads xs) Whole = refl
clashes_either_way (Writes xs) (Reads ys) = shared_either_way xs ys
clashes_either_way (Writes xs) (Writes ys) = shared_either_way xs ys
clashes_either_way (Writes xs) Whole = refl
clashes_either_way Whole (Reads ys) = refl
clashes_either_way Whole (Writes ys) = refl
clashes_either_way Whole Whole = refl

pub conflict_either_way : (a b : Scope) → scopes_conflict a b ≡ scopes_conflict b a
conflict_either_way a b = ap (λ t. t && clashes a.access b.access) (names_either_way a.database b.database) ∙ ap (λ t. is_same_name b.database a.database && t) (clashes_either_way a.access b.access)

nothing_allowed : (names : List Name) (access : Access) (effect : Effect) → access ≡ Reads names → allows access effect ≡ true → ⊥
nothing_allowed names access effect reads e = false≢true (sym (ap (λ x. allows x effect) reads) ∙ e)

pub readers_change_nothing : (a : Scope) (names : List Name) (ds : List DeltaTree) → a.access ≡ Reads names → AllWithin a ds → ds ≡ []
readers_change_nothing a names [] reads all = refl
readers_change_nothing a names (d ∷ ds) reads all = absurd (nothing_allowed names a.access (effect_of d) reads (allowed a d all.0))
