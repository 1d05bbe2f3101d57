-- Items tell stores apart as their names do.
use Rattle.std.proofs.Common.{◌≡◌, ◌∙◌, ◌≢◌, ℕ, suc, zero, ◌+◌, ◌*◌, ◌≤◌, ◌<◌, ◌⊎◌, inl, inr, not, ◌&&◌, ◌||◌, nat_eq, Bool, true, false, List, [], ◌∷◌, length, position, Option, Some, None, is_some, refl, ap, sym, arith}
use Rattle.std.specs.Prelude.{unwrap_or}
use Rattle.std.proofs.Math.Dec.{eqb, ltb}
use Rattle.std.specs.List.{list_all}
use Rattle.std.specs.Cmp.Lexicographic.{pointwise, nat_list_eq_equiv}
use Rattle.std.proofs.lemmas.List.Quantifiers.{position-Some}
use Rattle.std.proofs.lemmas.Bool.{eqb-true, eq-eqb, eqb-false, ltb-true, ltb-false}
use Rattle.idb_schema.specs.Schemas.{SchemaData, stores_of}
use Rattle.idb_schema.specs.Definitions.{store_named, has_name}
use Rattle.idb_schema.specs.declared.definitions.StoreInfo.{StoreInfo}
use Rattle.scope_desk.specs.Starts.{has_item, share_item}
use Rattle.desk_steps.specs.Names.{share_store}
use Rattle.desk_steps.specs.Numbers.{store_item, scope_items, whole_database, numbers_from}
use Rattle.desk_steps.specs.Refusals.{is_empty_scope}

-- ---- one store

known_of : (o : Option ℕ) → is_some o ≡ true → (i : ℕ) × (o ≡ Some i)
known_of None e = cc
known_of (Some i) e = (i, refl)

item_at : (place : ℕ) (schema : SchemaData) (name : List ℕ) (i : ℕ) → store_named (stores_of schema) name ≡ Some i → store_item place schema name ≡ 64 * place + 1 + i
item_at place schema name i e = ap (λ o. 64 * place + 1 + unwrap_or o 0) e

-- the same place is the same name
same_place : (stores : List StoreInfo) (a b : List ℕ) (i : ℕ) → store_named stores a ≡ Some i → store_named stores b ≡ Some i → pointwise nat_eq a b ≡ true
same_place [] a b i e f = cc
same_place (s ∷ ss) a b i e f =
    let p = position-Some (λ (x : StoreInfo). pointwise nat_eq x.name a) (s ∷ ss) i s e in
    let q = position-Some (λ (x : StoreInfo). pointwise nat_eq x.name b) (s ∷ ss) i s f in
    sym (nat_list_eq_equiv.congr _ a b p.1) ∙ q.1

short : (stores : List StoreInfo) (n : List ℕ) (i : ℕ) → length stores ≤ 63 → store_named stores n ≡ Some i → i < 63
short [] n i l e = cc
short (s ∷ ss) n i l e = let w = (position-Some (λ (x : StoreInfo). pointwise nat_eq x.name n) (s ∷ ss) i s e).0 in omega (arith, w, l)

next_up : (f i : ℕ) → f ≤ i → (f ≡ i → ⊥) → f + 1 ≤ i
next_up f i l d = elim (ltb f i) as (λ b. ltb f i ≡ b → f + 1 ≤ i) [ true ↦ λ e. let h = ltb-true f i e in omega (arith, h) | false ↦ λ e. let h = ltb-false f i e in absurd (d (omega (arith, h, l))) ] refl

-- equal names have the same place
same_test : (m n : List ℕ) → pointwise nat_eq m n ≡ true → (s : StoreInfo) → pointwise nat_eq s.name m ≡ pointwise nat_eq s.name n
same_test m n e s = nat_list_eq_equiv.symm s.name m ∙ nat_list_eq_equiv.congr m n s.name e ∙ nat_list_eq_equiv.symm n s.name

same_named : (stores : List StoreInfo) (m n : List ℕ) → pointwise nat_eq m n ≡ true → store_named stores m ≡ store_named stores n
same_named stores m n e = λ i. position (λ s. same_test m n e s i) stores

bool_same : (a b : Bool) → (a ≡ true → b ≡ true) → (b ≡ true → a ≡ true) → a ≡ b
bool_same true b f g = sym (f refl)
bool_same false true f g = g refl
bool_same false false f g = refl

item_same : (place : ℕ) (schema : SchemaData) (m n : List ℕ) → is_some (store_named (stores_of schema) m) ≡ true → is_some (store_named (stores_of schema) n) ≡ true → eqb (store_item place schema m) (store_item place schema n) ≡ pointwise nat_eq m n
item_same place schema m n p q =
    let i = known_of (store_named (stores_of schema) m) p in
    let j = known_of (store_named (stores_of schema) n) q in
    let x = item_at place schema m i.0 i.1 in
    let y = item_at place schema n j.0 j.1 in
    bool_same (eqb (store_item place schema m) (store_item place schema n)) (pointwise nat_eq m n)
    (λ e. let h = eqb-true _ _ e in let k : j.0 ≡ i.0 = omega (arith, x, y, h) in same_place (stores_of schema) m n i.0 i.1 (j.1 ∙ ap (λ (z : ℕ). Some z) k))
    (λ e. eq-eqb _ _ (ap (λ o. 64 * place + 1 + unwrap_or o 0) (same_named (stores_of schema) m n e)))

-- ---- scopes
and_both : (a b : Bool) → a && b ≡ true → (a ≡ true) × (b ≡ true)
and_both true b e = (refl, e)
and_both false b e = cc

abbrev AllKnown : SchemaData → List (List ℕ) → Type 0
AllKnown schema scope = list_all (λ name. is_some (store_named (stores_of schema) name)) scope ≡ true

named_same : (place : ℕ) (schema : SchemaData) (n : List ℕ) (other : List (List ℕ)) → is_some (store_named (stores_of schema) n) ≡ true → AllKnown schema other → has_item (store_item place schema n) (scope_items place schema other) ≡ has_name n other
named_same place schema n [] q k = refl
named_same place schema n (m ∷ ms) q k =
    let h = and_both (is_some (store_named (stores_of schema) m)) (list_all (λ name. is_some (store_named (stores_of schema) name)) ms) k in
    let ih = named_same place schema n ms q h.1 in
    rw (item_same place schema m n h.0 q) (ap (λ b. pointwise nat_eq m n || b) ih)

pub one_database : (place : ℕ) (schema : SchemaData) (scope other : List (List ℕ)) → AllKnown schema scope → AllKnown schema other → share_item (scope_items place schema scope) (scope_items place schema other) ≡ share_store scope other
one_database place schema [] other k l = refl
one_database place schema (n ∷ ns) other k l =
    let h = and_both (is_some (store_named (stores_of schema) n)) (list_all (λ name. is_some (store_named (stores_of schema) name)) ns) k in
    let ih = one_database place schema ns other h.1 l in
    rw (named_same place schema n other h.0 l) (ap (λ b. has_name n other || b) ih)

-- ---- other places
eqb_no : (n m : ℕ) → (n ≡ m → ⊥) → eqb n m ≡ false
eqb_no n m f = elim (eqb n m) as (λ b. eqb n m ≡ b → b ≡ false) [ true ↦ λ e. absurd (f (eqb-true n m e)) | false ↦ λ e. refl ] refl

-- the number of a known store's item is between the first of its place and the last
below_end : (schema : SchemaData) (n : List ℕ) (i : ℕ) → length (stores_of schema) ≤ 63 → store_named (stores_of schema) n ≡ Some i → i < 63
below_end schema n i l e = short (stores_of schema) n i l e

away : (a b : ℕ) (first second : SchemaData) (m n : List ℕ) → a ≢ b → length (stores_of first) ≤ 63 → length (stores_of second) ≤ 63 → is_some (store_named (stores_of first) m) ≡ true → is_some (store_named (stores_of second) n) ≡ true → store_item b second n ≡ store_item a first m → ⊥
away a b first second m n d l k p q e =
    let i = known_of (store_named (stores_of first) m) p in
    let j = known_of (store_named (stores_of second) n) q in
    let x = item_at a first m i.0 i.1 in
    let y = item_at b second n j.0 j.1 in
    let u = below_end first m i.0 l i.1 in
    let v = below_end second n j.0 k j.1 in
    d (omega (arith, x, y, u, v, e))

away_all : (a b : ℕ) (first second : SchemaData) (m : List ℕ) (other : List (List ℕ)) → a ≢ b → length (stores_of first) ≤ 63 → length (stores_of second) ≤ 63 → is_some (store_named (stores_of first) m) ≡ true → AllKnown second other → has_item (store_item a first m) (scope_items b second other) ≡ false
away_all a b first second m [] d l k p q = refl
away_all a b first second m (n ∷ ns) d l k p q =
    let h = and_both (is_some (store_named (stores_of second) n)) (list_all (λ name. is_some (store_named (stores_of second) name)) ns) q in
    rw (eqb_no (store_item b second n) (store_item a first m) (away a b first second m n d l k p h.0)) (away_all a b first second m ns d l k p h.1)

pub two_databases : (a b : ℕ) (first second : SchemaData) (scope other : List (List ℕ)) → a ≢ b → length (stores_of first) ≤ 63 → length (stores_of second) ≤ 63 → AllKnown first scope → AllKnown second other → share_item (scope_items a first scope) (scope_items b second other) ≡ false
two_databases a b first second [] other d l k p q = refl
two_databases a b first second (m ∷ ms) other d l k p q =
    let h = and_both (is_some (store_named (stores_of first) m)) (list_all (λ name. is_some (store_named (stores_of first) name)) ms) p in
    rw (away_all a b first second m other d l k h.0 q) (two_databases a b first second ms other d l k h.1 q)

-- ---- whole databases
has_not : (n f i : ℕ) → (i < f) ⊎ (f + n ≤ i) → has_item i (numbers_from n f) ≡ false
has_not zero f i h = refl
has_not (suc n) f i (inl l) = rw (eqb_no f i (λ e. omega (arith, e, l))) (has_not n (f + 1) i (inl (omega (arith, l))))
has_not (suc n) f i (inr l) = rw (eqb_no f i (λ e. omega (arith, e, l))) (has_not n (f + 1) i (inr (omega (arith, l))))

has_within : (n f i : ℕ) → f ≤ i → i < f + n → has_item i (numbers_from n f) ≡ true
has_within zero f i l k = absurd (omega (arith, l, k))
has_within (suc n) f i l k = elim (eqb f i) as (λ b. eqb f i ≡ b → b || has_item i (numbers_from n (f + 1)) ≡ true) [
  | true ↦ λ e. refl
  | false ↦ λ e. let d = eqb-false f i e in has_within n (f + 1) i (next_up f i l d) (omega (arith, k))
] refl

either_way : (a b i : ℕ) → a ≢ b → 64 * a ≤ i → i < 64 * a + 64 → (i < 64 * b) ⊎ (64 * b + 64 ≤ i)
either_way a b i d l k = elim (ltb i (64 * b)) as (λ c. ltb i (64 * b) ≡ c → (i < 64 * b) ⊎ (64 * b + 64 ≤ i)) [
  | true ↦ λ e. inl (ltb-true i (64 * b) e)
  | false ↦ λ e. elim (ltb i (64 * b + 64)) as (λ c. ltb i (64 * b + 64) ≡ c → (i < 64 * b) ⊎ (64 * b + 64 ≤ i)) [
    | true ↦ λ f. let u = ltb-false i (64 * b) e in let v = ltb-true i (64 * b + 64) f in absurd (d (omega (arith, u, v, l, k)))
    | false ↦ λ f. inr (ltb-false i (64 * b + 64) f)
  ] refl
] refl

whole_none : (a b n f : ℕ) → a ≢ b → 64 * a ≤ f → f + n ≤ 64 * a + 64 → share_item (numbers_from n f) (numbers_from 64 (64 * b)) ≡ false
whole_none a b zero f d l k = refl
whole_none a b (suc n) f d l k = rw (has_not 64 (64 * b) f (either_way a b f d l (omega (arith, k)))) (whole_none a b n (f + 1) d (omega (arith, l)) (omega (arith, k)))

pub whole_databases : (a b : ℕ) → a ≢ b → share_item (whole_database a) (whole_database b) ≡ false
unfolding whole_database
whole_databases a b d = whole_none a b 64 (64 * a) d (omega arith) (omega arith)

whole_one : (place : ℕ) (schema : SchemaData) (n : List ℕ) → length (stores_of schema) ≤ 63 → is_some (store_named (stores_of schema) n) ≡ true → has_item (store_item place schema n) (whole_database place) ≡ true
unfolding whole_database
whole_one place schema n l p =
    let i = known_of (store_named (stores_of schema) n) p in
    let x = item_at place schema n i.0 i.1 in
    let u = below_end schema n i.0 l i.1 in
    has_within 64 (64 * place) (store_item place schema n) (omega (arith, x)) (omega (arith, x, u))

pub whole_shares : (place : ℕ) (schema : SchemaData) (scope : List (List ℕ)) → length (stores_of schema) ≤ 63 → AllKnown schema scope → share_item (scope_items place schema scope) (whole_database place) ≡ not (is_empty_scope scope)
whole_shares place schema [] l k = refl
whole_shares place schema (n ∷ ns) l k =
    let h = and_both (is_some (store_named (stores_of schema) n)) (list_all (λ name. is_some (store_named (stores_of schema) name)) ns) k in
    rw (whole_one place schema n l h.0) refl
