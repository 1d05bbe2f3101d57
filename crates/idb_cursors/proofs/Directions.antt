-- Orders as a direction meets them, and what a turn asks of a member further on.
--     row_after               of two members the one after the other has no lesser key
--     near_on                 a member beyond one that is near is near too
--     ended_before            a member before one that meets the bound on the other side meets it too
use Rattle.std.proofs.Common.{◌≡◌, Bool, true, false, if◌then◌else◌, Option, Some, None, refl, sym, ap, ◌∙◌}
use Rattle.std.specs.Prelude.{◌&&◌}
use Rattle.std.specs.declared.cmp.Ordering.{Ordering}
use Rattle.std.specs.declared.cmp.Ordering.TheVariants.{Less, Equal, Greater}
use Rattle.std.specs.Ordering.{is_lt, is_le, ordering_reverse, ordering_then}
use Rattle.std.specs.Cmp.{IsTotalOrder}
use Rattle.std.proofs.lemmas.Cmp.{alike_right}
use Rattle.clone_values.specs.KeyTree.{KeyTree}
use Rattle.key_order.specs.KeyOrder.{key_cmp}
use Rattle.key_order.proofs.Laws.{key_cmp_total}
use Rattle.idb_keys.specs.declared.names.Direction.{Direction}
use Rattle.idb_keys.specs.KeyRange.{Bound, Range, admits, meets_lower, meets_upper}
use Rattle.index_tables.specs.Rows.{RowTree, row_cmp}
use Rattle.index_tables.specs.Orders.{row_cmp_total}
use Rattle.idb_cursors.specs.Cursors.{TurnData, is_forward, is_unique, is_reached, is_passed}
use Rattle.idb_cursors.specs.Seeking.{begins, ends, is_near}

-- ---- an order the other way round
abbrev pub by_way : {K : Type 0} → Bool → (K → K → Ordering) → K → K → Ordering
by_way forward R j k = if forward then R j k else ordering_reverse (R j k)

equal_from : (o : Ordering) → ordering_reverse o ≡ Equal → o ≡ Equal
equal_from Less e = cc
equal_from Equal e = refl
equal_from Greater e = cc

module _ {K : Type 0} {R : K → K → Ordering} (order : IsTotalOrder R) where
  flipped : (j k : K) → ordering_reverse (R j k) ≡ R k j
  flipped j k = sym (order.antisymm k j)

  pub way_total : (forward : Bool) → IsTotalOrder (by_way forward R)
  way_total true = order
  way_total false = record {
    antisymm = λ x y. ap ordering_reverse (order.antisymm x y);
    trans = λ x y z p q. flipped x z ∙ order.trans z y x (sym (flipped y z) ∙ q) (sym (flipped x y) ∙ p);
    congr = λ x y z e. ap ordering_reverse (order.congr x y z (equal_from (R x y) e));
  }

  -- a test that what is less passes and what is greater fails goes on passing further on
  carried : (test : Ordering → Bool) → test Less ≡ true → test Greater ≡ false → (a p q : K) (x y : Ordering) → R a p ≡ x → R p q ≡ y → is_le y ≡ true → test x ≡ true → test (R a q) ≡ true
  carried test less greater a p q Less Less e f le passes = ap test (order.trans a p q e f) ∙ less
  carried test less greater a p q Less Equal e f le passes = ap test (sym (alike_right order p q a f) ∙ e) ∙ less
  carried test less greater a p q Equal Less e f le passes = ap test (order.congr a p q e ∙ f) ∙ less
  carried test less greater a p q Equal Equal e f le passes = ap test (sym (alike_right order p q a f) ∙ e) ∙ passes
  carried test less greater a p q Greater y e f le passes = cc
  carried test less greater a p q x Greater e f le passes = cc

-- ---- keys and members, the way of a direction
pub key_way : (forward : Bool) → IsTotalOrder (by_way forward key_cmp)
key_way forward = way_total key_cmp_total forward

pub row_way : (forward : Bool) → IsTotalOrder (by_way forward row_cmp)
row_way forward = way_total row_cmp_total forward

keys_after : (forward : Bool) (x y : Ordering) → (if forward then ordering_then x y else ordering_reverse (ordering_then x y)) ≡ Less → is_le (if forward then x else ordering_reverse x) ≡ true
keys_after true Less y e = refl
keys_after true Equal y e = refl
keys_after true Greater y e = cc
keys_after false Less y e = cc
keys_after false Equal y e = refl
keys_after false Greater y e = refl

pub row_after : (forward : Bool) (p q : RowTree) → by_way forward row_cmp p q ≡ Less → is_le (by_way forward key_cmp p.0 q.0) ≡ true
row_after forward p q e = keys_after forward (key_cmp p.0 q.0) (key_cmp p.1 q.1) e

is_lt_le : (o : Ordering) → o ≡ Less → is_le o ≡ true
is_lt_le o e = ap is_le e

-- by a case that both sides share
by_either : (b ap aq bp bq : Bool) → (ap ≡ true → aq ≡ true) → (bp ≡ true → bq ≡ true) → (if b then ap else bp) ≡ true → (if b then aq else bq) ≡ true
by_either true ap aq bp bq f g e = f e
by_either false ap aq bp bq f g e = g e

both : (a b : Bool) → (a && b) ≡ true → (a ≡ true) × (b ≡ true)
both true b e = (refl, e)
both false b e = cc

all_of : (a b c : Bool) → a ≡ true → b ≡ true → c ≡ true → (a && (b && c)) ≡ true
all_of a b c p q r = rw (p, q) r

-- ---- the bounds of a range
abbrev side : Bool → Range → KeyTree → Bool
side forward range key = if forward then meets_lower range.lower key else meets_upper range.upper key

lower_on : (bound : Option Bound) (j k : KeyTree) → is_le (key_cmp j k) ≡ true → meets_lower bound j ≡ true → meets_lower bound k ≡ true
lower_on None j k le e = refl
lower_on (Some bound) j k le e = carried key_cmp_total (admits bound.is_open) refl refl bound.key j k _ _ refl refl le e

upper_on : (bound : Option Bound) (j k : KeyTree) → is_le (ordering_reverse (key_cmp j k)) ≡ true → meets_upper bound j ≡ true → meets_upper bound k ≡ true
upper_on None j k le e = refl
upper_on (Some bound) j k le e =
    let turned : (key : KeyTree) → ordering_reverse (key_cmp bound.key key) ≡ key_cmp key bound.key = λ key. sym (key_cmp_total.antisymm key bound.key) in
    ap (admits bound.is_open) (sym (turned k)) ∙ carried (key_way false) (admits bound.is_open) refl refl bound.key j k _ _ refl refl le (ap (admits bound.is_open) (turned j) ∙ e)

side_on : (forward : Bool) (range : Range) (j k : KeyTree) → is_le (by_way forward key_cmp j k) ≡ true → side forward range j ≡ true → side forward range k ≡ true
side_on true range j k le e = lower_on range.lower j k le e
side_on false range j k le e = upper_on range.upper j k le e

ends_on : (forward : Bool) (range : Range) (j k : KeyTree) → is_le (by_way forward key_cmp j k) ≡ true → (if forward then meets_upper range.upper k else meets_lower range.lower k) ≡ true → (if forward then meets_upper range.upper j else meets_lower range.lower j) ≡ true
ends_on true range j k le e = upper_on range.upper k j (ap is_le (sym (key_cmp_total.antisymm j k)) ∙ le) e
ends_on false range j k le e = lower_on range.lower k j (ap is_le (key_cmp_total.antisymm k j) ∙ le) e

-- ---- members further on
module _ (direction : Direction) (p q : RowTree) (later : by_way (is_forward direction) row_cmp p q ≡ Less) where
  keys : is_le (by_way (is_forward direction) key_cmp p.0 q.0) ≡ true
  keys = row_after (is_forward direction) p q later

  key_lt : (k : KeyTree) → is_lt (by_way (is_forward direction) key_cmp k p.0) ≡ true → is_lt (by_way (is_forward direction) key_cmp k q.0) ≡ true
  key_lt k e = carried (key_way (is_forward direction)) is_lt refl refl k p.0 q.0 _ _ refl refl keys e

  key_le : (k : KeyTree) → is_le (by_way (is_forward direction) key_cmp k p.0) ≡ true → is_le (by_way (is_forward direction) key_cmp k q.0) ≡ true
  key_le k e = carried (key_way (is_forward direction)) is_le refl refl k p.0 q.0 _ _ refl refl keys e

  row_lt : (r : RowTree) → is_lt (by_way (is_forward direction) row_cmp r p) ≡ true → is_lt (by_way (is_forward direction) row_cmp r q) ≡ true
  row_lt r e = carried (row_way (is_forward direction)) is_lt refl refl r p q _ _ refl refl (is_lt_le _ later) e

  row_le : (r : RowTree) → is_le (by_way (is_forward direction) row_cmp r p) ≡ true → is_le (by_way (is_forward direction) row_cmp r q) ≡ true
  row_le r e = carried (row_way (is_forward direction)) is_le refl refl r p q _ _ refl refl (is_lt_le _ later) e

  pub passed_on : (place : Option RowTree) → is_passed direction place p ≡ true → is_passed direction place q ≡ true
  passed_on None e = refl
  passed_on (Some r) e = by_either (is_unique direction) _ _ _ _ (key_lt r.0) (row_lt r) e

  pub reached_on : (key primary : Option KeyTree) → is_reached direction key primary p ≡ true → is_reached direction key primary q ≡ true
  reached_on None primary e = refl
  reached_on (Some k) None e = key_le k e
  reached_on (Some k) (Some r) e = by_either (is_unique direction) _ _ _ _ (key_le k) (row_le (k, r)) e

  pub begins_on : (range : Range) → begins direction range p.0 ≡ true → begins direction range q.0 ≡ true
  begins_on range e = side_on (is_forward direction) range p.0 q.0 keys e

  pub ended_before : (range : Range) → ends direction range q.0 ≡ true → ends direction range p.0 ≡ true
  ended_before range e = ends_on (is_forward direction) range p.0 q.0 keys e

pub near_on : (turn : TurnData) (p q : RowTree) → by_way (is_forward turn.direction) row_cmp p q ≡ Less → is_near turn p ≡ true → is_near turn q ≡ true
near_on turn p q later e =
    let outer = both _ _ e in
    let inner = both _ _ outer.1 in
    all_of _ _ _ (passed_on turn.direction p q later turn.place outer.0) (reached_on turn.direction p q later turn.key turn.primary inner.0) (begins_on turn.direction p q later turn.range inner.1)
