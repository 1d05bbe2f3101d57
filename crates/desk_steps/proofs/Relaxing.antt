-- The numbers that are drawn and the durability of transactions, step by step.
--     next_grows            the next number never falls
--     any_end               one step more
--     durability_stays      the durability of one that drew its number
--     none_relaxed, noted, added, taken_back     what the set of numbers becomes
--     goes_relaxed          and with a step that is made or isn't
use Rattle.std.proofs.Common.{◌≡◌, ◌∙◌, ℕ, ◌<◌, ◌≤◌, ◌&&◌, ◌||◌, Bool, true, false, List, [], ◌∷◌, ◌++◌, Option, Some, None, refl, ap, sym, subst, arith}
use Rattle.std.specs.Prelude.{◌==◌, cond, nat_lt, is_none, if◌then◌else◌}
use Rattle.std.specs.List.{list_any}
use Rattle.std.specs.BTreeMap.{is_at}
use Rattle.std.specs.BTreeSet.{BTreeSet, IsEmpty, IsUnchanged, Updates, UpdatesBy}
use Rattle.std.specs.Ordering.{is_eq, nat_cmp}
use Rattle.std.specs.Result.{is_ok, OnOk, OnErr}
use Rattle.std.specs.declared.result.Result.{Result}
use Rattle.std.specs.declared.result.Result.TheVariants.{Ok, Err}
use Rattle.std.specs.declared.cmp.Ordering.TheVariants.{Less, Equal, Greater}
use Rattle.std.proofs.lemmas.Bool.{and_right, ne_eqb, eqb-true, ltb-true}
use Rattle.std.proofs.lemmas.List.Folds.{list_any-append}
use Rattle.idb_keys.specs.declared.names.Durability.{Durability}
use Rattle.idb_keys.specs.declared.names.Mode.{Mode}
use Rattle.idb_schema.specs.Schemas.{SchemaData}
use Rattle.name_queues.specs.declared.ids.ConnId.{ConnId}
use Rattle.name_queues.specs.declared.events.ClientEvent.{ClientEvent}
use Rattle.name_queues.specs.declared.events.ClientEvent.TheVariants as event
use Rattle.connection_queues.specs.Machine.{schema_of}
use Rattle.desk_steps.specs.declared.stands.DrawnTx.{DrawnTx}
use Rattle.desk_steps.specs.declared.stands.TxKind.{TxKind}
use Rattle.desk_steps.specs.declared.stands.TxKind.TheVariants as kind
use Rattle.idb_keys.specs.declared.names.Durability.TheVariants.{Strict, Relaxed}
use Rattle.desk_steps.specs.declared.steps.DeskStep.{DeskStep}
use Rattle.desk_steps.specs.declared.steps.DeskStep.TheVariants as step
use Rattle.desk_steps.specs.Desks.{DeskState, DeskBoard, name_asked_by, drawn_at}
use Rattle.desk_steps.specs.Refusals.{is_allowed, is_committed, refusal_of_create}
use Rattle.desk_steps.specs.Steps.{after, after_event, after_take, event_for, drawn_whole, after_created, after_left, DeskRun, desk_run}
use Rattle.desk_steps.specs.DeskRoom.{wants_memory}
use Rattle.desk_steps.specs.Durabilities.{if_relaxed, relaxed_of, is_this, creates_relaxed, durability_drawn, is_relaxed_in, AreRelaxed, IsAddedTo, IsTakenBack}

-- ---- the next number
whole_grows : (b : DeskBoard) (who : ConnId) (k : TxKind) (name : Option (List ℕ)) → b.scopes.next ≤ (drawn_whole b who k name).scopes.next
whole_grows b who k None = omega arith
whole_grows b who k (Some name) = omega arith

event_grows : (b : DeskBoard) (e : ClientEvent) → b.scopes.next ≤ (after_event b e).scopes.next
event_grows b (event.Upgrade who old new) = whole_grows b who (kind.Upgrade new) (name_asked_by b.clients who)
event_grows b (event.Blocked who old new) = omega arith
event_grows b (event.Success who version) = omega arith
event_grows b (event.Error who name) = omega arith
event_grows b (event.VersionChange who old new) = omega arith
event_grows b (event.Closed who) = omega arith
event_grows b (event.DeleteReady who old) = whole_grows b who kind.Deletion (name_asked_by b.clients who)

take_grows : (d : DeskState) (client : ℕ) (o : Option ClientEvent) → d.board.scopes.next ≤ (after_take d client o).board.scopes.next
take_grows d client None = omega arith
take_grows d client (Some e) = event_grows d.board e

create_grows : (d : DeskState) (who : ConnId) (scope : List (List ℕ)) (m : Mode) (name : Option (List ℕ)) (schema : Option SchemaData) → d.board.scopes.next ≤ (after_created d who scope m name schema).board.scopes.next
create_grows d who scope m None schema = omega arith
create_grows d who scope m (Some name) None = omega arith
create_grows d who scope m (Some name) (Some schema) = omega arith

leave_grows : (d : DeskState) (number : ℕ) (committed : Bool) (kept : Option SchemaData) (o : Option DrawnTx) → d.board.scopes.next ≤ (after_left d number committed kept o).board.scopes.next
leave_grows d number committed kept None = omega arith
leave_grows d number committed kept (Some t) = omega arith

pub next_grows : (d : DeskState) (t : DeskStep) → d.board.scopes.next ≤ (after d t).board.scopes.next
unfolding after
next_grows d (step.Asks who name want) = omega arith
next_grows d (step.Takes client) = take_grows d client (event_for d client)
next_grows d (step.Handles client) = omega arith
next_grows d (step.Closes who) = omega arith
next_grows d (step.Creates number who scope m durability) = create_grows d who scope m (name_asked_by d.board.clients who) (schema_of d.queues who)
next_grows d (step.Starts client number) = omega arith
next_grows d (step.Leaves client number ended kept) = leave_grows d number (is_committed ended) kept (drawn_at d.board.drawn number)
next_grows d step.Faults = omega arith

-- ---- one step more
or_last : (a b : Bool) → (a || (b || false)) ≡ (b || a)
or_last true true = refl
or_last true false = refl
or_last false true = refl
or_last false false = refl

pub any_end : (number : ℕ) (order : List DeskStep) (t : DeskStep) → list_any (creates_relaxed number) (order ++ t ∷ []) ≡ (creates_relaxed number t || list_any (creates_relaxed number) order)
any_end number order t = list_any-append (creates_relaxed number) order (t ∷ []) ∙ or_last (list_any (creates_relaxed number) order) (creates_relaxed number t)

-- ---- what was drawn stays
right_of : (a b : Bool) → (a && b) ≡ true → b ≡ true
right_of true b e = e
right_of false b e = cc

is_other : (drawn number next : ℕ) (durability : Durability) → drawn ≡ next → number < next → is_this number (if_relaxed drawn durability) ≡ false
is_other drawn number next Strict e less = refl
is_other drawn number next Relaxed e less = ne_eqb drawn number (λ same. omega (arith, less, e, same))

creates_no_other : (d : DeskState) (t : DeskStep) (number : ℕ) → is_allowed d t ≡ true → number < d.board.scopes.next → creates_relaxed number t ≡ false
creates_no_other d (step.Creates drawn who scope m durability) number a less =
    is_other drawn number d.board.scopes.next durability (eqb-true drawn d.board.scopes.next (right_of (is_none (refusal_of_create d who scope m)) (drawn == d.board.scopes.next) a)) less
creates_no_other d (step.Asks who name want) number a less = refl
creates_no_other d (step.Takes client) number a less = refl
creates_no_other d (step.Handles client) number a less = refl
creates_no_other d (step.Closes who) number a less = refl
creates_no_other d (step.Starts client started) number a less = refl
creates_no_other d (step.Leaves client left ended kept) number a less = refl
creates_no_other d step.Faults number a less = refl

pub durability_stays : (r : DeskRun) (t : DeskStep) (number : ℕ) → is_allowed (desk_run r) t ≡ true → number < (desk_run r).board.scopes.next → durability_drawn (r.order ++ t ∷ []) number ≡ durability_drawn r.order number
durability_stays r t number a less = ap (λ b. if b then Relaxed else Strict) (any_end number r.order t ∙ ap (λ b. b || list_any (creates_relaxed number) r.order) (creates_no_other (desk_run r) t number a less))

-- ---- the set of numbers
is_eq_of : (lt eq : Bool) → (lt ≡ true → eq ≡ false) → is_eq (cond lt Less (cond eq Equal Greater)) ≡ eq
is_eq_of true eq h = sym (h refl)
is_eq_of false true h = refl
is_eq_of false false h = refl

at_is : (k q : ℕ) → is_at (nat_cmp k) q ≡ (k == q)
at_is k q = is_eq_of (nat_lt k q) (k == q) (λ lt. ne_eqb k q (λ same. omega (arith, ltb-true k q lt, same)))

pub same_keys : (old new : BTreeSet ℕ) → IsUnchanged old new → (n : ℕ) → is_relaxed_in new n ≡ is_relaxed_in old n
same_keys old new e n = ap (λ ks. list_any (is_at (nat_cmp n)) ks) e

pub none_relaxed : (s : BTreeSet ℕ) (order : List DeskStep) → IsEmpty s → order ≡ [] → AreRelaxed s order
none_relaxed s order e none n = ap (λ ks. list_any (is_at (nat_cmp n)) ks) e ∙ ap (λ (o : List DeskStep). list_any (creates_relaxed n) o) (sym none)

either : (a b : Bool) → cond a true b ≡ (a || b)
either true b = refl
either false b = refl

put_in : (old new : BTreeSet ℕ) (k : ℕ) → Updates nat_cmp old new k true → (n : ℕ) → is_relaxed_in new n ≡ (k == n || is_relaxed_in old n)
put_in old new k u n = u.0 n ∙ ap (λ b. cond b true (is_relaxed_in old n)) (at_is k n) ∙ either (k == n) (is_relaxed_in old n)

pub noted : (old new : BTreeSet ℕ) (t : DeskStep) (k : ℕ) → relaxed_of t ≡ Some k → Updates nat_cmp old new k true
    → (order : List DeskStep) → AreRelaxed old order → AreRelaxed new (order ++ t ∷ [])
noted old new t k e u order r n =
    put_in old new k u n ∙ ap (λ b. (k == n) || b) (r n) ∙ ap (λ o. is_this n o || list_any (creates_relaxed n) order) (sym e) ∙ sym (any_end n order t)

pub added : (old new : BTreeSet ℕ) (k : ℕ) → is_relaxed_in old k ≡ false → Updates nat_cmp old new k true → IsAddedTo old (Some k) new
added old new k absent u = (absent, put_in old new k u)

taken : (e b : Bool) → (e ≡ true → b ≡ false) → cond e false (e || b) ≡ b
taken true b h = sym (h refl)
taken false b h = refl

pub taken_back : (old new : BTreeSet ℕ) (k : ℕ) → UpdatesBy nat_cmp (nat_cmp k) old new false → IsTakenBack old (Some k) new
taken_back old new k u before p n =
    u.0 n ∙ ap (λ b. cond b false (is_relaxed_in old n)) (at_is k n) ∙ ap (λ b. cond (k == n) false b) (p.1 n)
    ∙ taken (k == n) (is_relaxed_in before n) (λ same. subst (λ m. is_relaxed_in before m ≡ false) (eqb-true k n same) p.0)

-- the step that creates a relaxed one may want memory
pub wants : (t : DeskStep) (k : ℕ) → relaxed_of t ≡ Some k → wants_memory t ≡ true
wants (step.Creates number who scope m durability) k e = refl
wants (step.Asks who name want) k e = refl
wants (step.Takes client) k e = refl
wants (step.Handles client) k e = absurd cc
wants (step.Closes who) k e = absurd cc
wants (step.Starts client started) k e = absurd cc
wants (step.Leaves client left ended kept) k e = absurd cc
wants step.Faults k e = absurd cc

-- ---- a step that is made, or isn't
pub goes_relaxed : {T E : Type 0} (q : Result T E) (made : Bool) (old noted new : BTreeSet ℕ) (order later : List DeskStep) (t : DeskStep) (o : Option ℕ) → made ≡ is_ok q
    → AreRelaxed old order → AreRelaxed noted (order ++ t ∷ []) → IsAddedTo old o noted
    → (made ≡ true → (n : ℕ) → is_relaxed_in new n ≡ is_relaxed_in noted n) → (made ≡ false → IsTakenBack noted o new)
    → OnOk q (later ≡ order ++ t ∷ []) → OnErr q (later ≡ order) → AreRelaxed new later
goes_relaxed (Ok x) made old noted new order later t o m before after put kept taken_away is_longer is_same n =
    kept m n ∙ after n ∙ ap (λ (ts : List DeskStep). list_any (creates_relaxed n) ts) (sym is_longer)
goes_relaxed (Err x) made old noted new order later t o m before after put kept taken_away is_longer is_same n =
    taken_away m old put n ∙ before n ∙ ap (λ (ts : List DeskStep). list_any (creates_relaxed n) ts) (sym is_same)
