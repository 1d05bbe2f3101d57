-- What each step of the desk makes of the unfinished transactions.
--     IsSound, sound_after, sound_run       what holds of each run
--     draws_none, draws_join        nothing is drawn;  some, and then others
--     step_draws            a step that starts and finishes none draws the number that it is answered
--     step_starts, step_leaves      a transaction starts, or is finished
--     step_others           of other clients' transactions nothing changes
use Rattle.std.proofs.Common.{◌≡◌, ◌≢◌, ℕ, ◌+◌, ◌-◌, Bool, true, false, not, ◌&&◌, List, [], ◌∷◌, ◌++◌, map, filter, length, slice_set, if◌then◌else◌, Option, Some, None, option_map, is_none, inl, inr, refl, sym, ◌∙◌, ap, subst, arith}
use Rattle.std.specs.Prelude.{◌==◌}
use Rattle.std.proofs.lemmas.Bool.Decides.{eqb_tells}
use Rattle.std.proofs.lemmas.List.{append-nil, append_assoc, map-append}
use Rattle.std.proofs.lemmas.List.Elements.{filter-append}
use Rattle.idb_keys.specs.declared.names.ErrorName.TheVariants as error
use Rattle.idb_keys.specs.declared.names.Mode.{Mode}
use Rattle.idb_schema.specs.Schemas.{SchemaData}
use Rattle.idb_calls.specs.declared.traces.Outcome.{Outcome}
use Rattle.name_queues.specs.declared.events.ClientEvent.{ClientEvent}
use Rattle.name_queues.specs.declared.events.ClientEvent.TheVariants as event
use Rattle.name_queues.specs.declared.ids.ConnId.{ConnId}
use Rattle.name_queues.specs.Mails.{conn_of}
use Rattle.connection_queues.specs.Machine.{schema_of}
use Rattle.scope_desk.specs.declared.tickets.Ticket.{Ticket}
use Rattle.scope_desk.specs.Starts.{Scopes, created, finished}
use Rattle.desk_steps.specs.declared.stands.DeskRequest.{DeskRequest}
use Rattle.desk_steps.specs.declared.stands.DrawnTx.{DrawnTx}
use Rattle.desk_steps.specs.declared.stands.TxKind.{TxKind}
use Rattle.desk_steps.specs.declared.stands.TxKind.TheVariants as kind
use Rattle.desk_steps.specs.declared.stands.TxStage.{TxStage}
use Rattle.desk_steps.specs.declared.stands.TxStage.TheVariants as stage
use Rattle.desk_steps.specs.declared.steps.DeskStep.{DeskStep}
use Rattle.desk_steps.specs.declared.steps.DeskStep.TheVariants as step
use Rattle.idb_desk.specs.Desks.{DeskState, name_asked_by, request_at, stand_where, drawn_at, stages_where, with_stage}
use Rattle.idb_desk.specs.Refusals.{is_allowed, refusal_of_create, is_usable, is_given, has_stores, is_to_start, is_created_stage, may_leave_where, is_committed}
use Rattle.idb_desk.specs.Steps.{after, after_all, after_take, after_created, after_left, drawn_whole, event_for, answer_of, number_of_event, new_desk, DeskRun, desk_run, IsDeskRun, AreAllowed}
use Rattle.idb_desk.specs.Tokens.{client_of}
use Rattle.client_ties.specs.Unfinished.{UnfinishedTx, unfinished_from, unfinished_of, is_numbered_so, is_made_by, started_where, other_drawn, own_unfinished, AreDrawn, Draws}
use Rattle.client_ties.proofs.Stages.{staged, some_same, one_more, one_starts, one_ends, for_others, found_at}
use Rattle.client_ties.proofs.Mails.{AreOwn, own_after, own_first}

-- ---- tests
pub both : (a b : Bool) → (a && b) ≡ true → (a ≡ true) × (b ≡ true)
both true b e = (refl, e)
both false b e = cc

pub equal : (a b : ℕ) → (a == b) ≡ true → a ≡ b
equal a b e = elim (eqb_tells a b) [ inl p ↦ p.1 | inr p ↦ absurd (no (sym e ∙ p.0)) ]
  where
    no : true ≡ false → ⊥
    no k = cc

-- ---- what holds of each run
pub record IsSound (d : DeskState) : Type 0 where
  pub numbered : d.board.scopes.next ≡ length d.board.drawn + 1
  pub own : AreOwn d.queues.mails
  pub same : map (λ u. u.number) (unfinished_of d) ≡ map (λ t. t.number) d.board.scopes.unfinished

-- ---- drawing
pub draws_none : (d e : DeskState) → e.board.drawn ≡ d.board.drawn → e.board.scopes ≡ d.board.scopes → Draws d [] e
unfolding unfinished_of
draws_none d e same scopes = record {
  unfinished = ap (unfinished_from 1) same ∙ sym (append-nil (unfinished_from 1 d.board.drawn));
  numbers = ap (λ (s : Scopes). s.next) scopes;
  tickets = ap (λ (s : Scopes). map (λ (t : Ticket). t.number) s.unfinished) scopes ∙ sym (append-nil (map (λ (t : Ticket). t.number) d.board.scopes.unfinished));
}

abbrev pub drawn_with : ℕ → Option ℕ → List UnfinishedTx
drawn_with client None = []
drawn_with client (Some number) = record { number = number; client = client; started = false } ∷ []

draws_one : (d e : DeskState) (who : ConnId) (k : TxKind) (items : List ℕ) (m : Mode) → d.board.scopes.next ≡ length d.board.drawn + 1
    → e.board.drawn ≡ d.board.drawn ++ record { who = who; kind = k; stage = stage.Created } ∷ [] → e.board.scopes ≡ created d.board.scopes items m
    → Draws d (drawn_with who.client (Some d.board.scopes.next)) e
unfolding unfinished_of
draws_one d e who k items m numbered more scopes =
    let new : DrawnTx = record { who = who; kind = k; stage = stage.Created } in
    let at : 1 + length d.board.drawn ≡ d.board.scopes.next = omega (arith, numbered) in
    record {
      unfinished = ap (unfinished_from 1) more ∙ one_more 1 d.board.drawn new ∙ ap (λ n. unfinished_from 1 d.board.drawn ++ record { number = n; client = who.client; started = false } ∷ []) at;
      numbers = (refl, ap (λ (s : Scopes). s.next) scopes);
      tickets = ap (λ (s : Scopes). map (λ (t : Ticket). t.number) s.unfinished) scopes ∙ map-append (λ (t : Ticket). t.number) d.board.scopes.unfinished (record { number = d.board.scopes.next; mode = m; scope = items } ∷ []);
    }

drawn_join : (first mid last : ℕ) (us vs : List UnfinishedTx) → AreDrawn first us mid → AreDrawn mid vs last → AreDrawn first (us ++ vs) last
drawn_join first mid last [] vs a b = subst (λ n. AreDrawn n vs last) a b
drawn_join first mid last (u ∷ us) vs a b = (a.0, drawn_join (first + 1) mid last us vs a.1 b)

pub draws_join : (d e f : DeskState) (us vs : List UnfinishedTx) → Draws d us e → Draws e vs f → Draws d (us ++ vs) f
draws_join d e f us vs a b = record {
  unfinished = b.unfinished ∙ ap (λ ws. ws ++ vs) a.unfinished ∙ append_assoc (unfinished_of d) us vs;
  numbers = drawn_join d.board.scopes.next e.board.scopes.next f.board.scopes.next us vs a.numbers b.numbers;
  tickets = b.tickets ∙ ap (λ ns. ns ++ map (λ (u : UnfinishedTx). u.number) vs) a.tickets
      ∙ append_assoc (map (λ (t : Ticket). t.number) d.board.scopes.unfinished) (map (λ (u : UnfinishedTx). u.number) us) (map (λ (u : UnfinishedTx). u.number) vs)
      ∙ ap (λ ns. map (λ (t : Ticket). t.number) d.board.scopes.unfinished ++ ns) (sym (map-append (λ (u : UnfinishedTx). u.number) us vs));
}

pub draws_same : (d e : DeskState) (us vs : List UnfinishedTx) → us ≡ vs → Draws d us e → Draws d vs e
draws_same d e us vs same a = subst (λ ws. Draws d ws e) same a

-- ---- an event that is taken
whole_draws : (d e : DeskState) (client : ℕ) (who : ConnId) (k : TxKind) (name : Option (List ℕ)) → d.board.scopes.next ≡ length d.board.drawn + 1 → who.client ≡ client
    → e.board.drawn ≡ (drawn_whole d.board who k name).drawn → e.board.scopes ≡ (drawn_whole d.board who k name).scopes
    → Draws d (drawn_with client (option_map (λ n. d.board.scopes.next) name)) e
whole_draws d e client who k None numbered is drawn scopes = draws_none d e drawn scopes
whole_draws d e client who k (Some name) numbered is drawn scopes =
    subst (λ c. Draws d (drawn_with c (Some d.board.scopes.next)) e) is (draws_one d e who k _ _ numbered drawn scopes)

take_draws : (d : DeskState) (client : ℕ) (o : Option ClientEvent) → IsSound d → ((e : ClientEvent) → o ≡ Some e → (conn_of e).client ≡ client) → Draws d (drawn_with client (number_of_event d o)) (after_take d client o)
take_draws d client None sound is = draws_none d d refl refl
take_draws d client (Some (event.Upgrade who old new)) sound is = whole_draws d (after_take d client (Some (event.Upgrade who old new))) client who (kind.Upgrade new) (name_asked_by d.board.clients who) sound.numbered (is (event.Upgrade who old new) refl) refl refl
take_draws d client (Some (event.Blocked who old new)) sound is = draws_none d (after_take d client (Some (event.Blocked who old new))) refl refl
take_draws d client (Some (event.Success who version)) sound is = draws_none d (after_take d client (Some (event.Success who version))) refl refl
take_draws d client (Some (event.Error who name)) sound is = draws_none d (after_take d client (Some (event.Error who name))) refl refl
take_draws d client (Some (event.VersionChange who old new)) sound is = draws_none d (after_take d client (Some (event.VersionChange who old new))) refl refl
take_draws d client (Some (event.Closed who)) sound is = draws_none d (after_take d client (Some (event.Closed who))) refl refl
take_draws d client (Some (event.DeleteReady who old)) sound is = whole_draws d (after_take d client (Some (event.DeleteReady who old))) client who kind.Deletion (name_asked_by d.board.clients who) sound.numbered (is (event.DeleteReady who old) refl) refl refl

-- ---- a transaction that is created
passes : {E : Type 0} (a b : Bool) (x y : E) (rest : Option E) → is_none (if not a then Some x else if not b then Some y else rest) ≡ true → (a ≡ true) × (b ≡ true)
passes false b x y rest e = cc
passes true false x y rest e = cc
passes true true x y rest e = (refl, refl)

usable_named : (r : Option DeskRequest) → is_given (stand_where r) ≡ true → (name : List ℕ) × (option_map (λ (x : DeskRequest). x.name) r ≡ Some name)
usable_named None e = cc
usable_named (Some r) e = (r.name, refl)

stored_schema : (scope : List (List ℕ)) (o : Option SchemaData) → has_stores scope o ≡ true → (schema : SchemaData) × (o ≡ Some schema)
stored_schema scope None e = cc
stored_schema scope (Some schema) e = (schema, refl)

created_named : (d : DeskState) (who : ConnId) (scope : List (List ℕ)) (m : Mode) → is_none (refusal_of_create d who scope m) ≡ true
    → ((name : List ℕ) × (name_asked_by d.board.clients who ≡ Some name)) × ((schema : SchemaData) × (schema_of d.queues who ≡ Some schema))
created_named d who scope m e =
    let h = passes (is_usable d who) (has_stores scope (schema_of d.queues who)) error.InvalidStateError error.NotFoundError _ e in
    (usable_named (request_at d.board.clients who) (both _ _ h.0).0, stored_schema scope (schema_of d.queues who) h.1)

create_draws : (d : DeskState) (who : ConnId) (scope : List (List ℕ)) (m : Mode) (name : Option (List ℕ)) (schema : Option SchemaData) → d.board.scopes.next ≡ length d.board.drawn + 1
    → (n : List ℕ) × (name ≡ Some n) → (s : SchemaData) × (schema ≡ Some s)
    → Draws d (drawn_with who.client (Some d.board.scopes.next)) (after_created d who scope m name schema)
create_draws d who scope m None schema numbered n s = absurd (no n.1)
  where
    no : None ≡ Some n.0 → ⊥
    no k = cc
create_draws d who scope m (Some name) None numbered n s = absurd (no s.1)
  where
    no : None ≡ Some s.0 → ⊥
    no k = cc
create_draws d who scope m (Some name) (Some schema) numbered n s = draws_one d (after_created d who scope m (Some name) (Some schema)) who kind.Plain _ _ numbered refl refl

-- ---- a step that starts and finishes none
abbrev pub is_drawing : DeskStep → Bool
is_drawing (step.Asks who name want) = true
is_drawing (step.Takes client) = true
is_drawing (step.Handles client) = true
is_drawing (step.Closes who) = true
is_drawing (step.Creates number who scope m durability) = true
is_drawing (step.Starts client number) = false
is_drawing (step.Leaves client number ended kept) = false
is_drawing step.Faults = false

pub step_draws : (d : DeskState) (t : DeskStep) (client : ℕ) → IsSound d → is_allowed d t ≡ true → is_drawing t ≡ true → client_of t ≡ Some client → Draws d (drawn_with client (answer_of d t).number) (after d t)
unfolding after
step_draws d (step.Asks who name want) client sound allowed is own = draws_none d (after d (step.Asks who name want)) refl refl
step_draws d (step.Takes taker) client sound allowed is own =
    subst (λ c. Draws d (drawn_with c (number_of_event d (event_for d taker))) (after d (step.Takes taker))) (some_same own)
    (take_draws d taker (event_for d taker) sound (λ e k. own_first d taker e sound.own k))
step_draws d (step.Handles taker) client sound allowed is own = draws_none d (after d (step.Handles taker)) refl refl
step_draws d (step.Closes who) client sound allowed is own = draws_none d (after d (step.Closes who)) refl refl
step_draws d (step.Creates number who scope m durability) client sound allowed is own =
    let parts = both _ _ allowed in
    let named = created_named d who scope m parts.0 in
    let drawn = create_draws d who scope m (name_asked_by d.board.clients who) (schema_of d.queues who) sound.numbered named.0 named.1 in
    subst (λ c. Draws d (drawn_with c (Some number)) (after d (step.Creates number who scope m durability))) (some_same own)
    (subst (λ n. Draws d (drawn_with who.client (Some n)) (after d (step.Creates number who scope m durability))) (sym (equal number d.board.scopes.next parts.1)) drawn)
step_draws d (step.Starts starter number) client sound allowed is own = cc
step_draws d (step.Leaves leaver number ended kept) client sound allowed is own = cc
step_draws d step.Faults client sound allowed is own = cc

-- ---- a transaction starts
pub record StartsAt (d : DeskState) (client number : ℕ) : Type 0 where
  pub tx : DrawnTx
  pub found : drawn_at d.board.drawn number ≡ Some tx
  pub own : tx.who.client ≡ client
  pub created : is_created_stage tx.stage ≡ true

starts_at : (client : ℕ) (o : Option DrawnTx) → is_to_start client o ≡ true → (tx : DrawnTx) × (o ≡ Some tx) × (tx.who.client ≡ client) × (is_created_stage tx.stage ≡ true)
starts_at client None e = cc
starts_at client (Some tx) e = (tx, refl, equal tx.who.client client (both _ _ e).0, (both _ _ e).1)

pub start_found : (d : DeskState) (client number : ℕ) → is_allowed d (step.Starts client number) ≡ true → StartsAt d client number
start_found d client number e =
    let h = starts_at client (drawn_at d.board.drawn number) (both _ _ (both _ _ e).1).0 in
    record { tx = h.0; found = h.1; own = h.2; created = h.3 }

staged_at : (s : TxStage) (number : ℕ) (ts : List DrawnTx) (t : DrawnTx) → drawn_at ts number ≡ Some t → with_stage s number ts ≡ slice_set ts (number - 1) (staged s t)
staged_at s number ts t e = ap (stages_where ts number s) e

pub step_starts : (d : DeskState) (client number : ℕ) → is_allowed d (step.Starts client number) ≡ true → unfinished_of (after d (step.Starts client number)) ≡ started_where number (unfinished_of d)
unfolding after unfinished_of
step_starts d client number e =
    let at = start_found d client number e in
    let there = found_at d.board.drawn number at.tx at.found in
    ap (unfinished_from 1) (staged_at stage.Started number d.board.drawn at.tx at.found)
    ∙ one_starts 1 (number - 1) d.board.drawn at.tx there.0 at.created
    ∙ ap (λ n. started_where n (unfinished_from 1 d.board.drawn)) there.1

pub step_scopes : (d : DeskState) (client number : ℕ) → (after d (step.Starts client number)).board.scopes ≡ d.board.scopes
unfolding after
step_scopes d client number = refl

-- ---- a transaction is finished
leaves_at : (d : DeskState) (client : ℕ) (ended : Outcome) (kept : Option SchemaData) (o : Option DrawnTx) → may_leave_where d client ended kept o ≡ true → (tx : DrawnTx) × (o ≡ Some tx) × (tx.who.client ≡ client)
leaves_at d client ended kept None e = cc
leaves_at d client ended kept (Some tx) e = (tx, refl, equal tx.who.client client (both _ _ e).0)

left_drawn : (d : DeskState) (number : ℕ) (committed : Bool) (kept : Option SchemaData) (o : Option DrawnTx) (t : DrawnTx) → o ≡ Some t
    → ((after_left d number committed kept o).board.drawn ≡ with_stage stage.Finished number d.board.drawn) × ((after_left d number committed kept o).board.scopes ≡ finished d.board.scopes number)
left_drawn d number committed kept None t e = cc
left_drawn d number committed kept (Some u) t e = (refl, refl)

pub step_leaves : (d : DeskState) (client number : ℕ) (ended : Outcome) (kept : Option SchemaData) → is_allowed d (step.Leaves client number ended kept) ≡ true
    → (unfinished_of (after d (step.Leaves client number ended kept)) ≡ other_drawn number (unfinished_of d)) × ((after d (step.Leaves client number ended kept)).board.scopes ≡ finished d.board.scopes number)
unfolding after unfinished_of
step_leaves d client number ended kept e =
    let at = leaves_at d client ended kept (drawn_at d.board.drawn number) e in
    let there = found_at d.board.drawn number at.0 at.1 in
    let left = left_drawn d number (is_committed ended) kept (drawn_at d.board.drawn number) at.0 at.1 in (
      ap (unfinished_from 1) (left.0 ∙ staged_at stage.Finished number d.board.drawn at.0 at.1)
          ∙ one_ends 1 (number - 1) d.board.drawn at.0 there.0
          ∙ ap (λ n. other_drawn n (unfinished_from 1 d.board.drawn)) there.1,
      left.1,
    )

-- ---- other clients
apart : (a b : ℕ) → a ≢ b → (a == b) ≡ false
apart a b out = elim (eqb_tells a b) [ inl p ↦ absurd (out p.1) | inr p ↦ p.0 ]

none_of : (client other : ℕ) (o : Option ℕ) → other ≢ client → filter (is_made_by other) (drawn_with client o) ≡ []
none_of client other None out = refl
none_of client other (Some n) out = rw (apart client other (λ e. out (sym e))) refl

drawn_others : (d e : DeskState) (client other : ℕ) (o : Option ℕ) → other ≢ client → Draws d (drawn_with client o) e → own_unfinished e other ≡ own_unfinished d other
drawn_others d e client other o out draws =
    ap (filter (is_made_by other)) draws.unfinished
    ∙ filter-append (is_made_by other) (unfinished_of d) (drawn_with client o)
    ∙ ap (λ us. own_unfinished d other ++ us) (none_of client other o out)
    ∙ append-nil (own_unfinished d other)

starts_others : (d : DeskState) (client number other : ℕ) → other ≢ client → is_allowed d (step.Starts client number) ≡ true → own_unfinished (after d (step.Starts client number)) other ≡ own_unfinished d other
unfolding after unfinished_of
starts_others d client number other out e =
    let at = start_found d client number e in
    let there = found_at d.board.drawn number at.tx at.found in
    ap (λ ts. filter (is_made_by other) (unfinished_from 1 ts)) (staged_at stage.Started number d.board.drawn at.tx at.found)
    ∙ for_others other 1 (number - 1) d.board.drawn at.tx stage.Started there.0 (apart at.tx.who.client other (λ k. out (sym k ∙ at.own)))

leaves_others : (d : DeskState) (client number other : ℕ) (ended : Outcome) (kept : Option SchemaData) → other ≢ client → is_allowed d (step.Leaves client number ended kept) ≡ true → own_unfinished (after d (step.Leaves client number ended kept)) other ≡ own_unfinished d other
unfolding after unfinished_of
leaves_others d client number other ended kept out e =
    let at = leaves_at d client ended kept (drawn_at d.board.drawn number) e in
    let there = found_at d.board.drawn number at.0 at.1 in
    let left = left_drawn d number (is_committed ended) kept (drawn_at d.board.drawn number) at.0 at.1 in
    ap (λ ts. filter (is_made_by other) (unfinished_from 1 ts)) (left.0 ∙ staged_at stage.Finished number d.board.drawn at.0 at.1)
    ∙ for_others other 1 (number - 1) d.board.drawn at.0 stage.Finished there.0 (apart at.0.who.client other (λ k. out (sym k ∙ at.2)))

pub step_others : (d : DeskState) (t : DeskStep) (client other : ℕ) → IsSound d → is_allowed d t ≡ true → client_of t ≡ Some client → other ≢ client → own_unfinished (after d t) other ≡ own_unfinished d other
step_others d (step.Asks who name want) client other sound allowed own out = drawn_others d (after d (step.Asks who name want)) client other None out (step_draws d (step.Asks who name want) client sound allowed refl own)
step_others d (step.Takes taker) client other sound allowed own out = drawn_others d (after d (step.Takes taker)) client other (number_of_event d (event_for d taker)) out (step_draws d (step.Takes taker) client sound allowed refl own)
step_others d (step.Handles taker) client other sound allowed own out = drawn_others d (after d (step.Handles taker)) client other None out (step_draws d (step.Handles taker) client sound allowed refl own)
step_others d (step.Closes who) client other sound allowed own out = drawn_others d (after d (step.Closes who)) client other None out (step_draws d (step.Closes who) client sound allowed refl own)
step_others d (step.Creates number who scope m durability) client other sound allowed own out = drawn_others d (after d (step.Creates number who scope m durability)) client other (Some number) out (step_draws d (step.Creates number who scope m durability) client sound allowed refl own)
step_others d (step.Starts starter number) client other sound allowed own out = starts_others d starter number other (λ e. out (e ∙ some_same own)) allowed
step_others d (step.Leaves leaver number ended kept) client other sound allowed own out = leaves_others d leaver number other ended kept (λ e. out (e ∙ some_same own)) allowed
step_others d step.Faults client other sound allowed own out = cc

-- ---- each run
filter_numbers : {X : Type 0} (f : X → ℕ) (n : ℕ) (xs : List X) → map f (filter (λ x. not (f x == n)) xs) ≡ filter (λ m. not (m == n)) (map f xs)
filter_numbers f n [] = refl
filter_numbers f n (x ∷ xs) = elim (f x == n) as (λ b. map f (if not b then x ∷ filter (λ y. not (f y == n)) xs else filter (λ y. not (f y == n)) xs) ≡ (if not b then f x ∷ filter (λ m. not (m == n)) (map f xs) else filter (λ m. not (m == n)) (map f xs))) [
  | true ↦ filter_numbers f n xs
  | false ↦ ap (λ ms. f x ∷ ms) (filter_numbers f n xs)
]

same_started : (n : ℕ) (us : List UnfinishedTx) → map (λ (u : UnfinishedTx). u.number) (started_where n us) ≡ map (λ (u : UnfinishedTx). u.number) us
same_started n [] = refl
same_started n (u ∷ us) = elim (is_numbered_so n u) as (λ b. (if b then record u { started = true } else u).number ∷ map (λ (x : UnfinishedTx). x.number) (started_where n us) ≡ u.number ∷ map (λ (x : UnfinishedTx). x.number) us) [
  | true ↦ ap (λ ms. u.number ∷ ms) (same_started n us)
  | false ↦ ap (λ ms. u.number ∷ ms) (same_started n us)
]

drawn_same : (d e : DeskState) (us : List UnfinishedTx) → IsSound d → Draws d us e → map (λ (u : UnfinishedTx). u.number) (unfinished_of e) ≡ map (λ (t : Ticket). t.number) e.board.scopes.unfinished
drawn_same d e us sound draws =
    ap (map (λ (u : UnfinishedTx). u.number)) draws.unfinished ∙ map-append (λ (u : UnfinishedTx). u.number) (unfinished_of d) us
    ∙ ap (λ ns. ns ++ map (λ (u : UnfinishedTx). u.number) us) sound.same ∙ sym draws.tickets

same_after : (d : DeskState) (t : DeskStep) → IsSound d → is_allowed d t ≡ true → map (λ (u : UnfinishedTx). u.number) (unfinished_of (after d t)) ≡ map (λ (x : Ticket). x.number) (after d t).board.scopes.unfinished
unfolding after unfinished_of
same_after d (step.Asks who name want) sound allowed = drawn_same d (after d (step.Asks who name want)) [] sound (step_draws d (step.Asks who name want) who.client sound allowed refl refl)
same_after d (step.Takes taker) sound allowed = drawn_same d (after d (step.Takes taker)) _ sound (step_draws d (step.Takes taker) taker sound allowed refl refl)
same_after d (step.Handles taker) sound allowed = drawn_same d (after d (step.Handles taker)) [] sound (step_draws d (step.Handles taker) taker sound allowed refl refl)
same_after d (step.Closes who) sound allowed = drawn_same d (after d (step.Closes who)) [] sound (step_draws d (step.Closes who) who.client sound allowed refl refl)
same_after d (step.Creates number who scope m durability) sound allowed = drawn_same d (after d (step.Creates number who scope m durability)) _ sound (step_draws d (step.Creates number who scope m durability) who.client sound allowed refl refl)
same_after d (step.Starts client number) sound allowed =
    ap (map (λ (u : UnfinishedTx). u.number)) (step_starts d client number allowed) ∙ same_started number (unfinished_of d) ∙ sound.same
same_after d (step.Leaves client number ended kept) sound allowed =
    let left = step_leaves d client number ended kept allowed in
    ap (map (λ (u : UnfinishedTx). u.number)) left.0
    ∙ filter_numbers (λ (u : UnfinishedTx). u.number) number (unfinished_of d)
    ∙ ap (filter (λ m. not (m == number))) sound.same
    ∙ sym (filter_numbers (λ (x : Ticket). x.number) number d.board.scopes.unfinished)
    ∙ ap (λ (s : Scopes). map (λ (x : Ticket). x.number) s.unfinished) (sym left.1)
same_after d step.Faults sound allowed = sound.same

sound_all : (d : DeskState) (ts : List DeskStep) → ((n : List DeskStep) → (after_all d n).board.scopes.next ≡ length (after_all d n).board.drawn + 1) → IsSound d → AreAllowed d ts → IsSound (after_all d ts)
sound_all d [] numbered sound allowed = sound
sound_all d (t ∷ ts) numbered sound allowed = sound_all (after d t) ts (λ n. numbered (t ∷ n)) (record { numbered = numbered (t ∷ []); own = own_after d t sound.own; same = same_after d t sound allowed.0 }) allowed.1

pub sound_run : ((r : DeskRun) → (desk_run r).board.scopes.next ≡ length (desk_run r).board.drawn + 1) → (r : DeskRun) → IsDeskRun r → IsSound (desk_run r)
unfolding desk_run IsDeskRun unfinished_of
sound_run numbers r run = sound_all (new_desk r.opening) r.order (λ n. numbers (record { opening = r.opening; order = n })) (record { numbered = numbers (record { opening = r.opening; order = [] }); own = tt; same = refl }) run
