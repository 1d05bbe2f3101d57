-- What stays through steps.
--     asks_same, asks_stay  what was asked
--     stage_at, still_unfinished    a transaction that isn't finished
use Rattle.std.proofs.Common.{◌≡◌, ℕ, zero, suc, ◌+◌, ◌-◌, Bool, true, false, cond, List, [], ◌∷◌, ◌++◌, slice_get, slice_set, Option, Some, None, option_map, inl, inr, ◌⊎◌, refl, ap, sym, ◌∙◌, arith}
use Rattle.std.specs.Prelude.{is_none, drop, length}
use Rattle.name_queues.specs.declared.asks.Wants.{Wants}
use Rattle.std.proofs.Math.Dec.{eqb}
use Rattle.std.proofs.lemmas.Bool.{eqb-true, eqb-false, and_parts}
use Rattle.std.proofs.lemmas.Option.{none-some}
use Rattle.idb_keys.specs.declared.names.Mode.{Mode}
use Rattle.idb_schema.specs.Schemas.{SchemaData}
use Rattle.name_queues.specs.declared.ids.ConnId.{ConnId}
use Rattle.name_queues.specs.declared.events.ClientEvent.{ClientEvent}
use Rattle.name_queues.specs.declared.events.ClientEvent.TheVariants as event
use Rattle.connection_queues.specs.Machine.{unhandled, schema_of}
use Rattle.desk_steps.specs.declared.stands.DrawnTx.{DrawnTx}
use Rattle.desk_steps.specs.declared.stands.Stand.TheVariants as stand
use Rattle.desk_steps.specs.declared.stands.TxKind.{TxKind}
use Rattle.desk_steps.specs.declared.stands.TxKind.TheVariants as kind
use Rattle.desk_steps.specs.declared.stands.TxStage.{TxStage}
use Rattle.desk_steps.specs.declared.stands.TxStage.TheVariants as stage
use Rattle.desk_steps.specs.declared.steps.DeskStep.{DeskStep}
use Rattle.desk_steps.specs.declared.steps.DeskStep.TheVariants as step
use Rattle.idb_desk.specs.Desks.{DeskState, DeskBoard, ClientStand, name_asked_by, request_in, asks_of, changes_in, at_desk_client, stood, stand_of, drawn_at, stages_where, with_stage}
use Rattle.idb_desk.specs.Refusals.{refusal_of_ask, is_allowed, is_upgrading, is_finished_stage, is_committed}
use Rattle.idb_desk.specs.Steps.{after, after_take, after_event, event_for, drawn_whole, change_taken, changes_left, created_more, after_created, clients_left, after_left}
use Rattle.desk_facts.specs.Orderly.{asked_at}
use Rattle.desk_facts.specs.Databases.{is_finish_of}
use Rattle.desk_facts.proofs.Boards.{same_asks, stood_asks, nth_set}
use Rattle.desk_facts.proofs.Asking.{nth_kept}
use Rattle.desk_facts.proofs.Orderly.{ask_kept}
use Rattle.desk_facts.proofs.Leaving.{tx}

-- ---- what was asked
named_same : (c : ℕ) (f : ClientStand → ClientStand) (cs : List ClientStand) → ((x : ClientStand) → (f x).client ≡ x.client) → ((x : ClientStand) → (f x).requests ≡ x.requests) → (x : ConnId) → name_asked_by (at_desk_client c f cs) x ≡ name_asked_by cs x
named_same c f cs h k x = ap (λ rs. option_map (λ r. r.name) (request_in rs x.request)) (same_asks c x.client f cs h k)

event_asks : (b : DeskBoard) (e : ClientEvent) (x : ConnId) → name_asked_by (after_event b e).clients x ≡ name_asked_by b.clients x
event_asks b (event.Upgrade who old new) x = stood_asks stand.Upgrading who x b.clients
event_asks b (event.Blocked who old new) x = refl
event_asks b (event.Success who version) x = stood_asks stand.Given who x b.clients
event_asks b (event.Error who name) x = refl
event_asks b (event.VersionChange who old new) x = named_same who.client (change_taken who) b.clients (λ c. refl) (λ c. refl) x
event_asks b (event.Closed who) x = refl
event_asks b (event.DeleteReady who old) x = by_name (name_asked_by b.clients who)
  where
    by_name : (name : Option (List ℕ)) → name_asked_by (drawn_whole b who kind.Deletion name).clients x ≡ name_asked_by b.clients x
    by_name None = refl
    by_name (Some name) = refl

take_asks : (d : DeskState) (client : ℕ) (o : Option ClientEvent) (x : ConnId) → asked_at (after_take d client o) x ≡ asked_at d x
take_asks d client None x = refl
take_asks d client (Some e) x = event_asks d.board e x

create_asks : (d : DeskState) (who : ConnId) (scope : List (List ℕ)) (m : Mode) (name : Option (List ℕ)) (schema : Option SchemaData) (x : ConnId) → asked_at (after_created d who scope m name schema) x ≡ asked_at d x
create_asks d who scope m None schema x = refl
create_asks d who scope m (Some name) None x = refl
create_asks d who scope m (Some name) (Some schema) x = named_same who.client created_more d.board.clients (λ c. refl) (λ c. refl) x

left_asks : (k : TxKind) (who : ConnId) (cs : List ClientStand) (x : ConnId) → name_asked_by (clients_left k who cs) x ≡ name_asked_by cs x
left_asks kind.Plain who cs x = refl
left_asks (kind.Upgrade v) who cs x = elim (is_upgrading (stand_of cs who)) as (λ b. name_asked_by (cond b (stood stand.Given who cs) cs) x ≡ name_asked_by cs x) [ true ↦ stood_asks stand.Given who x cs | false ↦ refl ]
left_asks kind.Deletion who cs x = refl

leave_asks : (d : DeskState) (number : ℕ) (committed : Bool) (kept : Option SchemaData) (o : Option DrawnTx) (x : ConnId) → asked_at (after_left d number committed kept o) x ≡ asked_at d x
leave_asks d number committed kept None x = refl
leave_asks d number committed kept (Some t) x = left_asks t.kind t.who d.board.clients x

-- the number of an ask that is allowed
pub ask_number : (d : DeskState) (who : ConnId) (name : List ℕ) (want : Wants) → is_allowed d (step.Asks who name want) ≡ true → who.request ≡ length (asks_of d.board.clients who.client) + 1
ask_number d who name want h = eqb-true who.request _ (and_parts (is_none (refusal_of_ask d who want)) _ h).1

-- what was asked stays
pub asks_stay : (d : DeskState) (t : DeskStep) (x : ConnId) (w : List ℕ) → is_allowed d t ≡ true → asked_at d x ≡ Some w → asked_at (after d t) x ≡ Some w
unfolding after
asks_stay d (step.Asks who name want) x w h a = ask_kept d who name (ask_number d who name want h) x w a
asks_stay d (step.Takes client) x w h a = take_asks d client (event_for d client) x ∙ a
asks_stay d (step.Handles client) x w h a = named_same client (changes_left (drop 1 (unhandled d.queues.names (changes_in d.board.clients client)))) d.board.clients (λ c. refl) (λ c. refl) x ∙ a
asks_stay d (step.Closes who) x w h a = stood_asks stand.Shut who x d.board.clients ∙ a
asks_stay d (step.Creates number who scope m durability) x w h a = create_asks d who scope m (name_asked_by d.board.clients who) (schema_of d.queues who) x ∙ a
asks_stay d (step.Starts client number) x w h a = a
asks_stay d (step.Leaves client number ended kept) x w h a = leave_asks d number (is_committed ended) kept (drawn_at d.board.drawn number) x ∙ a
asks_stay d step.Faults x w h a = a

-- ---- transactions
drawn_kept : (ds : List DrawnTx) (u : DrawnTx) (n : ℕ) (t : DrawnTx) → drawn_at ds n ≡ Some t → drawn_at (ds ++ u ∷ []) n ≡ Some t
drawn_kept ds u n t = elim (eqb n 0) as (λ b. cond b None (slice_get ds (n - 1)) ≡ Some t → cond b None (slice_get (ds ++ u ∷ []) (n - 1)) ≡ Some t) [ true ↦ λ h. h | false ↦ λ h. nth_kept ds u (n - 1) t h ]

-- after the transaction of a number is so far
pub stage_at : (s : TxStage) (n m : ℕ) (ds : List DrawnTx) (t : DrawnTx) → drawn_at ds m ≡ Some t → (drawn_at (with_stage s n ds) m ≡ Some t) ⊎ ((m ≡ n) × (drawn_at (with_stage s n ds) m ≡ Some (tx t.who t.kind s)))
stage_at s n m ds t h = by_drawn (drawn_at ds n) refl
  where
    back : (a b : ℕ) → eqb a 0 ≡ false → eqb b 0 ≡ false → b - 1 ≡ a - 1 → b ≡ a
    back zero b e g k = cc
    back (suc a) zero e g k = cc
    back (suc a) (suc b) e g k = omega arith

    set_at : (u : DrawnTx) → drawn_at ds n ≡ Some u → (drawn_at (slice_set ds (n - 1) (tx u.who u.kind s)) m ≡ Some t) ⊎ ((m ≡ n) × (drawn_at (slice_set ds (n - 1) (tx u.who u.kind s)) m ≡ Some (tx t.who t.kind s)))
    set_at u = elim (eqb n 0) as (λ b. eqb n 0 ≡ b → cond b None (slice_get ds (n - 1)) ≡ Some u → (drawn_at (slice_set ds (n - 1) (tx u.who u.kind s)) m ≡ Some t) ⊎ ((m ≡ n) × (drawn_at (slice_set ds (n - 1) (tx u.who u.kind s)) m ≡ Some (tx t.who t.kind s)))) [
      | true ↦ λ e g. absurd (none-some u g)
      | false ↦ λ e g. elim (eqb m 0) as (λ b. eqb m 0 ≡ b → cond b None (slice_get ds (m - 1)) ≡ Some t → (cond b None (slice_get (slice_set ds (n - 1) (tx u.who u.kind s)) (m - 1)) ≡ Some t) ⊎ ((m ≡ n) × (cond b None (slice_get (slice_set ds (n - 1) (tx u.who u.kind s)) (m - 1)) ≡ Some (tx t.who t.kind s)))) [
        | true ↦ λ f k. absurd (none-some t k)
        | false ↦ λ f k. elim (nth_set ds (n - 1) (m - 1) u (tx u.who u.kind s) g) [
          | inl j ↦ inl (j ∙ k)
          | inr j ↦ (let same : u ≡ t = (let z : Some u ≡ Some t = sym g ∙ ap (slice_get ds) (sym j.0) ∙ k in cc) in inr (back n m e f j.0, j.1 ∙ ap (λ x. Some (tx x.who x.kind s)) same))
        ]
      ] refl h
    ] refl

    by_drawn : (o : Option DrawnTx) → drawn_at ds n ≡ o → (drawn_at (with_stage s n ds) m ≡ Some t) ⊎ ((m ≡ n) × (drawn_at (with_stage s n ds) m ≡ Some (tx t.who t.kind s)))
    by_drawn None e = inl (ap (λ o. drawn_at (stages_where ds n s o) m) e ∙ h)
    by_drawn (Some u) e = elim (set_at u e) [
      | inl g ↦ inl (ap (λ o. drawn_at (stages_where ds n s o) m) e ∙ g)
      | inr g ↦ inr (g.0, ap (λ o. drawn_at (stages_where ds n s o) m) e ∙ g.1)
    ]

-- it is the same transaction, and isn't finished
pub record IsStill (drawn : List DrawnTx) (number : ℕ) (t : DrawnTx) : Type 0 where
  pub now : TxStage
  pub drawn_is : drawn_at drawn number ≡ Some (tx t.who t.kind now)
  pub unfinished : is_finished_stage now ≡ false

as_is : (ds : List DrawnTx) (number : ℕ) (t : DrawnTx) → drawn_at ds number ≡ Some t → is_finished_stage t.stage ≡ false → IsStill ds number t
as_is ds number t e u = record { now = t.stage; drawn_is = e; unfinished = u }

whole_still : (b : DeskBoard) (who : ConnId) (k : TxKind) (name : Option (List ℕ)) (number : ℕ) (t : DrawnTx) → drawn_at b.drawn number ≡ Some t → is_finished_stage t.stage ≡ false → IsStill (drawn_whole b who k name).drawn number t
whole_still b who k None number t e u = as_is b.drawn number t e u
whole_still b who k (Some name) number t e u = as_is (b.drawn ++ tx who k stage.Created ∷ []) number t (drawn_kept b.drawn (tx who k stage.Created) number t e) u

take_still : (d : DeskState) (client : ℕ) (o : Option ClientEvent) (number : ℕ) (t : DrawnTx) → drawn_at d.board.drawn number ≡ Some t → is_finished_stage t.stage ≡ false → IsStill (after_take d client o).board.drawn number t
take_still d client None number t e u = as_is d.board.drawn number t e u
take_still d client (Some (event.Upgrade who old new)) number t e u = whole_still d.board who (kind.Upgrade new) (name_asked_by d.board.clients who) number t e u
take_still d client (Some (event.Blocked who old new)) number t e u = as_is d.board.drawn number t e u
take_still d client (Some (event.Success who version)) number t e u = as_is d.board.drawn number t e u
take_still d client (Some (event.Error who name)) number t e u = as_is d.board.drawn number t e u
take_still d client (Some (event.VersionChange who old new)) number t e u = as_is d.board.drawn number t e u
take_still d client (Some (event.Closed who)) number t e u = as_is d.board.drawn number t e u
take_still d client (Some (event.DeleteReady who old)) number t e u = whole_still d.board who kind.Deletion (name_asked_by d.board.clients who) number t e u

create_still : (d : DeskState) (who : ConnId) (scope : List (List ℕ)) (m : Mode) (name : Option (List ℕ)) (schema : Option SchemaData) (number : ℕ) (t : DrawnTx) → drawn_at d.board.drawn number ≡ Some t → is_finished_stage t.stage ≡ false → IsStill (after_created d who scope m name schema).board.drawn number t
create_still d who scope m None schema number t e u = as_is d.board.drawn number t e u
create_still d who scope m (Some name) None number t e u = as_is d.board.drawn number t e u
create_still d who scope m (Some name) (Some schema) number t e u = as_is (d.board.drawn ++ tx who kind.Plain stage.Created ∷ []) number t (drawn_kept d.board.drawn (tx who kind.Plain stage.Created) number t e) u

leave_still : (d : DeskState) (n : ℕ) (committed : Bool) (kept : Option SchemaData) (o : Option DrawnTx) (number : ℕ) (t : DrawnTx) → eqb n number ≡ false → drawn_at d.board.drawn number ≡ Some t → is_finished_stage t.stage ≡ false → IsStill (after_left d n committed kept o).board.drawn number t
leave_still d n committed kept None number t f e u = as_is d.board.drawn number t e u
leave_still d n committed kept (Some x) number t f e u = elim (stage_at stage.Finished n number d.board.drawn t e) [
  | inl g ↦ as_is (with_stage stage.Finished n d.board.drawn) number t g u
  | inr g ↦ absurd (eqb-false n number f (sym g.0))
]

pub still_unfinished : (d : DeskState) (t : DeskStep) (number : ℕ) (x : DrawnTx) → is_finish_of number t ≡ false → drawn_at d.board.drawn number ≡ Some x → is_finished_stage x.stage ≡ false → IsStill (after d t).board.drawn number x
unfolding after
still_unfinished d (step.Asks who name want) number x f e u = as_is d.board.drawn number x e u
still_unfinished d (step.Takes client) number x f e u = take_still d client (event_for d client) number x e u
still_unfinished d (step.Handles client) number x f e u = as_is d.board.drawn number x e u
still_unfinished d (step.Closes who) number x f e u = as_is d.board.drawn number x e u
still_unfinished d (step.Creates n who scope m durability) number x f e u = create_still d who scope m (name_asked_by d.board.clients who) (schema_of d.queues who) number x e u
still_unfinished d (step.Starts client n) number x f e u = elim (stage_at stage.Started n number d.board.drawn x e) [
  | inl g ↦ as_is (with_stage stage.Started n d.board.drawn) number x g u
  | inr g ↦ record { now = stage.Started; drawn_is = g.1; unfinished = refl }
]
still_unfinished d (step.Leaves client n ended kept) number x f e u = leave_still d n (is_committed ended) kept (drawn_at d.board.drawn n) number x f e u
still_unfinished d step.Faults number x f e u = as_is d.board.drawn number x e u
