-- What is owed after a step: one less after those that take no memory, at most three more after the others.
use Rattle.std.proofs.Common.{◌≡◌, ◌∙◌, ℕ, suc, zero, ◌+◌, ◌-◌, ◌≤◌, not, ◌&&◌, ◌||◌, Bool, true, false, cond, List, [], ◌∷◌, ◌++◌, length, drop, slice_get, slice_set, Option, Some, None, refl, ap, sym, subst, arith}
use Rattle.std.proofs.Math.Dec.{eqb}
use Rattle.std.specs.Prelude.{Result, Ok, Err, OnOk, OnErr}
use Rattle.std.specs.Prelude.{unwrap_or}
use Rattle.std.specs.List.{find, list_any}
use Rattle.std.proofs.lemmas.Option.{none-some}
use Rattle.idb_keys.specs.declared.names.Mode.{Mode}
use Rattle.idb_schema.specs.Schemas.{SchemaData}
use Rattle.idb_calls.specs.declared.traces.Outcome.{Outcome}
use Rattle.name_queues.specs.declared.ids.ConnId.{ConnId}
use Rattle.name_queues.specs.declared.events.ClientEvent.{ClientEvent}
use Rattle.name_queues.specs.declared.events.ClientEvent.TheVariants as event
use Rattle.name_queues.specs.declared.names.Named.{Named}
use Rattle.name_queues.specs.Names.{at_first, conn_in}
use Rattle.connection_queues.specs.Machine.{unhandled, is_taken_conn, schema_of}
use Rattle.desk_steps.specs.declared.stands.DeskRequest.{DeskRequest}
use Rattle.desk_steps.specs.declared.stands.DrawnTx.{DrawnTx}
use Rattle.desk_steps.specs.declared.stands.Stand.{Stand}
use Rattle.desk_steps.specs.declared.stands.Stand.TheVariants as stand
use Rattle.desk_steps.specs.declared.stands.TxKind.{TxKind}
use Rattle.desk_steps.specs.declared.stands.TxKind.TheVariants as kind
use Rattle.desk_steps.specs.declared.stands.TxStage.{TxStage}
use Rattle.desk_steps.specs.declared.stands.TxStage.TheVariants as stage
use Rattle.desk_steps.specs.declared.steps.DeskStep.{DeskStep}
use Rattle.desk_steps.specs.declared.steps.DeskStep.TheVariants as step
use Rattle.desk_steps.specs.DeskRoom.{stand_owes, owed_by, request_owes, client_owes, stage_owes, tx_owes, fault_owes, owed_steps, wants_memory}
use Rattle.desk_steps.specs.Desks.{DeskState, DeskBoard, ClientStand, is_client, new_client, or_new_client, client_in, changes_in, request_in, stand_where, stand_of, stands_where, with_stand, stood, with_desk_client, at_desk_client, drawn_at, stages_where, with_stage, name_asked_by}
use Rattle.desk_steps.specs.Refusals.{is_allowed, is_given, is_upgrading, is_open_conn, has_some, is_to_start, is_created_stage, is_finished_stage, may_leave_where, is_committed}
use Rattle.desk_steps.specs.Steps.{after, asked_more, created_more, change_taken, changes_left, after_event, after_take, event_for, drawn_whole, clients_left, after_created, after_left}
use Rattle.desk_steps.proofs.Standing.{none_in}

-- ---- sums
owed_set : {A : Type 0} (owes : A → ℕ) (xs : List A) (i : ℕ) (x y : A) → slice_get xs i ≡ Some x → owed_by owes (slice_set xs i y) + owes x ≡ owed_by owes xs + owes y
owed_set owes [] i x y e = absurd (none-some x e)
owed_set owes (z ∷ zs) zero x y e =
    let h : owes z ≡ owes x = ap (λ o. owes (unwrap_or o x)) e in
    omega (arith, h)
owed_set owes (z ∷ zs) (suc i) x y e =
    let ih = owed_set owes zs i x y e in
    omega (arith, ih)

owed_end : {A : Type 0} (owes : A → ℕ) (xs : List A) (y : A) → owed_by owes (xs ++ y ∷ []) ≡ owed_by owes xs + owes y
owed_end owes [] y = omega arith
owed_end owes (x ∷ xs) y = let ih = owed_end owes xs y in omega (arith, ih)

owed_first : {A : Type 0} (owes : A → ℕ) (test : A → Bool) (f : A → A) (k : ℕ) (xs : List A) → ((x : A) → owes (f x) ≤ owes x + k) → owed_by owes (at_first test f xs) ≤ owed_by owes xs + k
owed_first owes test f k [] h = omega arith
owed_first owes test f k (x ∷ xs) h = elim (test x) as (λ b. owed_by owes (cond b (f x ∷ xs) (x ∷ at_first test f xs)) ≤ owes x + owed_by owes xs + k) [
  | true ↦ let l = h x in omega (arith, l)
  | false ↦ let ih = owed_first owes test f k xs h in omega (arith, ih)
]

-- ---- opens and deletes
request_set : (rs : List DeskRequest) (n : ℕ) (s : Stand) → owed_by request_owes (stands_where rs n s (request_in rs n)) + stand_owes (stand_where (request_in rs n)) ≤ owed_by request_owes rs + stand_owes s
request_set rs n s = elim (eqb n 0) as (λ b. owed_by request_owes (stands_where rs n s (cond b None (slice_get rs (n - 1)))) + stand_owes (stand_where (cond b None (slice_get rs (n - 1)))) ≤ owed_by request_owes rs + stand_owes s) [
  | true ↦ omega arith
  | false ↦ elim (slice_get rs (n - 1)) as (λ o. slice_get rs (n - 1) ≡ o → owed_by request_owes (stands_where rs n s o) + stand_owes (stand_where o) ≤ owed_by request_owes rs + stand_owes s) [
    | None ↦ λ e. omega arith
    | Some r ↦ λ e. let h = owed_set request_owes rs (n - 1) r (record { name = r.name; stand = s }) e in omega (arith, h)
  ] refl
]

met : (client : ℕ) (c : ClientStand) (cs : List ClientStand) → is_client client c ≡ true → client_in (c ∷ cs) client ≡ c
met client c cs t = ap (λ b. or_new_client client (cond b (Some c) (find (is_client client) cs))) t

passed : (client : ℕ) (c : ClientStand) (cs : List ClientStand) → is_client client c ≡ false → client_in (c ∷ cs) client ≡ client_in cs client
passed client c cs t = ap (λ b. or_new_client client (cond b (Some c) (find (is_client client) cs))) t

client_set : (s : Stand) (who : ConnId) (cs : List ClientStand) → owed_by client_owes (stood s who cs) + stand_owes (stand_of cs who) ≤ owed_by client_owes cs + stand_owes s
client_set s who [] = let h : stand_of [] who ≡ stand.Shut = ap stand_where (none_in who.request) in subst (λ (x : Stand). 0 + stand_owes x ≤ 0 + stand_owes s) (sym h) (omega arith)
client_set s who (c ∷ cs) = elim (is_client who.client c) as (λ b. is_client who.client c ≡ b → owed_by client_owes (cond b (with_stand s who c ∷ cs) (c ∷ stood s who cs)) + stand_owes (stand_of (c ∷ cs) who) ≤ owed_by client_owes (c ∷ cs) + stand_owes s) [
  | true ↦ λ t.
      let g : stand_of (c ∷ cs) who ≡ stand_where (request_in c.requests who.request) = ap (λ (x : ClientStand). stand_where (request_in x.requests who.request)) (met who.client c cs t) in
      let k : stand_owes (stand_of (c ∷ cs) who) ≡ stand_owes (stand_where (request_in c.requests who.request)) = ap stand_owes g in
      let h = request_set c.requests who.request s in
      omega (arith, h, k)
  | false ↦ λ t.
      let g : stand_of (c ∷ cs) who ≡ stand_of cs who = ap (λ (x : ClientStand). stand_where (request_in x.requests who.request)) (passed who.client c cs t) in
      let k : stand_owes (stand_of (c ∷ cs) who) ≡ stand_owes (stand_of cs who) = ap stand_owes g in
      let ih = client_set s who cs in
      omega (arith, ih, k)
] refl

-- ---- transactions
drawn_set : (ds : List DrawnTx) (n : ℕ) (s : TxStage) (t : DrawnTx) → drawn_at ds n ≡ Some t → owed_by tx_owes (with_stage s n ds) + tx_owes t ≡ owed_by tx_owes ds + stage_owes s
drawn_set ds n s t e = elim (eqb n 0) as (λ b. cond b None (slice_get ds (n - 1)) ≡ Some t → owed_by tx_owes (stages_where ds n s (cond b None (slice_get ds (n - 1)))) + tx_owes t ≡ owed_by tx_owes ds + stage_owes s) [
  | true ↦ λ e. absurd (none-some t e)
  | false ↦ λ e. rw e (owed_set tx_owes ds (n - 1) t (record { who = t.who; kind = t.kind; stage = s }) e)
] e

-- ---- clients
asked_owes : (name : List ℕ) (c : ClientStand) → client_owes (asked_more name c) ≤ client_owes c + 1
asked_owes name c = let h = owed_end request_owes c.requests (record { name = name; stand = stand.Asked }) in omega (arith, h)

with_owes : (client : ℕ) (cs : List ClientStand) → owed_by client_owes (with_desk_client client cs) ≡ owed_by client_owes cs
with_owes client cs = elim (list_any (is_client client) cs) as (λ b. owed_by client_owes (cond b cs (cs ++ new_client client ∷ [])) ≡ owed_by client_owes cs) [ true ↦ refl | false ↦ let h = owed_end client_owes cs (new_client client) in omega (arith, h) ]

pub length_end : {A : Type 0} (xs : List A) (y : A) → length (xs ++ y ∷ []) ≡ length xs + 1
length_end [] y = refl
length_end (x ∷ xs) y = let ih = length_end xs y in omega (arith, ih)

taken_owes : (who : ConnId) (c : ClientStand) → client_owes (change_taken who c) ≤ client_owes c + 1
taken_owes who c = let h = length_end c.changes who in omega (arith, h)

unhandled_short : (ns : List Named) (ws : List ConnId) → length (unhandled ns ws) ≤ length ws
unhandled_short ns [] = omega arith
unhandled_short ns (w ∷ ws) = elim (is_taken_conn (conn_in ns w)) as (λ b. length (cond b (w ∷ ws) (unhandled ns ws)) ≤ suc (length ws)) [ true ↦ omega arith | false ↦ let ih = unhandled_short ns ws in omega (arith, ih) ]

left_short : (ws : List ConnId) → has_some ws ≡ true → length (drop 1 ws) + 1 ≤ length ws
left_short [] e = cc
left_short (w ∷ ws) e = omega arith

handled_owes : (client : ℕ) (ns : List Named) (whos : List ConnId) (cs : List ClientStand) → whos ≡ unhandled ns (changes_in cs client) → has_some whos ≡ true → owed_by client_owes (at_desk_client client (changes_left (drop 1 whos)) cs) + 1 ≤ owed_by client_owes cs
handled_owes client ns whos [] e h = let bad : has_some {A = ConnId} [] ≡ true = ap (λ (ws : List ConnId). has_some ws) (sym e) ∙ h in cc
handled_owes client ns whos (c ∷ cs) e h = elim (is_client client c) as (λ b. is_client client c ≡ b → owed_by client_owes (cond b (changes_left (drop 1 whos) c ∷ cs) (c ∷ at_desk_client client (changes_left (drop 1 whos)) cs)) + 1 ≤ owed_by client_owes (c ∷ cs)) [
  | true ↦ λ t.
      let g : changes_in (c ∷ cs) client ≡ c.changes = ap (λ (x : ClientStand). x.changes) (met client c cs t) in
      let f : whos ≡ unhandled ns c.changes = e ∙ ap (unhandled ns) g in
      let l = left_short whos h in
      let m : length whos ≤ length c.changes = rw f (unhandled_short ns c.changes) in
      omega (arith, l, m)
  | false ↦ λ t. let g : changes_in (c ∷ cs) client ≡ changes_in cs client = ap (λ (x : ClientStand). x.changes) (passed client c cs t) in let f : whos ≡ unhandled ns (changes_in cs client) = e ∙ ap (unhandled ns) g in let ih = handled_owes client ns whos cs f h in omega (arith, ih)
] refl

-- ---- steps
abbrev Owes : DeskState → DeskState → Bool → Type 0
Owes d e wants = owed_steps e + cond wants 0 1 ≤ owed_steps d + cond wants 3 0

whole_owes : (b : DeskBoard) (who : ConnId) (k : TxKind) (name : Option (List ℕ)) → owed_by tx_owes (drawn_whole b who k name).drawn ≤ owed_by tx_owes b.drawn + 2
whole_owes b who k None = omega arith
whole_owes b who k (Some name) = let h = owed_end tx_owes b.drawn (record { who = who; kind = k; stage = stage.Created }) in omega (arith, h)

whole_keeps : (b : DeskBoard) (who : ConnId) (k : TxKind) (name : Option (List ℕ)) → ((drawn_whole b who k name).clients ≡ b.clients) × ((drawn_whole b who k name).is_faulted ≡ b.is_faulted)
whole_keeps b who k None = (refl, refl)
whole_keeps b who k (Some name) = (refl, refl)

abbrev board_owes : DeskBoard → ℕ
board_owes b = owed_by client_owes b.clients + owed_by tx_owes b.drawn + fault_owes b.is_faulted

deletes_owe : (b : DeskBoard) (who : ConnId) (k : TxKind) (name : Option (List ℕ)) → board_owes (drawn_whole b who k name) ≤ board_owes b + 2
deletes_owe b who k name =
    let d = whole_owes b who k name in
    let h : owed_by client_owes (drawn_whole b who k name).clients ≡ owed_by client_owes b.clients = ap (owed_by client_owes) (whole_keeps b who k name).0 in
    let f : fault_owes (drawn_whole b who k name).is_faulted ≡ fault_owes b.is_faulted = ap fault_owes (whole_keeps b who k name).1 in
    omega (arith, d, h, f)

upgrades_owe : (b : DeskBoard) (who : ConnId) (k : TxKind) (name : Option (List ℕ)) → owed_by client_owes (stood stand.Upgrading who b.clients) + owed_by tx_owes (drawn_whole b who k name).drawn + fault_owes (drawn_whole b who k name).is_faulted ≤ board_owes b + 3
upgrades_owe b who k name =
    let d = whole_owes b who k name in
    let c = client_set stand.Upgrading who b.clients in
    let f : fault_owes (drawn_whole b who k name).is_faulted ≡ fault_owes b.is_faulted = ap fault_owes (whole_keeps b who k name).1 in
    omega (arith, d, c, f)

event_owes : (b : DeskBoard) (e : ClientEvent) → board_owes (after_event b e) ≤ board_owes b + 3
event_owes b (event.Upgrade who old new) = upgrades_owe b who (kind.Upgrade new) (name_asked_by b.clients who)
event_owes b (event.Blocked who old new) = omega arith
event_owes b (event.Success who version) = let c = client_set stand.Given who b.clients in omega (arith, c)
event_owes b (event.Error who name) = omega arith
event_owes b (event.VersionChange who old new) = let c = owed_first client_owes (is_client who.client) (change_taken who) 1 b.clients (taken_owes who) in omega (arith, c)
event_owes b (event.Closed who) = omega arith
event_owes b (event.DeleteReady who old) = let d = deletes_owe b who kind.Deletion (name_asked_by b.clients who) in omega (arith, d)

take_owes : (d : DeskState) (client : ℕ) (o : Option ClientEvent) → owed_steps (after_take d client o) ≤ owed_steps d + 3
take_owes d client None = omega arith
take_owes d client (Some e) = event_owes d.board e

ask_owes : (client : ℕ) (name : List ℕ) (cs : List ClientStand) → owed_by client_owes (at_desk_client client (asked_more name) (with_desk_client client cs)) ≤ owed_by client_owes cs + 1
ask_owes client name cs =
    let f = owed_first client_owes (is_client client) (asked_more name) 1 (with_desk_client client cs) (asked_owes name) in
    let w = with_owes client cs in
    omega (arith, f, w)

create_owes : (d : DeskState) (who : ConnId) (scope : List (List ℕ)) (m : Mode) (name : Option (List ℕ)) (schema : Option SchemaData) → owed_steps (after_created d who scope m name schema) ≤ owed_steps d + 3
create_owes d who scope m None schema = omega arith
create_owes d who scope m (Some name) None = omega arith
create_owes d who scope m (Some name) (Some schema) =
    let c = owed_first client_owes (is_client who.client) created_more 0 d.board.clients (λ c. omega arith) in
    let h = owed_end tx_owes d.board.drawn (record { who = who; kind = kind.Plain; stage = stage.Created }) in
    omega (arith, c, h)

-- ---- those that take no memory
and_both : (a b : Bool) → a && b ≡ true → (a ≡ true) × (b ≡ true)
and_both true b e = (refl, e)
and_both false b e = cc

not_false : (b : Bool) → not b ≡ true → b ≡ false
not_false true e = cc
not_false false e = refl

shut_owes : (s : Stand) → is_given s || is_upgrading s ≡ true → stand_owes s ≡ 1
shut_owes stand.Asked e = cc
shut_owes stand.Upgrading e = refl
shut_owes stand.Given e = refl
shut_owes stand.Shut e = cc

upgrading_owes : (s : Stand) → is_upgrading s ≡ true → stand_owes s ≡ 1
upgrading_owes stand.Asked e = cc
upgrading_owes stand.Upgrading e = refl
upgrading_owes stand.Given e = cc
upgrading_owes stand.Shut e = cc

left_clients : (k : TxKind) (who : ConnId) (cs : List ClientStand) → owed_by client_owes (clients_left k who cs) ≤ owed_by client_owes cs
left_clients kind.Plain who cs = omega arith
left_clients (kind.Upgrade version) who cs = elim (is_upgrading (stand_of cs who)) as (λ b. is_upgrading (stand_of cs who) ≡ b → owed_by client_owes (cond b (stood stand.Given who cs) cs) ≤ owed_by client_owes cs) [
  | true ↦ λ t. let c = client_set stand.Given who cs in let o = upgrading_owes (stand_of cs who) t in omega (arith, c, o)
  | false ↦ λ t. omega arith
] refl
left_clients kind.Deletion who cs = omega arith

created_stage : (s : TxStage) → is_created_stage s ≡ true → s ≡ stage.Created
created_stage stage.Created e = refl
created_stage stage.Started e = cc
created_stage stage.Finished e = cc

unfinished_owes : (s : TxStage) → is_finished_stage s ≡ false → 1 ≤ stage_owes s
unfinished_owes stage.Created e = omega arith
unfinished_owes stage.Started e = omega arith
unfinished_owes stage.Finished e = cc

start_owes : (client number : ℕ) (ds : List DrawnTx) (o : Option DrawnTx) → drawn_at ds number ≡ o → is_to_start client o ≡ true → owed_by tx_owes (with_stage stage.Started number ds) + 1 ≤ owed_by tx_owes ds
start_owes client number ds None e h = cc
start_owes client number ds (Some t) e h =
    let s = created_stage t.stage (and_both (eqb t.who.client client) (is_created_stage t.stage) h).1 in
    let d = drawn_set ds number stage.Started t e in
    let two : tx_owes t ≡ 2 = ap stage_owes s in
    omega (arith, d, two)

leave_owes : (d : DeskState) (client number : ℕ) (ended : Outcome) (kept : Option SchemaData) (o : Option DrawnTx) → drawn_at d.board.drawn number ≡ o → may_leave_where d client ended kept o ≡ true → owed_steps (after_left d number (is_committed ended) kept o) + 1 ≤ owed_steps d
leave_owes d client number ended kept None e h = cc
leave_owes d client number ended kept (Some t) e h =
    let own = and_both (eqb t.who.client client) _ h in
    let open_ = and_both (not (is_finished_stage t.stage)) _ own.1 in
    let one = unfinished_owes t.stage (not_false (is_finished_stage t.stage) open_.0) in
    let c = left_clients t.kind t.who d.board.clients in
    let s = drawn_set d.board.drawn number stage.Finished t e in
    omega (arith, one, c, s)

fault_one : (b : Bool) → not b ≡ true → fault_owes b ≡ 1
fault_one true e = cc
fault_one false e = refl

pub step_owes : (d : DeskState) (t : DeskStep) → is_allowed d t ≡ true → Owes d (after d t) (wants_memory t)
unfolding after
step_owes d (step.Asks who name want) h = let a = ask_owes who.client name d.board.clients in omega (arith, a)
step_owes d (step.Takes client) h = let a = take_owes d client (event_for d client) in omega (arith, a)
step_owes d (step.Handles client) h = let a = handled_owes client d.queues.names (unhandled d.queues.names (changes_in d.board.clients client)) d.board.clients refl h in omega (arith, a)
step_owes d (step.Closes who) h =
    let g = and_both (is_given (stand_of d.board.clients who) || is_upgrading (stand_of d.board.clients who)) (is_open_conn (conn_in d.queues.names who)) h in
    let one = shut_owes (stand_of d.board.clients who) g.0 in
    let c = client_set stand.Shut who d.board.clients in
    omega (arith, one, c)
step_owes d (step.Creates number who scope m durability) h = let a = create_owes d who scope m (name_asked_by d.board.clients who) (schema_of d.queues who) in omega (arith, a)
step_owes d (step.Starts client number) h =
    let g = and_both (not d.board.is_faulted) _ h in
    let a = start_owes client number d.board.drawn (drawn_at d.board.drawn number) refl (and_both (is_to_start client (drawn_at d.board.drawn number)) _ g.1).0 in
    omega (arith, a)
step_owes d (step.Leaves client number ended kept) h = let a = leave_owes d client number ended kept (drawn_at d.board.drawn number) refl h in omega (arith, a)
step_owes d step.Faults h = let a = fault_one d.board.is_faulted h in omega (arith, a)

-- ---- a counter that is no less
pub wide_owes : {T E : Type 0} (r : Result T E) (d e : DeskState) (t : DeskStep) (o p : ℕ) → is_allowed d t ≡ true → wants_memory t ≡ true → owed_steps d ≤ o → OnOk r (e ≡ after d t) → OnErr r (e ≡ d) → OnOk r (p ≡ o + 3) → OnErr r (p ≡ o) → owed_steps e ≤ p
wide_owes (Ok x) d e t o p a w l m u q v =
    let h : owed_steps (after d t) + 0 ≤ owed_steps d + 3 = subst (λ b. owed_steps (after d t) + cond b 0 1 ≤ owed_steps d + cond b 3 0) w (step_owes d t a) in
    subst (λ (x : DeskState). owed_steps x ≤ p) (sym m) (omega (arith, h, l, q))
wide_owes (Err x) d e t o p a w l m u q v = subst (λ (x : DeskState). owed_steps x ≤ p) (sym u) (omega (arith, l, v))

pub within_owes : (d e : DeskState) (t : DeskStep) (o p : ℕ) → is_allowed d t ≡ true → wants_memory t ≡ false → owed_steps d ≤ o → e ≡ after d t → p + 1 ≡ o → owed_steps e ≤ p
within_owes d e t o p a w l m q =
    let h : owed_steps (after d t) + 1 ≤ owed_steps d + 0 = subst (λ b. owed_steps (after d t) + cond b 0 1 ≤ owed_steps d + cond b 3 0) w (step_owes d t a) in
    subst (λ (x : DeskState). owed_steps x ≤ p) (sym m) (omega (arith, h, l, q))

pub one_owed : (d : DeskState) (t : DeskStep) (o : ℕ) → is_allowed d t ≡ true → wants_memory t ≡ false → owed_steps d ≤ o → 1 ≤ o
one_owed d t o a w l =
    let h : owed_steps (after d t) + 1 ≤ owed_steps d + 0 = subst (λ b. owed_steps (after d t) + cond b 0 1 ≤ owed_steps d + cond b 3 0) w (step_owes d t a) in
    omega (arith, h, l)
