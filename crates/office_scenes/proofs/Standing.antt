-- Where a client stands, and what the laws tell there.
--     stands_behind, works_on     behind steps it stands so again
--     never_stray           an event is one of the client's own
--     not_begun             what is due and can't start may not begin
--     turn_can, finish_can  what the client's office allows then
--     allowed_finish, allowed_aborted       what the desk allows then
--     whole_at, loggable_at, there_at       a transaction fits its part of the databases;  what it changes can be logged;  what one deletes exists
--     holds_started, holds_kept             what the client holds
--     HeldTaskLaw, HeldPostLaw      by the laws of what is held
use Rattle.std.proofs.Common.{◌≡◌, ◌≤◌, ℕ, length, Bool, true, false, not, ◌&&◌, ◌||◌, List, [], slice_get, Option, Some, None, is_some, is_none, refl, sym, ◌∙◌, ap, subst}
use Rattle.idb_schema.specs.Schemas.{SchemaData}
use Rattle.idb_calls.specs.Deltas.{DeltaTree}
use Rattle.idb_calls.specs.declared.traces.Outcome.{Outcome}
use Rattle.name_queues.specs.Mails.{conn_of}
use Rattle.name_queues.specs.declared.events.ClientEvent.{ClientEvent}
use Rattle.name_queues.specs.declared.events.ClientEvent.TheVariants as event
use Rattle.name_queues.specs.declared.ids.ConnId.{ConnId}
use Rattle.desk_steps.specs.declared.steps.DeskStep.TheVariants as step
use Rattle.idb_desk.specs.Refusals.{has_some, is_allowed, is_committed, is_version}
use Rattle.idb_desk.specs.Steps.{DeskRun, desk_run, event_for}
use Rattle.std.specs.FinMap as finite
use Rattle.item_changes.specs.Items.{Name, Database, Items}
use Rattle.item_changes.specs.Scopes.{part_of}
use Rattle.serial_order.specs.FinishEntries.{ScriptedBody, TxBody, Scripted, Deletion, scope_of_body}
use Rattle.serial_order.specs.SerialRuns.{RunsOn}
use Rattle.serial_order.specs.NumberOrder.{FitsWhole}
use Rattle.idb_databases.specs.Items.{AreItems}
use Rattle.record_bytes.specs.Loggable.{is_logged_version}
use Rattle.request_lists.specs.Fronts.{is_upgrade_mode}
use Rattle.list_machine.specs.declared.limits.TheConstants.{GREATEST_STORE_COUNT}
use Rattle.session_txs.specs.Running.{IsLoggableBody}
use Rattle.script_statements.specs.declared.script.Block.{Block as Named}
use Rattle.script_statements.specs.declared.script.ScriptSession.{ScriptSession}
use Rattle.script_runs.specs.declared.environments.Env.{Env}
use Rattle.script_runs.specs.declared.notes.Note.{Note}
use Rattle.script_handlers.specs.Handling.{Script, ScriptReacts, ScriptWrites}
use Rattle.client_machine.specs.Acts.{Act}
use Rattle.client_machine.specs.Answering.{told_by}
use Rattle.client_machine.specs.ClientStates.{OpenAsked, ClientTx, ClientState, open_at, tx_at, with_started, with_notes}
use Rattle.client_machine.specs.ClientSteps.{may_begin, with_tasks}
use Rattle.client_machine.specs.TaskRuns.{RunsNow}
use Rattle.client_parts.specs.Standing.{may_start_of, started_of, waits_of}
use Rattle.client_tasks.specs.Steps.{Whether, StaysAsIs, RunsTaskInto, StartsInto, TurnInto, is_stray, IsStray, told_take, is_idle, can_start, can_turn, can_finish, can_drop}
use Rattle.session_states.specs.Sessions.{SeatNow, SessionNow}
use Rattle.session_states.specs.Telling.{RunningTx}
use Rattle.session_states.specs.UnderWay.{IsInStep}
use Rattle.session_limits.specs.Fitting.{IsFitting}
use Rattle.session_limits.specs.Showing.{IsShown}
use Rattle.client_tasks.specs.Offices.{OfficeState}
use Rattle.office_scenes.specs.Scenes.{DoneNow, Scene, scene_of, seat_on, with_scene, LeadsTo, KeepsOn, StandsOn, IsAtWork}
use Rattle.office_scenes.specs.Running.{HoldsTx, HoldsBegun, IsDue}
use Rattle.office_scenes.proofs.Places.{get_here}

-- ---- behind steps
pub stands_behind : (running next : Option RunningTx) (s last : Scene) → StandsOn running s → LeadsTo running next s last → StandsOn next last
stands_behind running next s last on l = record {
  session = on.session;
  now = with_scene on.place last on.now;
  place = on.place;
  at = record {
    script = on.at.script;
    script_at = on.at.script_at;
    blocks = l.blocks ∙ on.at.blocks;
    seat_at = get_here on.now.seats on.place (seat_on s) (seat_on last) on.at.seat_at;
    run = refl;
    finish = refl;
    commits = refl;
    doubts = refl;
    items = refl;
  };
  driven = l.leads on.session on.now on.place on.at on.driven;
}

pub works_on : (running : Option RunningTx) (office : OfficeState) (notes : List Note) (done : DoneNow) (items : Items) → StandsOn running (scene_of office notes done items) → IsAtWork running office notes
works_on running office notes done items on = record { done = done; items = items; on = on }

pub works_still : (running : Option RunningTx) (old new : OfficeState) (before after : List Note) → StaysAsIs old before new after → IsAtWork running old before → IsAtWork running new after
works_still running old new before after s w = subst (λ (ns : List Note). IsAtWork running new ns) (sym s.notes) (subst (λ (o : OfficeState). IsAtWork running o before) (sym s.office) w)

-- ---- events
abbrev pub OpensLaw : Type 0
OpensLaw = (session : ScriptSession) (opening : Items) (now : SessionNow) (running : Option RunningTx) (place : ℕ) (seat : SeatNow) (e : ClientEvent) → IsInStep session opening now running → IsFitting now → slice_get now.seats place ≡ Some seat
    → event_for (desk_run now.run) seat.client.number ≡ Some e → (o : OpenAsked) × (open_at seat.client (conn_of e).request ≡ Some o)

abbrev pub UpgradesLaw : Type 0
UpgradesLaw = (session : ScriptSession) (opening : Items) (now : SessionNow) (running : Option RunningTx) (place : ℕ) (seat : SeatNow) (who : ConnId) (old new : ℕ) → IsInStep session opening now running → IsFitting now → slice_get now.seats place ≡ Some seat
    → event_for (desk_run now.run) seat.client.number ≡ Some (event.Upgrade who old new)
    → (number : ℕ) × ((schema : SchemaData) × (((told_by (desk_run now.run) (step.Takes seat.client.number)).number ≡ Some number) × ((told_by (desk_run now.run) (step.Takes seat.client.number)).schema ≡ Some schema)))

abbrev pub DeletionsLaw : Type 0
DeletionsLaw = (session : ScriptSession) (opening : Items) (now : SessionNow) (running : Option RunningTx) (place : ℕ) (seat : SeatNow) (who : ConnId) (old : ℕ) → IsInStep session opening now running → IsFitting now → slice_get now.seats place ≡ Some seat
    → event_for (desk_run now.run) seat.client.number ≡ Some (event.DeleteReady who old) → (number : ℕ) × ((told_by (desk_run now.run) (step.Takes seat.client.number)).number ≡ Some number)

lacks_none : {X Y Z : Type 0} (a : Option X) (b : Option Y) (c : Option Z) (x : X) (y : Y) (z : Z) → a ≡ Some x → b ≡ Some y → c ≡ Some z → (is_none a || (is_none b || is_none c)) ≡ true → ⊥
lacks_none (Some _) (Some _) (Some _) x y z p q r e = cc
lacks_none (Some _) (Some _) None x y z p q r e = cc
lacks_none (Some _) None c x y z p q r e = cc
lacks_none None b c x y z p q r e = cc

module _ (opens : OpensLaw) (upgrades : UpgradesLaw) (deletions : DeletionsLaw) (running : Option RunningTx) (o : OfficeState) (notes : List Note) (w : IsAtWork running o notes) where
  abbrev now : SessionNow
  now = w.on.now

  told_here : (e : ClientEvent) → event_for (desk_run o.run) o.client.number ≡ Some e → event_for (desk_run now.run) o.client.number ≡ Some e
  told_here e told = ap (λ (r : DeskRun). event_for (desk_run r) o.client.number) w.on.at.run ∙ told

  open_here : (e : ClientEvent) → event_for (desk_run o.run) o.client.number ≡ Some e → (a : OpenAsked) × (open_at o.client (conn_of e).request ≡ Some a)
  open_here e told = opens w.on.session w.done.opening now running w.on.place (seat_on (scene_of o notes w.done w.items)) e w.on.driven.under_way.in_step w.on.driven.fits w.on.at.seat_at (told_here e told)

  plain_own : (e : ClientEvent) → event_for (desk_run o.run) o.client.number ≡ Some e → (is_none (open_at o.client (conn_of e).request) || false) ≡ true → ⊥
  plain_own e told stray =
      let a = open_here e told in
      lacks_none {Y = ℕ} {Z = ℕ} (open_at o.client (conn_of e).request) (Some 0) (Some 0) a.0 0 0 a.1 refl refl stray

  by_event : (e : ClientEvent) → event_for (desk_run o.run) o.client.number ≡ Some e → is_stray o e ≡ true → ⊥
  by_event (event.Upgrade who old new) told stray =
      let a = open_here (event.Upgrade who old new) told in
      let u = upgrades w.on.session w.done.opening now running w.on.place (seat_on (scene_of o notes w.done w.items)) who old new w.on.driven.under_way.in_step w.on.driven.fits w.on.at.seat_at (told_here (event.Upgrade who old new) told) in
      let number : (told_take o).number ≡ Some u.0 = ap (λ (r : DeskRun). (told_by (desk_run r) (step.Takes o.client.number)).number) (sym w.on.at.run) ∙ u.1.1.0 in
      let schema : (told_take o).schema ≡ Some u.1.0 = ap (λ (r : DeskRun). (told_by (desk_run r) (step.Takes o.client.number)).schema) (sym w.on.at.run) ∙ u.1.1.1 in
      lacks_none (open_at o.client who.request) (told_take o).number (told_take o).schema a.0 u.0 u.1.0 a.1 number schema stray
  by_event (event.Blocked who old new) told stray = plain_own (event.Blocked who old new) told stray
  by_event (event.Success who version) told stray = plain_own (event.Success who version) told stray
  by_event (event.Error who name) told stray = plain_own (event.Error who name) told stray
  by_event (event.VersionChange who old new) told stray = plain_own (event.VersionChange who old new) told stray
  by_event (event.Closed who) told stray = plain_own (event.Closed who) told stray
  by_event (event.DeleteReady who old) told stray =
      let a = open_here (event.DeleteReady who old) told in
      let d = deletions w.on.session w.done.opening now running w.on.place (seat_on (scene_of o notes w.done w.items)) who old w.on.driven.under_way.in_step w.on.driven.fits w.on.at.seat_at (told_here (event.DeleteReady who old) told) in
      let number : (told_take o).number ≡ Some d.0 = ap (λ (r : DeskRun). (told_by (desk_run r) (step.Takes o.client.number)).number) (sym w.on.at.run) ∙ d.1 in
      lacks_none {Z = ℕ} (open_at o.client who.request) (told_take o).number (Some 0) a.0 d.0 0 a.1 number refl stray

  pub never_stray : IsStray o → ⊥
  never_stray s = by_event s.event s.told s.stray

-- ---- what an office allows
and_left : (a b : Bool) → a ≡ true → (a && b) ≡ b
and_left true b e = refl
and_left false b e = cc

and_right : (a b : Bool) → b ≡ true → (a && b) ≡ a
and_right true b e = e
and_right false b e = refl

idle_so : (o : OfficeState) → o.client.tasks ≡ [] → is_idle o ≡ true
idle_so o idle = ap (λ ts. not (has_some ts)) idle

pub not_begun : (o : OfficeState) (number : ℕ) (d : IsDue o.run o.client number) → (desk_run o.run).board.is_faulted ≡ false → can_start o number ≡ false → may_begin d.tx.body ≡ false
not_begun o number d calm e =
    let allowed : Bool = is_allowed (desk_run o.run) (step.Starts o.client.number number) in
    let may : may_start_of (tx_at o.client number) ≡ may_begin d.tx.body = ap may_start_of d.found ∙ ap (λ b. not b && may_begin d.tx.body) d.waits in
    sym may ∙ sym (and_right (may_start_of (tx_at o.client number)) allowed (d.allowed calm)) ∙ sym (and_left (is_idle o) (may_start_of (tx_at o.client number) && allowed) (idle_so o d.idle)) ∙ e

pub turn_can : (o : OfficeState) (number : ℕ) → o.client.tasks ≡ [] → HoldsTx o number → can_turn o number ≡ true
turn_can o number idle h = and_left (is_idle o) (started_of (tx_at o.client number)) (idle_so o idle) ∙ ap started_of h.found ∙ h.started

pub finish_can : (o : OfficeState) (number : ℕ) (outcome : Outcome) (kept : Option SchemaData) → o.client.tasks ≡ [] → HoldsTx o number → is_allowed (desk_run o.run) (step.Leaves o.client.number number outcome kept) ≡ true → can_finish o number outcome kept ≡ true
finish_can o number outcome kept idle h allowed = and_left (can_turn o number) (is_allowed (desk_run o.run) (step.Leaves o.client.number number outcome kept)) (turn_can o number idle h) ∙ allowed

-- ---- what the desk allows
abbrev pub FinishesLaw : Type 0
FinishesLaw = (session : ScriptSession) (opening : Items) (now : SessionNow) (t : RunningTx) (place : ℕ) (seat : SeatNow) (tx : ClientTx) (part : Option Database) (turns : List (List Note)) (changes : List DeltaTree) (kept : Option SchemaData) (outcome : Outcome)
    → IsInStep session opening now (Some t) → IsFitting now → slice_get now.seats place ≡ Some seat → tx_at seat.client t.number ≡ Some tx
    → RunsOn ScriptReacts ScriptWrites part t.body turns changes kept false outcome → is_allowed (desk_run now.run) (step.Leaves seat.client.number t.number outcome kept) ≡ true

pub allowed_finish : FinishesLaw → (t : RunningTx) (o : OfficeState) (notes : List Note) (part : Option Database) (turns : List (List Note)) (changes : List DeltaTree) (kept : Option SchemaData) (outcome : Outcome)
    → IsAtWork (Some t) o notes → HoldsTx o t.number → RunsOn ScriptReacts ScriptWrites part t.body turns changes kept false outcome → is_allowed (desk_run o.run) (step.Leaves o.client.number t.number outcome kept) ≡ true
allowed_finish law t o notes part turns changes kept outcome w h runs =
    ap (λ (r : DeskRun). is_allowed (desk_run r) (step.Leaves o.client.number t.number outcome kept)) (sym w.on.at.run)
    ∙ law w.on.session w.done.opening w.on.now t w.on.place (seat_on (scene_of o notes w.done w.items)) h.tx part turns changes kept outcome w.on.driven.under_way.in_step w.on.driven.fits w.on.at.seat_at h.found runs

abbrev pub AbortedLaw : Type 0
AbortedLaw = (session : ScriptSession) (opening : Items) (now : SessionNow) (running : Option RunningTx) (place : ℕ) (seat : SeatNow) (number : ℕ) (tx : ClientTx) (ended : Outcome)
    → IsInStep session opening now running → IsFitting now → slice_get now.seats place ≡ Some seat → tx_at seat.client number ≡ Some tx → is_committed ended ≡ false
    → is_allowed (desk_run now.run) (step.Leaves seat.client.number number ended None) ≡ true

pub allowed_aborted : AbortedLaw → (running : Option RunningTx) (o : OfficeState) (notes : List Note) (number : ℕ) (tx : ClientTx) (ended : Outcome)
    → IsAtWork running o notes → tx_at o.client number ≡ Some tx → is_committed ended ≡ false → is_allowed (desk_run o.run) (step.Leaves o.client.number number ended None) ≡ true
allowed_aborted law running o notes number tx ended w found out =
    ap (λ (r : DeskRun). is_allowed (desk_run r) (step.Leaves o.client.number number ended None)) (sym w.on.at.run)
    ∙ law w.on.session w.done.opening w.on.now running w.on.place (seat_on (scene_of o notes w.done w.items)) number tx ended w.on.driven.under_way.in_step w.on.driven.fits w.on.at.seat_at found out

-- ---- its part
abbrev pub WholeLaw : Type 0
WholeLaw = (session : ScriptSession) (opening : Items) (now : SessionNow) (running : Option RunningTx) (place : ℕ) (seat : SeatNow) (number : ℕ) (tx : ClientTx) (body : ScriptedBody Script)
    → IsInStep session opening now running → IsFitting now → IsShown now → slice_get now.seats place ≡ Some seat → tx_at seat.client number ≡ Some tx → tx.body ≡ Scripted body
    → FitsWhole (part_of (scope_of_body (Scripted body)) now.items) body

pub whole_at : WholeLaw → (running : Option RunningTx) (o : OfficeState) (notes : List Note) (done : DoneNow) (items : Items) (number : ℕ) (body : ScriptedBody Script)
    → StandsOn running (scene_of o notes done items) → HoldsBegun o number (Scripted body) → FitsWhole (part_of (scope_of_body (Scripted body)) items) body
whole_at law running o notes done items number body on h =
    subst (λ (is : Items). FitsWhole (part_of (scope_of_body (Scripted body)) is) body) on.at.items
    (law on.session done.opening on.now running on.place (seat_on (scene_of o notes done items)) number h.held.tx body on.driven.under_way.in_step on.driven.fits on.driven.shown on.at.seat_at h.held.found h.body_is)

abbrev pub VersionsLaw : Type 0
VersionsLaw = (session : ScriptSession) (opening : Items) (now : SessionNow) (running : Option RunningTx) (place : ℕ) (seat : SeatNow) (number : ℕ) (tx : ClientTx) (body : ScriptedBody Script)
    → IsInStep session opening now running → IsFitting now → AreItems opening → slice_get now.seats place ≡ Some seat → tx_at seat.client number ≡ Some tx → tx.body ≡ Scripted body
    → is_upgrade_mode body.mode ≡ true → is_version body.schema.version ≡ true

abbrev pub FewLaw : Type 0
FewLaw = (session : ScriptSession) (opening : Items) (now : SessionNow) (running : Option RunningTx) (place : ℕ) (seat : SeatNow) (number : ℕ) (tx : ClientTx) (body : ScriptedBody Script)
    → IsInStep session opening now running → IsFitting now → slice_get now.seats place ≡ Some seat → tx_at seat.client number ≡ Some tx → tx.body ≡ Scripted body
    → length body.schema.entries ≤ GREATEST_STORE_COUNT

-- what it changes can be logged
pub loggable_at : VersionsLaw → FewLaw → ((version : ℕ) → is_logged_version version ≡ is_version version) → (running : Option RunningTx) (o : OfficeState) (notes : List Note) (done : DoneNow) (items : Items) (number : ℕ) (body : ScriptedBody Script)
    → StandsOn running (scene_of o notes done items) → HoldsBegun o number (Scripted body) → IsLoggableBody body
loggable_at versions few logged running o notes done items number body on h = record {
  version = λ up. logged body.schema.version
      ∙ versions on.session done.opening on.now running on.place (seat_on (scene_of o notes done items)) number h.held.tx body on.driven.under_way.in_step on.driven.fits on.driven.opened.items on.at.seat_at h.held.found h.body_is up;
  few = few on.session done.opening on.now running on.place (seat_on (scene_of o notes done items)) number h.held.tx body on.driven.under_way.in_step on.driven.fits on.at.seat_at h.held.found h.body_is;
}

abbrev pub ThereLaw : Type 0
ThereLaw = (session : ScriptSession) (opening : Items) (now : SessionNow) (running : Option RunningTx) (place : ℕ) (seat : SeatNow) (number : ℕ) (tx : ClientTx) (name : Name)
    → IsInStep session opening now running → IsFitting now → IsShown now → slice_get now.seats place ≡ Some seat → tx_at seat.client number ≡ Some tx → tx.body ≡ Deletion name
    → is_some (finite.get now.items name) ≡ true

-- what one deletes exists
pub there_at : ThereLaw → (running : Option RunningTx) (o : OfficeState) (notes : List Note) (done : DoneNow) (items : Items) (number : ℕ) (name : Name)
    → StandsOn running (scene_of o notes done items) → HoldsBegun o number (Deletion name) → is_some (finite.get items name) ≡ true
there_at law running o notes done items number name on h =
    ap (λ (is : Items). is_some (finite.get is name)) (sym on.at.items)
    ∙ law on.session done.opening on.now running on.place (seat_on (scene_of o notes done items)) number h.held.tx name on.driven.under_way.in_step on.driven.fits on.driven.shown on.at.seat_at h.held.found h.body_is

-- ---- what the client holds
abbrev pub HeldStartedLaw : Type 0
HeldStartedLaw = (c : ClientState) (number : ℕ) (tx : ClientTx) → tx_at c number ≡ Some tx → tx_at (with_started c number) number ≡ Some (record tx { started = true })

pub holds_started : HeldStartedLaw → (number : ℕ) (old new : OfficeState) (body : TxBody Script) → StartsInto number old body new → HoldsBegun new number body
holds_started law number old new body s = record {
  idle = ap (λ (c : ClientState). c.tasks) s.client ∙ s.idle;
  held = record {
    tx = record s.tx { started = true };
    found = ap (λ c. tx_at c number) s.client ∙ law old.client number s.tx s.found;
    started = refl;
  };
  body_is = sym s.given;
}

abbrev pub HeldTaskLaw : Type 0
HeldTaskLaw = (blocks : List Named) (c last : ClientState) (env : Env) (block : Option ℕ) (acts : List Act) (number : ℕ) (tx : ClientTx) → RunsNow blocks c env block acts last → tx_at c number ≡ Some tx → tx_at last number ≡ Some tx

held_task : HeldTaskLaw → (number : ℕ) (old new : OfficeState) (before after : List Note) → RunsTaskInto old before new after → HoldsTx old number → HoldsTx new number
held_task law number old new before after t h = record {
  tx = h.tx;
  found = law old.blocks (with_tasks old.client t.tasks) new.client t.task.env (Some t.task.block) t.acts number h.tx t.runs h.found;
  started = h.started;
}

pub held_behind : HeldTaskLaw → (number : ℕ) (old new : OfficeState) (before after : List Note) (ran : Bool) → Whether ran (RunsTaskInto old before new after) (StaysAsIs old before new after) → HoldsTx old number → HoldsTx new number
held_behind law number old new before after true t h = held_task law number old new before after t h
held_behind law number old new before after false s h = subst (λ (o : OfficeState). HoldsTx o number) (sym s.office) h

abbrev pub HeldPostLaw : Type 0
HeldPostLaw = (c : ClientState) (notes : List Note) (number : ℕ) (tx : ClientTx) → tx_at c number ≡ Some tx → tx_at (with_notes c notes) number ≡ Some tx

pub held_turn : HeldPostLaw → (number : ℕ) (old new : OfficeState) (lines : List Note) → TurnInto number old lines new → HoldsTx new number
held_turn law number old new lines t = record {
  tx = t.tx;
  found = ap (λ c. tx_at c number) t.client ∙ law old.client lines number t.tx t.found;
  started = t.runs;
}
