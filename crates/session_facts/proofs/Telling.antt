-- What the desk tells with an event.
--     open_there            the open of the oldest event is one that the client has
--     upgrade_there, deletion_there     an event that begins a transaction comes with its number, and an upgrade's with its schema
use Rattle.std.proofs.Common.{◌≡◌, ℕ, ◌+◌, length, slice_get, Option, Some, None, option_map, refl, ◌∙◌}
use Rattle.idb_schema.specs.Schemas.{SchemaData}
use Rattle.name_queues.specs.Mails.{conn_of}
use Rattle.name_queues.specs.declared.events.ClientEvent.{ClientEvent}
use Rattle.name_queues.specs.declared.events.ClientEvent.TheVariants as event
use Rattle.name_queues.specs.declared.ids.ConnId.{ConnId}
use Rattle.idb_desk.specs.Steps.{DeskRun, desk_run, event_for}
use Rattle.desk_steps.specs.declared.steps.DeskStep.TheVariants as step
use Rattle.item_changes.specs.Items.{Items}
use Rattle.script_statements.specs.declared.script.ScriptSession.{ScriptSession}
use Rattle.client_machine.specs.Answering.{told_by, at_new_version}
use Rattle.client_machine.specs.ClientStates.{OpenAsked, open_at}
use Rattle.session_states.specs.Sessions.{SeatNow, SessionNow}
use Rattle.session_states.specs.Telling.{RunningTx}
use Rattle.session_states.specs.UnderWay.{IsInStep}
use Rattle.session_facts.specs.Fitting.{IsFitting}
use Rattle.session_facts.proofs.Carrying.{open_named, sure_at}
use Rattle.session_facts.proofs.Desk.{IsSureDesk, event_own}
use Rattle.session_facts.proofs.Drawing.{upgrade_begins, upgrade_seen, deletion_begins}
use Rattle.session_facts.proofs.Keeping.{opens, own_fits}

named_some : {X Y : Type 0} (f : X → Y) (o : Option X) (y : Y) → option_map f o ≡ Some y → (x : X) × (o ≡ Some x)
named_some f None y e = cc
named_some f (Some x) y e = (x, refl)

module _ (session : ScriptSession) (opening : Items) (now : SessionNow) (running : Option RunningTx) (place : ℕ) (seat : SeatNow) (u : IsInStep session opening now running) (fitting : IsFitting now) (at : slice_get now.seats place ≡ Some seat) where
  sure : IsSureDesk (desk_run now.run)
  sure = sure_at now.run (opens session opening now running u fitting) u.desk

  pub open_there : (e : ClientEvent) → event_for (desk_run now.run) seat.client.number ≡ Some e → (o : OpenAsked) × (open_at seat.client (conn_of e).request ≡ Some o)
  open_there e is =
      let own = event_own (desk_run now.run) seat.client.number e sure.orderly is in
      let f = own_fits session opening now running u fitting place seat at in
      named_some (λ (o : OpenAsked). o.name) (open_at seat.client (conn_of e).request) own.1.0 (open_named seat.client now.run (conn_of e) f.seated own.0 ∙ own.1.1)

  module _ (numbers : (r : DeskRun) → (desk_run r).board.scopes.next ≡ length (desk_run r).board.drawn + 1) where
    pub upgrade_there : (who : ConnId) (old new : ℕ) → event_for (desk_run now.run) seat.client.number ≡ Some (event.Upgrade who old new)
        → (number : ℕ) × ((schema : SchemaData) × (((told_by (desk_run now.run) (step.Takes seat.client.number)).number ≡ Some number) × ((told_by (desk_run now.run) (step.Takes seat.client.number)).schema ≡ Some schema)))
    upgrade_there who old new is =
        let d = desk_run now.run in
        let b = upgrade_begins d seat.client.number who sure (numbers now.run) old new is in
        let s = upgrade_seen d seat.client.number who sure (numbers now.run) old new is in
        (d.board.scopes.next, (at_new_version new s.0, (b.number, s.1.1)))

    pub deletion_there : (who : ConnId) (old : ℕ) → event_for (desk_run now.run) seat.client.number ≡ Some (event.DeleteReady who old)
        → (number : ℕ) × ((told_by (desk_run now.run) (step.Takes seat.client.number)).number ≡ Some number)
    deletion_there who old is = ((desk_run now.run).board.scopes.next, (deletion_begins (desk_run now.run) seat.client.number who sure (numbers now.run) old is).number)
