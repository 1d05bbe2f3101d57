-- Events that the desk tells of: what is drawn with them, and which are stray.
--     told_event, told_drawn, told_schema_is        what the desk tells with a take
--     read_none, read_some  what was read
--     number_drawn          the number that is drawn, where the desk knows the open
--     stray_open, stray_number, stray_schema        why an event is stray
use Rattle.std.proofs.Common.{◌≡◌, ℕ, Bool, true, false, List, Option, Some, None, refl, sym, ap, ◌∙◌, Bor}
use Rattle.std.specs.Prelude.{◌||◌, ◌&&◌, is_none, option_map}
use Rattle.std.specs.Option.{option_copied}
use Rattle.idb_schema.specs.Schemas.{SchemaData}
use Rattle.name_queues.specs.Mails.{conn_of}
use Rattle.name_queues.specs.declared.ids.ConnId.{ConnId}
use Rattle.name_queues.specs.declared.events.ClientEvent.{ClientEvent}
use Rattle.name_queues.specs.declared.events.ClientEvent.TheVariants as event
use Rattle.connection_queues.specs.Machine.{schema_of}
use Rattle.desk_steps.specs.declared.stands.DeskRequest.{DeskRequest}
use Rattle.desk_steps.specs.declared.steps.DeskStep.TheVariants as step
use Rattle.idb_desk.specs.Desks.{DeskState, request_at}
use Rattle.idb_desk.specs.Steps.{desk_run, event_for, answer_of, number_of_event}
use Rattle.client_machine.specs.Answering.{told_by, at_new_version, schema_of_event}
use Rattle.client_machine.specs.ClientStates.{OpenAsked, open_at}
use Rattle.task_statements.specs.Offices.{OfficeState}
use Rattle.client_tasks.specs.declared.errors.TakeError.{TakeError}
use Rattle.client_tasks.specs.declared.errors.TakeError.TheVariants as why
use Rattle.client_tasks.specs.Steps.{told_take, wants_number, wants_schema, IsStray}

-- ---- what the desk tells
pub told_event : (d : DeskState) (client : ℕ) → (told_by d (step.Takes client)).event ≡ event_for d client
unfolding told_by
told_event d client = refl

pub told_drawn : (d : DeskState) (client : ℕ) → (told_by d (step.Takes client)).number ≡ (answer_of d (step.Takes client)).number
unfolding told_by
told_drawn d client = refl

pub told_schema_is : (d : DeskState) (client : ℕ) (who : ConnId) (version wanted : ℕ) → event_for d client ≡ Some (event.Upgrade who version wanted)
    → (told_by d (step.Takes client)).schema ≡ option_map (at_new_version wanted) (schema_of d.queues who)
unfolding told_by
told_schema_is d client who version wanted is = ap (λ (o : Option ClientEvent). schema_of_event d o) is

-- ---- what is read
pub read_none : {A : Type 0} (r : Option (Bor A)) (o : Option A) → option_copied r ≡ o → r ≡ None → o ≡ None
read_none {A} r o e n = sym e ∙ ap (λ (x : Option (Bor A)). option_copied x) n

pub read_some : {A : Type 0} (r : Option (Bor A)) (o : Option A) (x : Bor A) → option_copied r ≡ o → r ≡ Some x → o ≡ Some x.now
read_some {A} r o x e n = sym e ∙ ap (λ (y : Option (Bor A)). option_copied y) n

-- ---- the number
next_of : ℕ → Option DeskRequest → Option ℕ
next_of next o = option_map (λ (name : List ℕ). next) (option_map (λ (r : DeskRequest). r.name) o)

by_event : (d : DeskState) (e : ClientEvent) (o : Option DeskRequest) → wants_number e ≡ true → request_at d.board.clients (conn_of e) ≡ o → number_of_event d (Some e) ≡ next_of d.board.scopes.next o
unfolding next_of
by_event d (event.Upgrade who old new) o w is = ap (next_of d.board.scopes.next) is
by_event d (event.Blocked who old new) o w is = cc
by_event d (event.Success who version) o w is = cc
by_event d (event.Error who name) o w is = cc
by_event d (event.VersionChange who old new) o w is = cc
by_event d (event.Closed who) o w is = cc
by_event d (event.DeleteReady who old) o w is = ap (next_of d.board.scopes.next) is

module _ (d : DeskState) (client : ℕ) (e : ClientEvent) (is : event_for d client ≡ Some e) (wants : wants_number e ≡ true) where
  pub number_drawn : (q : DeskRequest) → request_at d.board.clients (conn_of e) ≡ Some q → (answer_of d (step.Takes client)).number ≡ Some d.board.scopes.next
  unfolding next_of
  number_drawn q asked = ap (λ (o : Option ClientEvent). number_of_event d o) is ∙ by_event d e (Some q) wants asked

  pub none_drawn : request_at d.board.clients (conn_of e) ≡ None → (answer_of d (step.Takes client)).number ≡ None
  unfolding next_of
  none_drawn asked = ap (λ (o : Option ClientEvent). number_of_event d o) is ∙ by_event d e None wants asked

-- ---- strays
one_true : (a b c d : Bool) → (b && c) ≡ true → (a || (b && c || d)) ≡ true
one_true true b c d e = refl
one_true false b c d e = ap (λ x. x || d) e

other_true : (a b c d : Bool) → (c && d) ≡ true → (a || (b || c && d)) ≡ true
other_true true b c d e = refl
other_true false true c d e = refl
other_true false false c d e = e

both_true : (a b : Bool) → a ≡ true → b ≡ true → (a && b) ≡ true
both_true true b e f = f
both_true false b e f = cc

module _ (o : OfficeState) (e : ClientEvent) (is : event_for (desk_run o.run) o.client.number ≡ Some e) where
  pub stray_open : open_at o.client (conn_of e).request ≡ None → IsStray o
  stray_open none = record {
    event = e;
    told = is;
    stray = ap (λ (x : Option OpenAsked). is_none x || (wants_number e && is_none (told_take o).number || wants_schema e && is_none (told_take o).schema)) none;
  }

  pub stray_number : wants_number e ≡ true → (told_take o).number ≡ None → IsStray o
  stray_number wants none = record {
    event = e;
    told = is;
    stray = one_true (is_none (open_at o.client (conn_of e).request)) (wants_number e) (is_none (told_take o).number) (wants_schema e && is_none (told_take o).schema)
        (both_true (wants_number e) (is_none (told_take o).number) wants (ap (λ (n : Option ℕ). is_none n) none));
  }

  pub stray_schema : wants_schema e ≡ true → (told_take o).schema ≡ None → IsStray o
  stray_schema wants none = record {
    event = e;
    told = is;
    stray = other_true (is_none (open_at o.client (conn_of e).request)) (wants_number e && is_none (told_take o).number) (wants_schema e) (is_none (told_take o).schema)
        (both_true (wants_schema e) (is_none (told_take o).schema) wants (ap (λ (s : Option SchemaData). is_none s) none));
  }
