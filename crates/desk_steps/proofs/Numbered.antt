-- Numbers are drawn from 1 on, each once.
use Rattle.std.proofs.Common.{◌≡◌, ℕ, ◌+◌, ◌-◌, Bool, List, [], ◌∷◌, length, slice_set, zero, suc, Option, Some, None, refl, ap, arith}
use Rattle.idb_keys.specs.declared.names.Mode.{Mode}
use Rattle.idb_schema.specs.Schemas.{SchemaData}
use Rattle.name_queues.specs.declared.ids.ConnId.{ConnId}
use Rattle.name_queues.specs.declared.events.ClientEvent.{ClientEvent}
use Rattle.name_queues.specs.declared.events.ClientEvent.TheVariants as event
use Rattle.connection_queues.specs.Machine.{schema_of}
use Rattle.desk_steps.specs.declared.stands.DrawnTx.{DrawnTx}
use Rattle.desk_steps.specs.declared.stands.TxKind.{TxKind}
use Rattle.desk_steps.specs.declared.stands.TxKind.TheVariants as kind
use Rattle.desk_steps.specs.declared.stands.TxStage.{TxStage}
use Rattle.desk_steps.specs.declared.stands.TxStage.TheVariants as stage
use Rattle.desk_steps.specs.declared.steps.DeskStep.{DeskStep}
use Rattle.desk_steps.specs.declared.steps.DeskStep.TheVariants as step
use Rattle.desk_steps.specs.Desks.{DeskState, DeskBoard, drawn_at, stages_where, name_asked_by}
use Rattle.desk_steps.specs.Refusals.{is_committed}
use Rattle.desk_steps.specs.Steps.{after, after_all, after_event, after_take, event_for, drawn_whole, after_created, after_left, new_desk, DeskRun, desk_run}
use Rattle.desk_steps.proofs.Owing.{length_end}

abbrev Numbered : DeskBoard → Type 0
Numbered b = b.scopes.next ≡ length b.drawn + 1

set_length : {A : Type 0} (xs : List A) (i : ℕ) (y : A) → length (slice_set xs i y) ≡ length xs
set_length [] i y = refl
set_length (x ∷ xs) zero y = refl
set_length (x ∷ xs) (suc i) y = ap suc (set_length xs i y)

stage_length : (s : TxStage) (n : ℕ) (ds : List DrawnTx) (o : Option DrawnTx) → length (stages_where ds n s o) ≡ length ds
stage_length s n ds None = refl
stage_length s n ds (Some t) = set_length ds (n - 1) (record { who = t.who; kind = t.kind; stage = s })

whole_numbered : (b : DeskBoard) (who : ConnId) (k : TxKind) (name : Option (List ℕ)) → Numbered b → (drawn_whole b who k name).scopes.next ≡ length (drawn_whole b who k name).drawn + 1
whole_numbered b who k None h = h
whole_numbered b who k (Some name) h = let l = length_end b.drawn (record { who = who; kind = k; stage = stage.Created }) in omega (arith, h, l)

event_numbered : (b : DeskBoard) (e : ClientEvent) → Numbered b → Numbered (after_event b e)
event_numbered b (event.Upgrade who old new) h = whole_numbered b who (kind.Upgrade new) (name_asked_by b.clients who) h
event_numbered b (event.Blocked who old new) h = h
event_numbered b (event.Success who version) h = h
event_numbered b (event.Error who name) h = h
event_numbered b (event.VersionChange who old new) h = h
event_numbered b (event.Closed who) h = h
event_numbered b (event.DeleteReady who old) h = whole_numbered b who kind.Deletion (name_asked_by b.clients who) h

take_numbered : (d : DeskState) (client : ℕ) (o : Option ClientEvent) → Numbered d.board → Numbered (after_take d client o).board
take_numbered d client None h = h
take_numbered d client (Some e) h = event_numbered d.board e h

create_numbered : (d : DeskState) (who : ConnId) (scope : List (List ℕ)) (m : Mode) (name : Option (List ℕ)) (schema : Option SchemaData) → Numbered d.board → Numbered (after_created d who scope m name schema).board
create_numbered d who scope m None schema h = h
create_numbered d who scope m (Some name) None h = h
create_numbered d who scope m (Some name) (Some schema) h = let l = length_end d.board.drawn (record { who = who; kind = kind.Plain; stage = stage.Created }) in omega (arith, h, l)

leave_numbered : (d : DeskState) (number : ℕ) (committed : Bool) (kept : Option SchemaData) (o : Option DrawnTx) → Numbered d.board → Numbered (after_left d number committed kept o).board
leave_numbered d number committed kept None h = h
leave_numbered d number committed kept (Some t) h = let l = stage_length stage.Finished number d.board.drawn (drawn_at d.board.drawn number) in omega (arith, h, l)

step_numbered : (d : DeskState) (t : DeskStep) → Numbered d.board → Numbered (after d t).board
unfolding after
step_numbered d (step.Asks who name want) h = h
step_numbered d (step.Takes client) h = take_numbered d client (event_for d client) h
step_numbered d (step.Handles client) h = h
step_numbered d (step.Closes who) h = h
step_numbered d (step.Creates number who scope m durability) h = create_numbered d who scope m (name_asked_by d.board.clients who) (schema_of d.queues who) h
step_numbered d (step.Starts client number) h = let l = stage_length stage.Started number d.board.drawn (drawn_at d.board.drawn number) in omega (arith, h, l)
step_numbered d (step.Leaves client number ended kept) h = leave_numbered d number (is_committed ended) kept (drawn_at d.board.drawn number) h
step_numbered d step.Faults h = h

all_numbered : (d : DeskState) (ts : List DeskStep) → Numbered d.board → Numbered (after_all d ts).board
all_numbered d [] h = h
all_numbered d (t ∷ ts) h = all_numbered (after d t) ts (step_numbered d t h)

pub run_numbered : (r : DeskRun) → (desk_run r).board.scopes.next ≡ length (desk_run r).board.drawn + 1
unfolding desk_run
run_numbered r = all_numbered (new_desk r.opening) r.order refl
