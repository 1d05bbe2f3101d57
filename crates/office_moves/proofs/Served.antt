-- A client is served.
--     task_or_still, event_or_still     whether or not it had one, the session goes on
--     served_behind         an event is taken where there was no task
--     served_less           and less is left to do
use Rattle.std.proofs.Common.{◌≡◌, ◌<◌, Bool, true, false, not, ◌&&◌, ◌||◌, List, [], ◌∷◌, slice_get, is_some, refl, sym, ◌∙◌, ap, subst}
use Rattle.name_queues.specs.Mails.{events_of}
use Rattle.idb_desk.specs.Refusals.{has_some}
use Rattle.idb_desk.specs.Steps.{desk_run, IsDeskRun, event_for}
use Rattle.script_runs.specs.declared.notes.Note.{Note}
use Rattle.office_scenes.specs.Offices.{OfficeState}
use Rattle.office_scenes.specs.Steps.{Whether, StaysAsIs, RunsTaskInto, TakesEventInto}
use Rattle.office_moves.specs.Moving.{has_work}
use Rattle.office_scenes.specs.Measures.{left_to}
use Rattle.office_scenes.specs.Scenes.{KeepsOn}
use Rattle.office_moves.specs.Serving.{ServedInto}
use Rattle.office_scenes.proofs.Laws.{TaskLaw, EventLaw}
use Rattle.office_moves.proofs.Leading.{task_keeps, event_keeps}
use Rattle.office_moves.proofs.Turning.{keeps_still}

pub task_or_still : TaskLaw → (old new : OfficeState) (before after : List Note) (ran : Bool) → Whether ran (RunsTaskInto old before new after) (StaysAsIs old before new after) → IsDeskRun new.run → KeepsOn old before new after
task_or_still law old new before after true t run = task_keeps law old new before after t run
task_or_still law old new before after false s run = keeps_still old new before after s.office s.notes

pub event_or_still : EventLaw → (old new : OfficeState) (before after : List Note) (took : Bool) → Whether took (TakesEventInto old before new after) (StaysAsIs old before new after) → IsDeskRun new.run → KeepsOn old before new after
event_or_still law old new before after true t run = event_keeps law old new before after t run
event_or_still law old new before after false s run = keeps_still old new before after s.office s.notes

pub served_behind : (old mid new : OfficeState) (before between after : List Note) (ran took : Bool) → ran ≡ false → ran ≡ has_some old.client.tasks → Whether ran (RunsTaskInto old before mid between) (StaysAsIs old before mid between)
    → took ≡ (not (has_some mid.client.tasks) && is_some (event_for (desk_run mid.run) mid.client.number)) → Whether took (TakesEventInto mid between new after) (StaysAsIs mid between new after) → ServedInto old before new after
served_behind old mid new before between after ran took none one stays took_is met =
    let idle : has_some old.client.tasks ≡ false = sym one ∙ none in
    let s : StaysAsIs old before mid between = subst (λ b. Whether b (RunsTaskInto old before mid between) (StaysAsIs old before mid between)) none stays in
    let took_so : took ≡ (not (has_some old.client.tasks) && is_some (event_for (desk_run old.run) old.client.number)) = took_is ∙ ap (λ (o : OfficeState). not (has_some o.client.tasks) && is_some (event_for (desk_run o.run) o.client.number)) s.office in
    let there : took ≡ is_some (event_for (desk_run old.run) old.client.number) = took_so ∙ ap (λ b. not b && is_some (event_for (desk_run old.run) old.client.number)) idle in
    let met_so : Whether took (TakesEventInto old before new after) (StaysAsIs old before new after) =
    subst (λ (ns : List Note). Whether took (TakesEventInto old ns new after) (StaysAsIs old ns new after)) s.notes
    (subst (λ (o : OfficeState). Whether took (TakesEventInto o between new after) (StaysAsIs o between new after)) s.office met) in
    subst (λ b. Whether b (RunsTaskInto old before new after) (Whether (is_some (event_for (desk_run old.run) old.client.number)) (TakesEventInto old before new after) (StaysAsIs old before new after))) (sym idle)
    (subst (λ b. Whether b (TakesEventInto old before new after) (StaysAsIs old before new after)) there met_so)

first_there : {X : Type 0} (xs : List X) → has_some xs ≡ true → is_some (slice_get xs 0) ≡ true
first_there [] e = cc
first_there (x ∷ xs) e = refl

either_true : (a b : Bool) → a ≡ false → (a || b) ≡ true → b ≡ true
either_true true b p e = cc
either_true false b p e = e

-- what is ready and has no task has an event
pub served_less : (old mid new : OfficeState) (before between after : List Note) (ran took : Bool) → ran ≡ false → ran ≡ has_some old.client.tasks → Whether ran (RunsTaskInto old before mid between) (StaysAsIs old before mid between)
    → took ≡ (not (has_some mid.client.tasks) && is_some (event_for (desk_run mid.run) mid.client.number)) → (took ≡ true → left_to new.client after < left_to mid.client between) → has_work (desk_run old.run) old.client ≡ true
    → left_to new.client after < left_to old.client before
served_less old mid new before between after ran took none one stays took_is less ready =
    let idle : has_some old.client.tasks ≡ false = sym one ∙ none in
    let s : StaysAsIs old before mid between = subst (λ b. Whether b (RunsTaskInto old before mid between) (StaysAsIs old before mid between)) none stays in
    let there : is_some (event_for (desk_run old.run) old.client.number) ≡ true = first_there (events_of (desk_run old.run).queues.mails old.client.number) (either_true (has_some old.client.tasks) _ idle ready) in
    let took_so : took ≡ true = took_is ∙ ap (λ (o : OfficeState). not (has_some o.client.tasks) && is_some (event_for (desk_run o.run) o.client.number)) s.office
    ∙ ap (λ b. not b && is_some (event_for (desk_run old.run) old.client.number)) idle ∙ there in
    subst (λ (o : OfficeState). left_to new.client after < left_to o.client before) s.office
    (subst (λ (ns : List Note). left_to new.client after < left_to mid.client ns) s.notes (less took_so))
