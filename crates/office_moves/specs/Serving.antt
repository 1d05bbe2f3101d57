-- A client is served.
--     ServedInto            it ran its oldest task; or where it has none it took its oldest event and met it, if there was one
use Rattle.std.specs.Prelude.{List, is_some}
use Rattle.idb_desk.specs.Refusals.{has_some}
use Rattle.idb_desk.specs.Steps.{desk_run, event_for}
use Rattle.script_runs.specs.declared.notes.Note.{Note}
use Rattle.office_scenes.specs.Offices.{OfficeState}
use Rattle.office_scenes.specs.Steps.{Whether, StaysAsIs, RunsTaskInto, TakesEventInto}

abbrev pub ServedInto : OfficeState → List Note → OfficeState → List Note → Type 0
ServedInto old before new after = Whether (has_some old.client.tasks)
    (RunsTaskInto old before new after)
    (Whether (is_some (event_for (desk_run old.run) old.client.number))
    (TakesEventInto old before new after)
    (StaysAsIs old before new after))
