-- What a stopped move has told.
--     at_err                what holds by itself holds where a result is an error
--     tells_still           nothing changed
--     tells_run             that of a transaction which ran
--     tells_behind          behind steps that tell nothing
use Rattle.std.proofs.Common.{◌≡◌, ◌⊎◌, List, Option, Some, Result, Ok, Err, OnErr, inl, inr, ap}
use Rattle.item_changes.specs.Items.{Items}
use Rattle.script_runs.specs.declared.notes.Note.{Note}
use Rattle.session_states.specs.Telling.{RunningTx}
use Rattle.office_scenes.specs.Offices.{OfficeState}
use Rattle.office_scenes.specs.Scenes.{DoneNow, scene_of, LeadsTo}
use Rattle.office_scenes.specs.Stopping.{TellsNoMore, TellsOf, StopsTelling}
use Rattle.office_moves.proofs.Leading.{leads_again}

pub at_err : {T E P : Type 0} (r : Result T E) → P → OnErr r P
at_err (Ok x) p = tt
at_err (Err e) p = p

pub tells_still : (old new : DoneNow) → new ≡ old → TellsNoMore old new
tells_still old new is = record { commits = ap (λ (d : DoneNow). d.commits) is; doubts = ap (λ (d : DoneNow). d.doubts) is }

module _ (running : Option RunningTx) (old office : OfficeState) (before notes : List Note) (done new : DoneNow) (items : Items) where
  pub tells_run : (t : RunningTx) → LeadsTo running (Some t) (scene_of old before done items) (scene_of office notes done items) → (TellsNoMore done new) ⊎ (TellsOf t items office done new)
      → StopsTelling running (scene_of old before done items) new
  tells_run t goes (inl none) = inl none
  tells_run t goes (inr tells) = inr (record { t = t; office = office; notes = notes; goes = goes; tells = tells })

  pub tells_behind : (between : Option RunningTx) → LeadsTo running between (scene_of old before done items) (scene_of office notes done items) → StopsTelling between (scene_of office notes done items) new
      → StopsTelling running (scene_of old before done items) new
  tells_behind between leads (inl none) = inl none
  tells_behind between leads (inr run) = inr (record {
    t = run.t;
    office = run.office;
    notes = run.notes;
    goes = leads_again running between (Some run.t) (scene_of old before done items) (scene_of office notes done items) (scene_of run.office run.notes done items) leads run.goes;
    tells = run.tells;
  })
