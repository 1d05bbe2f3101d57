-- What a move that want of memory stopped has told the log.
--     TellsNoMore           no commit
--     TellsOf               that of this transaction, which ran whole in this office
--     TellsRun              that of one which came to run, and ran whole
--     StopsTelling          one of the two
use Rattle.std.specs.Prelude.{◌≡◌, ◌⊎◌, true, false, List, [], ◌∷◌, ◌++◌, Option, Some}
use Rattle.idb_schema.specs.Schemas.{SchemaData}
use Rattle.idb_calls.specs.Deltas.{DeltaTree}
use Rattle.idb_calls.specs.declared.traces.Outcome.{Outcome}
use Rattle.item_changes.specs.Items.{Items}
use Rattle.item_changes.specs.Scopes.{part_of}
use Rattle.serial_order.specs.FinishEntries.{scope_of_body}
use Rattle.serial_order.specs.SerialRuns.{RunsOn}
use Rattle.script_runs.specs.declared.notes.Note.{Note}
use Rattle.script_handlers.specs.Handling.{ScriptReacts, ScriptWrites}
use Rattle.legal_sessions.specs.Legal.{is_in_doubt, may_write, records_logged, records_in_doubt, commits_at}
use Rattle.session_states.specs.Telling.{RunningTx}
use Rattle.session_states.specs.Moves.{entry_ran}
use Rattle.client_tasks.specs.Offices.{OfficeState}
use Rattle.office_scenes.specs.Scenes.{DoneNow, Scene, scene_of, LeadsTo}

pub record TellsNoMore (old new : DoneNow) : Type 0 where
  pub commits : new.commits ≡ old.commits
  pub doubts : new.doubts ≡ old.doubts

-- whether it committed or is in doubt, as one may be that writes; no step of the desk tells it
pub record TellsOf (t : RunningTx) (items : Items) (office : OfficeState) (old new : DoneNow) : Type 0 where
  pub changes : List DeltaTree
  pub kept : Option SchemaData
  pub outcome : Outcome
  pub ran : RunsOn ScriptReacts ScriptWrites (part_of (scope_of_body t.body) items) t.body t.turns changes kept false outcome
  pub writes : is_in_doubt outcome ≡ true → may_write t.body ≡ true
  pub commits : new.commits ≡ old.commits ++ commits_at office.run.order (records_logged (entry_ran t changes kept outcome ∷ []))
  pub doubts : new.doubts ≡ old.doubts ++ commits_at office.run.order (records_in_doubt (entry_ran t changes kept outcome ∷ []))

-- from this scene on
pub record TellsRun (running : Option RunningTx) (s : Scene) (new : DoneNow) : Type 0 where
  pub t : RunningTx
  pub office : OfficeState
  pub notes : List Note
  pub goes : LeadsTo running (Some t) s (scene_of office notes s.done s.items)
  pub tells : TellsOf t s.items office s.done new

abbrev pub StopsTelling : Option RunningTx → Scene → DoneNow → Type 0
StopsTelling running s new = TellsNoMore s.done new ⊎ TellsRun running s new
