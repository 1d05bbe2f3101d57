-- What other crates may cite: the laws of interrupted sessions, as types.
--     BetweenLaw            wherever a session under way is interrupted
--     AtEndLaw              once the transaction that runs has run whole
use Rattle.std.proofs.Common.{◌≡◌, false, true, List, [], ◌∷◌, ◌++◌, Option, Some}
use Rattle.idb_schema.specs.Schemas.{SchemaData}
use Rattle.idb_calls.specs.Deltas.{DeltaTree}
use Rattle.idb_calls.specs.declared.traces.Outcome.{Outcome}
use Rattle.item_changes.specs.Items.{Items}
use Rattle.item_changes.specs.Scopes.{part_of}
use Rattle.client_machine.specs.FinishEntries.{scope_of_body}
use Rattle.client_machine.specs.SerialRuns.{RunsOn}
use Rattle.script_statements.specs.declared.script.ScriptSession.{ScriptSession}
use Rattle.script_handlers.specs.Handling.{ScriptReacts, ScriptWrites}
use Rattle.legal_sessions.specs.Legal.{is_in_doubt, may_write, records_logged, records_in_doubt, commits_at}
use Rattle.session_states.specs.Sessions.{SessionNow}
use Rattle.session_states.specs.Telling.{RunningTx}
use Rattle.session_states.specs.UnderWay.{IsUnderWay}
use Rattle.session_states.specs.Moves.{entry_ran}
use Rattle.interrupted_sessions.specs.Interrupted.{HasCommits}

abbrev pub BetweenLaw : Type 0
BetweenLaw = (session : ScriptSession) (opening : Items) (now : SessionNow) (running : Option RunningTx) → IsUnderWay session opening now running → HasCommits session opening now.commits now.doubts

abbrev pub AtEndLaw : Type 0
AtEndLaw = (session : ScriptSession) (opening : Items) (now : SessionNow) (t : RunningTx) (changes : List DeltaTree) (kept : Option SchemaData) (outcome : Outcome) → IsUnderWay session opening now (Some t)
    → RunsOn ScriptReacts ScriptWrites (part_of (scope_of_body t.body) now.items) t.body t.turns changes kept false outcome → (is_in_doubt outcome ≡ true → may_write t.body ≡ true)
    → HasCommits session opening (now.commits ++ commits_at now.run.order (records_logged (entry_ran t changes kept outcome ∷ []))) (now.doubts ++ commits_at now.run.order (records_in_doubt (entry_ran t changes kept outcome ∷ [])))
