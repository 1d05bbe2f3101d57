-- What the log is told as a transaction finishes.
--     LogLaws               the laws that this stands on
--     finish_logged         the commits so far, applied to the databases of the beginning, give those of the session
use Rattle.std.proofs.Common.{◌≡◌, ℕ, Bool, true, false, not, ◌&&◌, List, [], ◌∷◌, ◌++◌, map, if◌then◌else◌, Option, Some, refl, sym, ◌∙◌, ap}
use Rattle.std.proofs.lemmas.List.{append-nil}
use Rattle.idb_keys.specs.declared.names.Mode.{Mode}
use Rattle.idb_keys.specs.declared.names.Mode.TheVariants as mode
use Rattle.idb_schema.specs.Schemas.{SchemaData}
use Rattle.idb_calls.specs.Deltas.{DeltaTree}
use Rattle.idb_calls.specs.declared.traces.Outcome.{Outcome}
use Rattle.idb_calls.specs.declared.traces.Outcome.TheVariants.{Committed, Aborted}
use Rattle.desk_steps.specs.declared.steps.DeskStep.{DeskStep}
use Rattle.item_changes.specs.Items.{Name, Items, is_same_name}
use Rattle.item_changes.specs.Effects.{applied_all, all_apply, database_of}
use Rattle.item_changes.specs.Scopes.{Reads, AllWithin, access_of, part_of}
use Rattle.idb_databases.specs.Items.{is_within_limits}
use Rattle.record_bytes.specs.declared.records.LogRecord.{LogRecord}
use Rattle.log_history.specs.Batching.{Commit, records_of_commits}
use Rattle.log_history.specs.Replayed.{is_at_rest, are_unbroken, after_record, after_records}
use Rattle.request_lists.specs.Fronts.{is_read_only_mode}
use Rattle.serial_order.specs.FinishEntries.{TxBody, Scripted, Deletion, FinishEntry, scope_of_body, scope_of_entry, did_commit, changes_kept}
use Rattle.serial_order.specs.SerialRuns.{RunsOn, RunsAlone, IsSerial}
use Rattle.serial_order.specs.NumberOrder.{EachFits, EachApplies}
use Rattle.script_statements.specs.declared.script.ScriptSession.{ScriptSession}
use Rattle.script_runs.specs.declared.notes.Note.{Note}
use Rattle.script_handlers.specs.Handling.{Script, ScriptReacts, ScriptWrites}
use Rattle.legal_sessions.specs.Legal.{may_write, record_of_entry, records_logged, commit_at, commits_at}
use Rattle.session_states.specs.Sessions.{SessionNow}
use Rattle.session_states.specs.Telling.{RunningTx}
use Rattle.session_states.specs.UnderWay.{IsInStep}
use Rattle.session_states.specs.Moves.{entry_ran}
use Rattle.session_limits.specs.Fitting.{IsFitting}
use Rattle.session_limits.specs.Showing.{IsShown}
use Rattle.office_scenes.specs.Running.{LeavesSound}

abbrev Entry : Type 0
Entry = FinishEntry Script Note

pub record LogLaws : Type 0 where
  pub limits : (session : ScriptSession) (opening : Items) (now : SessionNow) (running : Option RunningTx) → IsInStep session opening now running → IsFitting now → IsShown now → is_within_limits opening ≡ true → is_within_limits now.items ≡ true
  pub one_record : (items : Items) (r : LogRecord) → all_apply items r.deltas ≡ true → is_at_rest (applied_all items r.deltas) ≡ true → after_record items r ≡ Some (applied_all items r.deltas)
  pub one_commit : (items mid new : Items) (commits : List Commit) (c : Commit) → after_records items (records_of_commits commits) ≡ Some mid → after_record mid c.logged ≡ Some new → after_records items (records_of_commits (commits ++ c ∷ [])) ≡ Some new
  pub applies : (items : Items) (finish : List Entry) → EachFits items finish → IsSerial ScriptReacts ScriptWrites items finish → EachApplies items finish
  pub within : (items : Items) (e : Entry) → RunsAlone ScriptReacts ScriptWrites items e → AllWithin (scope_of_entry e) (changes_kept e)

-- ---- a reader changes nothing
no_reader : (b : Bool) → (b && false) ≡ true → ⊥
no_reader true e = cc
no_reader false e = cc

reads_none : (database : Name) (names : List Name) (changes : List DeltaTree) → AllWithin (record { database = database; access = Reads names }) changes → changes ≡ []
reads_none database names [] all = refl
reads_none database names (d ∷ ds) all = absurd (no_reader (is_same_name database (database_of d)) all.0)

by_mode : (m : Mode) (database : Name) (names : List Name) (changes : List DeltaTree) → not (is_read_only_mode m) ≡ false → AllWithin (record { database = database; access = access_of m names }) changes → changes ≡ []
by_mode mode.ReadOnly database names changes e all = reads_none database names changes all
by_mode mode.ReadWrite database names changes e all = cc
by_mode mode.VersionChange database names changes e all = cc

still : (items : Items) (body : TxBody Script) (outcome : Outcome) (changes : List DeltaTree) → (did_commit outcome && may_write body) ≡ false → AllWithin (scope_of_body body) (if did_commit outcome then changes else []) → applied_all items (if did_commit outcome then changes else []) ≡ items
still items body (Aborted error doubt) changes e all = refl
still items (Deletion name) Committed changes e all = cc
still items (Scripted body) Committed changes e all = ap (applied_all items) (by_mode body.mode body.schema.name body.names changes e all)

-- ---- a writer's record
written : LogLaws → (items : Items) (body : TxBody Script) (outcome : Outcome) (changes : List DeltaTree) (number : ℕ) → (did_commit outcome && may_write body) ≡ true → all_apply items (if did_commit outcome then changes else []) ≡ true
    → is_at_rest (applied_all items (if did_commit outcome then changes else [])) ≡ true → after_record items (record { number = number; deltas = changes }) ≡ Some (applied_all items (if did_commit outcome then changes else []))
written laws items body (Aborted error doubt) changes number e applies rest = cc
written laws items body Committed changes number e applies rest = laws.one_record items (record { number = number; deltas = changes }) applies rest

both_true : (a b : Bool) → a ≡ true → b ≡ true → (a && b) ≡ true
both_true true b p q = q
both_true false b p q = cc

logs : LogLaws → (opening items new : Items) (order : List DeskStep) (commits : List Commit) (e : Entry) (b : Bool) → after_records opening (records_of_commits commits) ≡ Some items
    → (b ≡ true → after_record items (record_of_entry e) ≡ Some new) → (b ≡ false → new ≡ items)
    → after_records opening (records_of_commits (commits ++ commits_at order (map record_of_entry (if b then e ∷ [] else [])))) ≡ Some new
logs laws opening items new order commits e true so_far writes nothing = laws.one_commit opening items new commits (commit_at order (record_of_entry e)) so_far (writes refl)
logs laws opening items new order commits e false so_far writes nothing = ap (λ cs. after_records opening (records_of_commits cs)) (append-nil commits) ∙ so_far ∙ ap (λ (is : Items). Some is) (sym (nothing refl))

pub finish_logged : LogLaws → (opening : Items) (now : SessionNow) (t : RunningTx) (outcome : Outcome) (kept : Option SchemaData) (changes : List DeltaTree) (order : List DeskStep)
    → after_records opening (records_of_commits now.commits) ≡ Some now.items
    → RunsOn ScriptReacts ScriptWrites (part_of (scope_of_body t.body) now.items) t.body t.turns changes kept false outcome → LeavesSound t.body outcome changes now.items
    → is_within_limits (applied_all now.items (changes_kept (entry_ran t changes kept outcome))) ≡ true
    → after_records opening (records_of_commits (now.commits ++ commits_at order (records_logged (entry_ran t changes kept outcome ∷ [])))) ≡ Some (applied_all now.items (changes_kept (entry_ran t changes kept outcome)))
finish_logged laws opening now t outcome kept changes order so_far ran sound within =
    let e : Entry = entry_ran t changes kept outcome in
    let applies : all_apply now.items (changes_kept e) ≡ true = (laws.applies now.items (e ∷ []) (sound.fits, tt) (ran, tt)).0 in
    let rest : is_at_rest (applied_all now.items (changes_kept e)) ≡ true = both_true (are_unbroken (applied_all now.items (changes_kept e))) (is_within_limits (applied_all now.items (changes_kept e))) sound.unbroken within in
    logs laws opening now.items (applied_all now.items (changes_kept e)) order now.commits e (did_commit outcome && may_write t.body) so_far
    (λ b. written laws now.items t.body outcome changes t.number b applies rest)
    (λ b. still now.items t.body outcome changes b (laws.within now.items e ran))
