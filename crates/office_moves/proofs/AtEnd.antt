-- A transaction at its end is entered in the book, and finishes as the book answers.
--     end_goes, doubt_goes  what each step of the office leads to
--     calm_at, doubt_allowed        no host where a transaction runs is faulted;  once it is the transaction may leave
--     book_calm             a book that is open takes transactions where the host isn't faulted
--     allowed_so            the desk lets it finish
--     enters_so             the commits with it apply
--     stands_so, doubts_so  as the book has it then
--     stops_standing, stops_in_doubt        where its finish is stopped
--     kept_so, taken_so     and so are the databases
--     deletion_runs         a deletion at its end
--     finished_so           it is noted
use Rattle.std.proofs.Common.{◌≡◌, ◌<◌, ℕ, Bool, true, false, not, ◌&&◌, List, [], ◌∷◌, ◌++◌, length, map, slice_get, if◌then◌else◌, Option, Some, None, is_some, inl, inr, refl, sym, ◌∙◌, ap, subst}
use Rattle.std.specs.List.{list_any}
use Rattle.std.specs.FinMap as finite
use Rattle.std.proofs.lemmas.Bool.{cases_Bool}
use Rattle.std.proofs.lemmas.List.{append-nil}
use Rattle.idb_keys.specs.declared.names.Mode.TheVariants as mode
use Rattle.idb_schema.specs.Schemas.{SchemaData}
use Rattle.idb_calls.specs.Deltas.{DeltaTree, DropDatabase}
use Rattle.idb_calls.specs.declared.traces.Outcome.{Outcome}
use Rattle.idb_calls.specs.declared.traces.Outcome.TheVariants.{Committed}
use Rattle.idb_calls.specs.declared.traces.TxTrace.{TxTrace}
use Rattle.idb_desk.specs.Durabilities.{durability_drawn}
use Rattle.idb_desk.specs.Refusals.{is_allowed, has_some}
use Rattle.desk_steps.specs.declared.steps.DeskStep.{DeskStep}
use Rattle.desk_steps.specs.declared.steps.DeskStep.TheVariants as step
use Rattle.idb_desk.specs.Steps.{DeskRun, desk_run, with_step, IsDeskRun}
use Rattle.item_changes.specs.Items.{Name, Database, Items}
use Rattle.item_changes.specs.Effects.{applied_all}
use Rattle.item_changes.specs.Scopes.{Whole, seen_by, part_of}
use Rattle.idb_databases.specs.Items.{is_within_limits}
use Rattle.log_history.specs.Batching.{Commit, commit_of, is_strict, records_of_commits}
use Rattle.log_history.specs.Kept.{End, Dropped, Flushed, FailedCommit, FailedFlush, FailedCheckpoint, with_doubt}
use Rattle.log_history.specs.Replayed.{are_unbroken, after_records}
use Rattle.session_books.specs.States.{commits_apply}
use Rattle.session_books.specs.Entering.{is_commit, commits_with}
use Rattle.serial_order.specs.FinishEntries.{Deletion, FinishEntry, scope_of_body, did_commit, changes_kept}
use Rattle.serial_order.specs.SerialRuns.{RunsOn}
use Rattle.script_statements.specs.declared.script.ScriptSession.{ScriptSession}
use Rattle.script_runs.specs.declared.notes.Note.{Note}
use Rattle.script_handlers.specs.Handling.{Script, ScriptReacts, ScriptWrites}
use Rattle.client_machine.specs.ClientStates.{ClientTx, tx_at}
use Rattle.office_scenes.specs.Steps.{can_finish, FinishesInto}
use Rattle.legal_sessions.specs.Legal.{is_fault, is_in_doubt, may_write, record_of_entry, records_logged, commits_at}
use Rattle.session_databases.specs.Parts.{without_part, AreSoundDatabases}
use Rattle.session_states.specs.Sessions.{SeatNow, SessionNow, with_fault}
use Rattle.session_states.specs.Telling.{RunningTx}
use Rattle.session_states.specs.UnderWay.{IsInStep, IsUnderWay}
use Rattle.session_states.specs.Moves.{entry_ran}
use Rattle.office_scenes.specs.Fitting.{IsFitting}
use Rattle.office_scenes.specs.Showing.{IsShown, IsSoundKept}
use Rattle.office_scenes.specs.Offices.{OfficeState}
use Rattle.session_txs.specs.Running.{PartState, LeavesItsPart, IsDeletionTrace}
use Rattle.office_scenes.specs.Measures.{beyond_memory}
use Rattle.office_scenes.specs.Scenes.{DoneNow, is_open_end, scene_of, seat_on, LeadsTo, StandsOn, IsAtWork, record_if, with_finish_of, done_with_trace, doubted_with_trace}
use Rattle.office_scenes.specs.Running.{begun_run, outcome_in_doubt, left_items, LeavesSound, EndLeads, DoubtLeads, IsRunSo, IsClosed, FinishedWith, HoldsTx}
use Rattle.office_scenes.specs.Stopping.{TellsOf}
use Rattle.office_scenes.proofs.Laws.{FinishLaw, DoubtLaw, FaultLaws, LogLaws, finish_logged, FinishesLaw, AbortedLaw, allowed_finish, finish_can}
use Rattle.office_moves.proofs.Leading.{DurableLaw, DurableFaultLaw, finish_leads, doubt_leads}
use Rattle.office_moves.proofs.Turning.{commit_is}

-- ---- what each step of the office leads to
pub end_goes : FinishLaw → DurableLaw → (number : ℕ) (outcome : Outcome) (kept : Option SchemaData) (old new : OfficeState) (before after : List Note) → FinishesInto number outcome kept old before new after → IsDeskRun new.run → IsSoundKept kept
    → EndLeads number outcome kept old before new after
end_goes law durable number outcome kept old new before after f run sound = record {
  goes = λ t changes done items is ran sure leaves.
      subst (λ n. LeadsTo (Some t) None (scene_of old before done items) (scene_of new after (with_finish_of done old.run n (did_commit outcome && may_write t.body) false changes) (left_items items outcome changes))) is
      (finish_leads law durable t outcome kept changes old new before after done items (subst (λ n. FinishesInto n outcome kept old before new after) (sym is) f) run ran sure sound leaves);
}

pub doubt_goes : DoubtLaw → FaultLaws → DurableLaw → DurableFaultLaw → (number : ℕ) (old mid new : OfficeState) (before after : List Note) → mid ≡ record old { run = with_step old.run step.Faults } → FinishesInto number outcome_in_doubt None mid before new after → IsDeskRun new.run
    → DoubtLeads number old before new after
doubt_goes law faults durable faulted number old mid new before after mid_is f run = record {
  goes = λ t changes done items is ran writes.
      subst (λ n. LeadsTo (Some t) None (scene_of old before done items) (scene_of new after (with_finish_of done old.run n false true changes) items)) is
      (doubt_leads law faults durable faulted t changes old new before after done items
      (subst (λ n. FinishesInto n outcome_in_doubt None (record old { run = with_step old.run step.Faults }) before new after) (sym is) (subst (λ (o : OfficeState). FinishesInto number outcome_in_doubt None o before new after) mid_is f)) run ran writes);
}

-- ---- the host
abbrev pub FaultedLaw : Type 0
FaultedLaw = (r : DeskRun) → (desk_run r).board.is_faulted ≡ list_any is_fault r.order

pub calm_at : FaultedLaw → (t : RunningTx) (o : OfficeState) (notes : List Note) → IsAtWork (Some t) o notes → (desk_run o.run).board.is_faulted ≡ false
calm_at law t o notes w = elim (cases_Bool (list_any is_fault w.on.now.run.order)) [
  | inl is ↦ let none : Some t ≡ None = w.on.driven.under_way.faults.stopped is in cc
  | inr out ↦ ap (λ (r : DeskRun). (desk_run r).board.is_faulted) (sym w.on.at.run) ∙ law w.on.now.run ∙ out
]

pub fault_allowed : (o : OfficeState) → (desk_run o.run).board.is_faulted ≡ false → is_allowed (desk_run o.run) step.Faults ≡ true
fault_allowed o calm = ap not calm

pub doubt_allowed : FaultLaws → AbortedLaw → (t : RunningTx) (old mid : OfficeState) (notes : List Note) (number : ℕ) → mid ≡ record old { run = with_step old.run step.Faults } → IsDeskRun mid.run → IsAtWork (Some t) old notes → HoldsTx old number → old.client.tasks ≡ []
    → can_finish mid number outcome_in_doubt None ≡ true
doubt_allowed faults law t old mid notes number mid_is run w h idle =
    let run_is : with_step w.on.now.run step.Faults ≡ mid.run = ap (λ (r : DeskRun). with_step r step.Faults) w.on.at.run ∙ ap (λ (o : OfficeState). o.run) (sym mid_is) in
    let ran : IsDeskRun (with_step w.on.now.run step.Faults) = subst IsDeskRun (sym run_is) run in
    let u = faults.in_step w.on.session w.done.opening w.on.now (Some t) w.on.driven.under_way.in_step ran in
    let f = faults.fits w.on.now w.on.driven.fits ran in
    let allowed : is_allowed (desk_run mid.run) (step.Leaves old.client.number number outcome_in_doubt None) ≡ true =
    ap (λ (r : DeskRun). is_allowed (desk_run r) (step.Leaves old.client.number number outcome_in_doubt None)) (sym run_is)
    ∙ law w.on.session w.done.opening (with_fault w.on.now) (Some t) w.on.place (seat_on (scene_of old notes w.done w.items)) number h.tx outcome_in_doubt u f w.on.at.seat_at h.found refl in
    let client : mid.client ≡ old.client = ap (λ (o : OfficeState). o.client) mid_is in
    finish_can mid number outcome_in_doubt None (ap (λ c. c.tasks) client ∙ idle) (record { tx = h.tx; found = ap (λ c. tx_at c number) client ∙ h.found; started = h.started })
    (ap (λ c. is_allowed (desk_run mid.run) (step.Leaves c.number number outcome_in_doubt None)) client ∙ allowed)

pub calm_so : (o : OfficeState) (r : DeskRun) (faulted : Bool) → r ≡ o.run → faulted ≡ (desk_run r).board.is_faulted → faulted ≡ false → (desk_run o.run).board.is_faulted ≡ false
calm_so o r faulted same is calm = ap (λ (q : DeskRun). (desk_run q).board.is_faulted) (sym same) ∙ sym is ∙ calm

abbrev pub DoubtedLaw : Type 0
DoubtedLaw = (session : ScriptSession) (opening : Items) (now : SessionNow) (running : Option RunningTx) → IsUnderWay session opening now running → has_some now.doubts ≡ (desk_run now.run).board.is_faulted

pub book_calm : DoubtedLaw → (o : OfficeState) (notes : List Note) (opening : Items) (finish : List ℕ) (commits : List Commit) (end : End) (items : Items)
    → StandsOn None (scene_of o notes (record { opening = opening; finish = finish; commits = commits; doubts = with_doubt [] end }) items) → is_open_end end ≡ true → (desk_run o.run).board.is_faulted ≡ false → end ≡ Dropped
book_calm law o notes opening finish commits end items on opened calm =
    by_end end opened (ap has_some (sym on.at.doubts) ∙ law on.session opening on.now None on.driven.under_way ∙ ap (λ (r : DeskRun). (desk_run r).board.is_faulted) on.at.run ∙ calm)
  where
    by_end : (e : End) → is_open_end e ≡ true → has_some (with_doubt [] e) ≡ false → e ≡ Dropped
    by_end Dropped k none = refl
    by_end Flushed k none = cc
    by_end (FailedCommit c) k none = cc
    by_end FailedFlush k none = cc
    by_end FailedCheckpoint k none = cc

-- ---- at its end
abbrev pub LeftLaw : Type 0
LeftLaw = (session : ScriptSession) (opening : Items) (now : SessionNow) (t : RunningTx) (place : ℕ) (seat : SeatNow) (tx : ClientTx) (outcome : Outcome) (kept : Option SchemaData) (changes : List DeltaTree)
    → IsInStep session opening now (Some t) → IsFitting now → IsShown now → slice_get now.seats place ≡ Some seat → tx_at seat.client t.number ≡ Some tx
    → is_allowed (desk_run now.run) (step.Leaves seat.client.number t.number outcome kept) ≡ true
    → RunsOn ScriptReacts ScriptWrites (part_of (scope_of_body t.body) now.items) t.body t.turns changes kept false outcome
    → IsSoundKept kept → is_within_limits opening ≡ true → is_within_limits (applied_all now.items (changes_kept (entry_ran t changes kept outcome))) ≡ true

abbrev pub UnbrokenLaw : Type 0
UnbrokenLaw = (items : Items) → AreSoundDatabases items → are_unbroken items ≡ true

left_and : (a b : Bool) → (a && b) ≡ true → a ≡ true
left_and true b e = refl
left_and false b e = cc

right_and : (a b : Bool) → (a && b) ≡ true → b ≡ true
right_and true b e = e
right_and false b e = cc

module _ (t : RunningTx) (items : Items) (office : OfficeState) (trace : TxTrace) (kept : Option SchemaData) (r : IsRunSo t items office trace kept) where
  pub allowed_so : FinishesLaw → (notes : List Note) (done : DoneNow) (number : ℕ) → t.number ≡ number → StandsOn (Some t) (scene_of office notes done items) → HoldsTx office number → is_allowed (desk_run office.run) (step.Leaves office.client.number number trace.outcome kept) ≡ true
  allowed_so law notes done number is on holds =
      subst (λ n. is_allowed (desk_run office.run) (step.Leaves office.client.number n trace.outcome kept) ≡ true) is
      (allowed_finish law t office notes (part_of (scope_of_body t.body) items) t.turns trace.deltas kept trace.outcome (record { done = done; items = items; on = on }) (subst (HoldsTx office) (sym is) holds) r.ran)

  abbrev entry : FinishEntry Script Note
  entry = entry_ran t trace.deltas kept trace.outcome

  did : is_commit trace ≡ true → did_commit trace.outcome ≡ true
  did commit = left_and (did_commit trace.outcome) (may_write t.body) (sym r.commit ∙ commit)

  writes : is_commit trace ≡ true → may_write t.body ≡ true
  writes commit = right_and (did_commit trace.outcome) (may_write t.body) (sym r.commit ∙ commit)

  -- by the order in which it ran
  one_commit : commits_at office.run.order (record { number = t.number; deltas = trace.deltas } ∷ []) ≡ commit_of trace ∷ []
  one_commit = λ i. record { strict = is_strict (sym r.durability i); logged = record { number = sym r.number_is i; deltas = trace.deltas } } ∷ []

  logged_so : is_commit trace ≡ true → commits_at office.run.order (records_logged (entry_ran t trace.deltas kept trace.outcome ∷ [])) ≡ commit_of trace ∷ []
  logged_so commit = ap (λ b. commits_at office.run.order (map record_of_entry (if b then entry ∷ [] else []))) (sym r.commit ∙ commit) ∙ one_commit

  -- the commits with it apply
  pub enters_so : LogLaws → LeftLaw → FinishesLaw → UnbrokenLaw → (notes : List Note) (done : DoneNow) (number : ℕ) → t.number ≡ number → StandsOn (Some t) (scene_of office notes done items) → HoldsTx office number → IsSoundKept kept
      → AreSoundDatabases (left_items items trace.outcome trace.deltas) → is_commit trace ≡ true → commits_apply done.opening (done.commits ++ commit_of trace ∷ []) ≡ true
  enters_so logs left finishes unbroken notes done number is on holds sound sound_left commit =
      let now = on.now in
      let d = on.driven in
      let h = subst (HoldsTx office) (sym is) holds in
      let ran : RunsOn ScriptReacts ScriptWrites (part_of (scope_of_body t.body) now.items) t.body t.turns trace.deltas kept false trace.outcome =
      subst (λ (i : Items). RunsOn ScriptReacts ScriptWrites (part_of (scope_of_body t.body) i) t.body t.turns trace.deltas kept false trace.outcome) (sym on.at.items) r.ran in
      let allowed = finishes on.session done.opening now t on.place (seat_on (scene_of office notes done items)) h.tx (part_of (scope_of_body t.body) items) t.turns trace.deltas kept trace.outcome d.under_way.in_step d.fits on.at.seat_at h.found r.ran in
      let within = left on.session done.opening now t on.place (seat_on (scene_of office notes done items)) h.tx trace.outcome kept trace.deltas d.under_way.in_step d.fits d.shown on.at.seat_at h.found allowed ran sound d.opened.within in
      let leaves : LeavesSound t.body trace.outcome trace.deltas now.items = subst (λ (i : Items). LeavesSound t.body trace.outcome trace.deltas i) (sym on.at.items) (record { fits = r.fits; unbroken = unbroken (left_items items trace.outcome trace.deltas) sound_left }) in
      let logged = finish_logged logs done.opening now t trace.outcome kept trace.deltas office.run.order d.logged ran leaves within in
      let same : now.commits ++ commits_at office.run.order (records_logged (entry_ran t trace.deltas kept trace.outcome ∷ [])) ≡ done.commits ++ commit_of trace ∷ [] =
      ap (λ cs. cs ++ commits_at office.run.order (records_logged (entry_ran t trace.deltas kept trace.outcome ∷ []))) on.at.commits ∙ ap (λ cs. done.commits ++ cs) (logged_so commit) in
      ap is_some (ap (λ cs. after_records done.opening (records_of_commits cs)) (sym same) ∙ logged)

  -- as the book has it
  noted_so : (commits : List Commit) (number : ℕ) → t.number ≡ number → (b : Bool) → is_commit trace ≡ b → commits ++ commits_at office.run.order (record_if b number trace.deltas) ≡ commits_with commits trace
  noted_so commits number is true commit =
      ap (λ n. commits ++ commits_at office.run.order (record { number = n; deltas = trace.deltas } ∷ [])) (sym is) ∙ ap (λ cs. commits ++ cs) one_commit
      ∙ ap (λ w. if w then commits ++ commit_of trace ∷ [] else commits) (sym commit)
  noted_so commits number is false commit = append-nil commits ∙ ap (λ w. if w then commits ++ commit_of trace ∷ [] else commits) (sym commit)

  pub stands_so : UnbrokenLaw → (notes after : List Note) (done last : DoneNow) (number : ℕ) (new : OfficeState) (left : Items) → t.number ≡ number → EndLeads number trace.outcome kept office notes new after → AreSoundDatabases (left_items items trace.outcome trace.deltas)
      → last ≡ done_with_trace trace done → left ≡ left_items items trace.outcome trace.deltas → LeadsTo (Some t) None (scene_of office notes done items) (scene_of new after last left)
  stands_so unbroken notes after done last number new left is ends sound last_is left_is =
      let finish : done.finish ++ number ∷ [] ≡ done.finish ++ trace.number ∷ [] = ap (λ n. done.finish ++ n ∷ []) (sym (r.number_is ∙ is)) in
      let commits : done.commits ++ commits_at office.run.order (record_if (did_commit trace.outcome && may_write t.body) number trace.deltas) ≡ commits_with done.commits trace = noted_so done.commits number is (did_commit trace.outcome && may_write t.body) r.commit in
      let same : with_finish_of done office.run number (did_commit trace.outcome && may_write t.body) false trace.deltas ≡ done_with_trace trace done = λ i. record done { finish = finish i; commits = commits i; doubts = append-nil done.doubts i } in
      subst (λ (d : DoneNow). LeadsTo (Some t) None (scene_of office notes done items) (scene_of new after d left)) (sym last_is)
      (subst (λ (l : Items). LeadsTo (Some t) None (scene_of office notes done items) (scene_of new after (done_with_trace trace done) l)) (sym left_is)
      (subst (λ (d : DoneNow). LeadsTo (Some t) None (scene_of office notes done items) (scene_of new after d (left_items items trace.outcome trace.deltas))) same
      (ends.goes t trace.deltas done items is r.ran r.sure (record { fits = r.fits; unbroken = unbroken (left_items items trace.outcome trace.deltas) sound }))))

  pub doubts_so : (notes after : List Note) (done last : DoneNow) (number : ℕ) (new : OfficeState) (left : Items) → t.number ≡ number → DoubtLeads number office notes new after → is_commit trace ≡ true → done.doubts ≡ []
      → last ≡ doubted_with_trace trace done → left ≡ items → LeadsTo (Some t) None (scene_of office notes done items) (scene_of new after last left)
  doubts_so notes after done last number new left is ends commit none last_is left_is =
      let finish : done.finish ++ number ∷ [] ≡ done.finish ++ trace.number ∷ [] = ap (λ n. done.finish ++ n ∷ []) (sym (r.number_is ∙ is)) in
      let doubts : done.doubts ++ commits_at office.run.order (record_if true number trace.deltas) ≡ commit_of trace ∷ [] =
      ap (λ cs. cs ++ commits_at office.run.order (record_if true number trace.deltas)) none ∙ ap (λ n. commits_at office.run.order (record { number = n; deltas = trace.deltas } ∷ [])) (sym is) ∙ one_commit in
      let same : with_finish_of done office.run number false true trace.deltas ≡ doubted_with_trace trace done = λ i. record done { finish = finish i; commits = append-nil done.commits i; doubts = doubts i } in
      subst (λ (d : DoneNow). LeadsTo (Some t) None (scene_of office notes done items) (scene_of new after d left)) (sym last_is)
      (subst (λ (l : Items). LeadsTo (Some t) None (scene_of office notes done items) (scene_of new after (doubted_with_trace trace done) l)) (sym left_is)
      (subst (λ (d : DoneNow). LeadsTo (Some t) None (scene_of office notes done items) (scene_of new after d items)) same
      (ends.goes t trace.deltas done items is (r.in_doubt (did commit)) (writes commit))))

  -- where its finish is stopped
  told_so : (commits : List Commit) (b : Bool) → is_commit trace ≡ b → commits_with commits trace ≡ commits ++ commits_at office.run.order (records_logged (entry ∷ []))
  told_so commits true commit = ap (λ w. if w then commits ++ commit_of trace ∷ [] else commits) commit ∙ ap (λ cs. commits ++ cs) (sym (logged_so commit))
  told_so commits false commit =
      ap (λ w. if w then commits ++ commit_of trace ∷ [] else commits) commit ∙ sym (append-nil commits)
      ∙ ap (λ b. commits ++ commits_at office.run.order (map record_of_entry (if b then entry ∷ [] else []))) (sym commit ∙ r.commit)

  sure_only : is_in_doubt trace.outcome ≡ true → may_write t.body ≡ true
  sure_only doubt = absurd (no (sym doubt ∙ r.sure))
    where
      no : true ≡ false → ⊥
      no k = cc

  pub stops_standing : (done last : DoneNow) → last ≡ done_with_trace trace done → TellsOf t items office done last
  stops_standing done last is = record {
    changes = trace.deltas;
    kept = kept;
    outcome = trace.outcome;
    ran = r.ran;
    writes = λ doubt. sure_only doubt;
    commits = ap (λ (d : DoneNow). d.commits) is ∙ told_so done.commits (is_commit trace) refl;
    doubts = ap (λ (d : DoneNow). d.doubts) is ∙ sym (append-nil done.doubts) ∙ ap (λ b. done.doubts ++ commits_at office.run.order (map record_of_entry (if b then entry ∷ [] else []))) (sym r.sure);
  }

  pub stops_in_doubt : (done last : DoneNow) → is_commit trace ≡ true → done.doubts ≡ [] → last ≡ doubted_with_trace trace done → TellsOf t items office done last
  stops_in_doubt done last commit none is = record {
    changes = trace.deltas;
    kept = None;
    outcome = outcome_in_doubt;
    ran = r.in_doubt (did commit);
    writes = λ doubt. writes commit;
    commits = ap (λ (d : DoneNow). d.commits) is ∙ sym (append-nil done.commits);
    doubts = ap (λ (d : DoneNow). d.doubts) is ∙ sym one_commit ∙ ap (λ cs. cs ++ commits_at office.run.order (record { number = t.number; deltas = trace.deltas } ∷ [])) (sym none);
  }

-- ---- its part
module _ (t : RunningTx) (items : Items) (office : OfficeState) (rest : Items) (trace : TxTrace) (kept : Option SchemaData) (left : PartState) (c : IsClosed t items office rest trace kept left) where
  pub sound_so : ((i : Items) → rest ≡ without_part left.scope i → left.part ≡ part_of left.scope i → AreSoundDatabases (applied_all i left.changes)) → AreSoundDatabases (left_items items trace.outcome trace.deltas)
  sound_so sound = subst (λ ds. AreSoundDatabases (applied_all items ds)) c.changes (sound items c.rest_is c.part)

  pub kept_so : (new : Items) → LeavesItsPart left left.changes rest new → new ≡ left_items items trace.outcome trace.deltas
  kept_so new leaves = leaves items c.rest_is c.part ∙ ap (applied_all items) c.changes

  pub taken_so : (new : Items) → LeavesItsPart left [] rest new → new ≡ items
  taken_so new leaves = leaves items c.rest_is c.part

-- ---- a deletion
pub timed_here : (office : OfficeState) (r : DeskRun) (told trace : TxTrace) → r ≡ office.run → told ≡ record trace { durability = durability_drawn r.order trace.number } → told ≡ record trace { durability = durability_drawn office.run.order trace.number }
timed_here office r told trace same is = is ∙ ap (λ (q : DeskRun). record trace { durability = durability_drawn q.order trace.number }) same

whole_there : (o : Option Database) → is_some o ≡ true → is_some (seen_by Whole o) ≡ true
whole_there None e = cc
whole_there (Some d) e = refl

pub deletion_runs : (number : ℕ) (name : Name) (trace told : TxTrace) (office : OfficeState) (items : Items) → IsDeletionTrace number name trace → told ≡ record trace { durability = durability_drawn office.run.order trace.number } → is_some (finite.get items name) ≡ true
    → IsRunSo (begun_run number (Deletion name)) items office told None
deletion_runs number name trace told office items is told_is there =
    subst (λ (x : TxTrace). IsRunSo (begun_run number (Deletion name)) items office x None) (sym told_is) (record {
      number_is = is.number_is;
      commit = commit_is trace Committed (Deletion name) mode.VersionChange is.outcome is.mode refl ∙ ap (λ o. did_commit o && true) (sym is.outcome);
      durability = ap (durability_drawn office.run.order) is.number_is;
      ran = subst (λ o. RunsOn ScriptReacts ScriptWrites (part_of (scope_of_body {D = Script} (Deletion name)) items) (Deletion name) [] trace.deltas None false o) (sym is.outcome) (refl, refl, (refl, is.changes));
      in_doubt = λ did. (refl, refl, (refl, refl, is.changes));
      sure = ap is_in_doubt is.outcome;
      fits = whole_there (finite.get items name) there;
    })

pub deletion_left : (number : ℕ) (name : Name) (trace told : TxTrace) (order : List DeskStep) (items : Items) → IsDeletionTrace number name trace → told ≡ record trace { durability = durability_drawn order trace.number }
    → left_items items told.outcome told.deltas ≡ applied_all items (DropDatabase name ∷ [])
deletion_left number name trace told order items is told_is =
    ap (λ (x : TxTrace). left_items items x.outcome x.deltas) told_is ∙ ap (λ o. left_items items o trace.deltas) is.outcome ∙ ap (applied_all items) is.changes

-- ---- it is noted
pub finished_so : (old new : DoneNow) (number told : ℕ) → told ≡ number → new.finish ≡ old.finish ++ told ∷ [] → length new.finish < beyond_memory → FinishedWith old number new
finished_so old new number told is noted few = record { finish = noted ∙ ap (λ n. old.finish ++ n ∷ []) is; few = few }
