-- What a client's steps lead to.
--     leads_still, leads_again      by none, and by several
--     task_keeps, event_keeps       it runs a task, and takes an event
--     start_leads, turn_leads, finish_leads         a transaction starts, has a turn, and finishes
--     doubt_leads           one finishes whose commit met a fault
--     drop_leads            one finishes that never started
--     DurableLaw, DurableFaultLaw   the durability of a transaction stays
use Rattle.std.proofs.lemmas.List.{append-nil}
use Rattle.std.proofs.Common.{◌≡◌, ◌≤◌, ℕ, Bool, true, false, ◌&&◌, List, [], ◌∷◌, ◌++◌, map, slice_set, if◌then◌else◌, Option, Some, None, refl, sym, ◌∙◌, ap, subst, arith}
use Rattle.idb_schema.specs.Schemas.{SchemaData}
use Rattle.idb_calls.specs.Deltas.{DeltaTree}
use Rattle.idb_calls.specs.declared.traces.Outcome.{Outcome}
use Rattle.desk_steps.specs.declared.steps.DeskStep.{DeskStep}
use Rattle.desk_steps.specs.declared.steps.DeskStep.TheVariants as step
use Rattle.log_history.specs.Batching.{Commit, is_strict}
use Rattle.idb_desk.specs.Durabilities.{durability_drawn}
use Rattle.idb_desk.specs.Steps.{DeskRun, desk_run, with_step, IsDeskRun}
use Rattle.item_changes.specs.Items.{Items}
use Rattle.item_changes.specs.Effects.{applied_all}
use Rattle.item_changes.specs.Scopes.{part_of}
use Rattle.serial_order.specs.FinishEntries.{TxBody, Scripted, Deletion, FinishEntry, scope_of_body, did_commit, changes_kept}
use Rattle.serial_order.specs.SerialRuns.{joined_lines, RunsOn, NeverStarts}
use Rattle.script_statements.specs.declared.script.Block.{Block as Named}
use Rattle.script_statements.specs.declared.script.ScriptSession.{ScriptSession}
use Rattle.script_runs.specs.declared.notes.Note.{Note}
use Rattle.script_handlers.specs.Handling.{Script, ScriptReacts, ScriptWrites}
use Rattle.client_machine.specs.Acts.{Told, Act, Makes, TakesTurn, notes_of_acts}
use Rattle.client_machine.specs.Answering.{MadeAtOnce, told_by}
use Rattle.client_machine.specs.ClientStates.{ClientTx, tx_at, without_tx, with_notes}
use Rattle.client_machine.specs.ClientSteps.{Meets, EndsTx, with_tasks}
use Rattle.client_machine.specs.TaskRuns.{RunsNow}
use Rattle.client_ties.specs.Unfinished.{least_of}
use Rattle.script_statements.specs.declared.script.Client.{Client}
use Rattle.client_ties.proofs.Laws.{made_before}
use Rattle.legal_sessions.specs.Legal.{is_in_doubt, may_write, record_of_entry, records_logged, records_in_doubt, commits_at}
use Rattle.session_states.specs.Sessions.{SeatNow, SessionNow, with_seat, with_finished, with_fault}
use Rattle.session_states.specs.Telling.{RunningTx}
use Rattle.session_states.specs.UnderWay.{IsInStep}
use Rattle.session_states.specs.Moves.{Moves, entry_ran, entry_dropped}
use Rattle.office_scenes.specs.Offices.{OfficeState}
use Rattle.office_scenes.specs.Steps.{RunsTaskInto, TakesEventInto, StartsInto, TurnInto, FinishesInto, FinishesUnstartedInto, told_take}
use Rattle.office_scenes.specs.Showing.{IsSoundKept}
use Rattle.office_scenes.specs.Scenes.{DoneNow, Scene, IsDriven, scene_of, seat_on, IsSceneAt, with_scene, LeadsTo, KeepsOn, record_if, with_finish_of, with_number}
use Rattle.office_scenes.specs.Running.{begun_run, one_turn_more, outcome_in_doubt, left_items, LeavesSound}
use Rattle.office_scenes.specs.Measures.{tasks_left}
use Rattle.office_scenes.proofs.Laws.{TaskLaw, EventLaw, StartLaw, TurnLaw, FinishLaw, CancelLaw, HostLaw, DoubtLaw, FaultLaws, never_commits, posted_left, ends_left, left_same, left_still, task_less, event_more, lt_le, get_here, set_same, set_twice}

-- ---- by none, and by several
abbrev parts_of : SessionNow → SessionNow
parts_of now = record { run = now.run; seats = now.seats; finish = now.finish; commits = now.commits; doubts = now.doubts; items = now.items }

pub leads_still : (s : Scene) (running : Option RunningTx) → LeadsTo running running s s
leads_still s running = record {
  blocks = refl;
  opening = refl;
  less = left_still s.office.client s.office.client s.notes s.notes refl refl;
  leads = λ session now place at u.
      let seats : slice_set now.seats place (seat_on s) ≡ now.seats = set_same now.seats place (seat_on s) at.seat_at in
      let run = at.run in
      let finish = at.finish in
      let commits = at.commits in
      let doubts = at.doubts in
      let items = at.items in
      let same : parts_of now ≡ with_scene place s now = cc in
      subst (λ (n : SessionNow). IsDriven session s.done.opening n running) same u;
}

pub leads_again : (running between next : Option RunningTx) (s mid last : Scene) → LeadsTo running between s mid → LeadsTo between next mid last → LeadsTo running next s last
leads_again running between next s mid last a b = record {
  blocks = b.blocks ∙ a.blocks;
  opening = b.opening ∙ a.opening;
  less = over b.less a.less;
  leads = λ session now place at u.
      let mid_at : IsSceneAt session (with_scene place mid now) place mid = record {
        script = at.script;
        script_at = at.script_at;
        blocks = a.blocks ∙ at.blocks;
        seat_at = get_here now.seats place (seat_on s) (seat_on mid) at.seat_at;
        run = refl;
        finish = refl;
        commits = refl;
        doubts = refl;
        items = refl;
      } in
      let seats : slice_set (slice_set now.seats place (seat_on mid)) place (seat_on last) ≡ slice_set now.seats place (seat_on last) = set_twice now.seats place (seat_on mid) (seat_on last) in
      let same : with_scene place last (with_scene place mid now) ≡ with_scene place last now = cc in
      subst (λ (n : SessionNow). IsDriven session last.done.opening n next) same
      (b.leads session (with_scene place mid now) place mid_at (a.leads session now place at u));
}
  where
    over : {m n o : ℕ} → m ≤ n → n ≤ o → m ≤ o
    over p q = omega (arith, p, q)

-- ---- the moves of a client
abbrev seat_in : OfficeState → List Note → SeatNow
seat_in office notes = record { client = office.client; notes = notes }

moves_at : (session : ScriptSession) (now : SessionNow) (place : ℕ) (old new : OfficeState) (before after : List Note) (acts : List Act) (done : DoneNow) (items : Items) (at : IsSceneAt session now place (scene_of old before done items))
    → MadeAtOnce old.client.number old.run acts new.run → IsDeskRun new.run → after ≡ before ++ notes_of_acts acts
    → Moves session now place at.script (seat_in old before) acts new.run (seat_in new after)
moves_at session now place old new before after acts done items at made run lines = record {
  script_at = at.script_at;
  seat_at = at.seat_at;
  made = subst (λ (r : DeskRun). MadeAtOnce old.client.number r acts new.run) (sym at.run) made;
  run = run;
  lines = lines;
}

-- nothing else of the session changed
left_so : (session : ScriptSession) (opening : Items) (now : SessionNow) (next : Option RunningTx) (place : ℕ) (new : OfficeState) (after : List Note) (done : DoneNow) (items : Items)
    → now.finish ≡ done.finish → now.commits ≡ done.commits → now.doubts ≡ done.doubts → now.items ≡ items
    → IsDriven session opening (with_seat place new.run (seat_in new after) now) next → IsDriven session opening (with_scene place (scene_of new after done items) now) next
left_so session opening now next place new after done items finish commits doubts same_items u =
    let same : with_seat place new.run (seat_in new after) now ≡ with_scene place (scene_of new after done items) now = cc in
    subst (λ (n : SessionNow). IsDriven session opening n next) same u

pub task_keeps : TaskLaw → (old new : OfficeState) (before after : List Note) → RunsTaskInto old before new after → IsDeskRun new.run → KeepsOn old before new after
task_keeps law old new before after t run = record {
  goes = λ running done items. record {
    blocks = t.follows.blocks;
    opening = refl;
    less = lt_le (task_less old new before after t);
    leads = λ session now place at u.
        left_so session done.opening now running place new after done items at.finish at.commits at.doubts at.items
        (law session done.opening now running place at.script (seat_in old before) (seat_in new after) t.acts new.run t.task t.tasks u
        (moves_at session now place old new before after t.acts done items at t.follows.made run t.follows.lines) t.first
        (subst (λ (bs : List Named). RunsNow bs (with_tasks old.client t.tasks) t.task.env (Some t.task.block) t.acts new.client) at.blocks t.runs));
  };
}

pub event_keeps : EventLaw → (old new : OfficeState) (before after : List Note) → TakesEventInto old before new after → IsDeskRun new.run → KeepsOn old before new after
event_keeps law old new before after t run =
    let acts : List Act = Makes (step.Takes old.client.number) (told_take old) ∷ t.acts in
    record {
      goes = λ running done items. record {
        blocks = t.follows.blocks;
        opening = refl;
        less = event_more old new before after t;
        leads = λ session now place at u.
            left_so session done.opening now running place new after done items at.finish at.commits at.doubts at.items
            (law session done.opening now running place at.script (seat_in old before) (seat_in new after) t.acts new.run t.event (told_take old) u
            (moves_at session now place old new before after acts done items at t.follows.made run t.follows.lines) t.idle t.told
            (subst (λ (bs : List Named). Meets bs (told_take old) old.client t.event t.acts new.client) at.blocks t.meets));
      };
    }

-- ---- a transaction
no_more : {X : Type 0} (xs : List X) → xs ≡ xs ++ []
no_more [] = refl
no_more (x ∷ xs) = ap (λ ys. x ∷ ys) (no_more xs)

least_there : (r q : DeskRun) (number : ℕ) → r ≡ q → least_of (desk_run q) ≡ Some number → least_of (desk_run r) ≡ Some number
least_there r q number same least = ap (λ (x : DeskRun). least_of (desk_run x)) same ∙ least

pub start_leads : StartLaw → (number : ℕ) (old new : OfficeState) (notes : List Note) (body : TxBody Script) (done : DoneNow) (items : Items)
    → StartsInto number old body new → IsDeskRun new.run → least_of (desk_run old.run) ≡ Some number
    → LeadsTo None (Some (begun_run number body)) (scene_of old notes done items) (scene_of new notes done items)
start_leads law number old new notes body done items t run least =
    let told : Told = told_by (desk_run old.run) (step.Starts old.client.number number) in
    let acts : List Act = Makes (step.Starts old.client.number number) told ∷ [] in
    record {
      blocks = t.follows.blocks;
      opening = refl;
      less = left_same old.client new.client notes notes [] (ap tasks_left t.client) (no_more notes);
      leads = λ session now place at u.
          left_so session done.opening now (Some (begun_run number body)) place new notes done items at.finish at.commits at.doubts at.items
          (subst (λ (b : TxBody Script). IsDriven session done.opening (with_seat place new.run (seat_in new notes) now) (Some (begun_run number b))) (sym t.given)
          (law session done.opening now place at.script (seat_in old notes) (seat_in new notes) new.run number told t.tx u
          (moves_at session now place old new notes notes acts done items at t.follows.made run (no_more notes)) (least_there now.run old.run number at.run least) t.idle t.found t.waits t.begins t.client));
    }

pub turn_leads : TurnLaw → (t : RunningTx) (old new : OfficeState) (before lines : List Note) (done : DoneNow) (items : Items)
    → TurnInto t.number old lines new → IsDeskRun new.run
    → LeadsTo (Some t) (Some (one_turn_more t lines)) (scene_of old before done items) (scene_of new (before ++ lines) done items)
turn_leads law t old new before lines done items h run =
    let acts : List Act = TakesTurn t.number lines ∷ [] in
    record {
      blocks = h.follows.blocks;
      opening = refl;
      less = left_same old.client new.client before (before ++ lines) lines (ap tasks_left h.client ∙ posted_left lines old.client) refl;
      leads = λ session now place at u.
          left_so session done.opening now (Some (one_turn_more t lines)) place new (before ++ lines) done items at.finish at.commits at.doubts at.items
          (law session done.opening now t place at.script (seat_in old before) (seat_in new (before ++ lines)) new.run lines h.tx u
          (moves_at session now place old new before (before ++ lines) acts done items at h.follows.made run (ap (λ ls. before ++ ls) (no_more lines))) h.idle h.found h.runs h.client);
    }

-- ---- it finishes
-- each of these laws tells the durability by the order that it had
abbrev pub DurableLaw : Type 0
DurableLaw = (session : ScriptSession) (opening : Items) (now : SessionNow) (running : Option RunningTx) (place : ℕ) (script : Client) (before seat : SeatNow) (acts : List Act) (r : DeskRun) (number : ℕ) (tx : ClientTx) → IsInStep session opening now running
    → Moves session now place script before acts r seat → tx_at before.client number ≡ Some tx → durability_drawn r.order number ≡ durability_drawn now.run.order number

commits_same : (order last : List DeskStep) (number : ℕ) (changes : List DeltaTree) (b : Bool) → durability_drawn last number ≡ durability_drawn order number → commits_at last (record_if b number changes) ≡ commits_at order (record_if b number changes)
commits_same order last number changes true same = λ i. record { strict = is_strict (same i); logged = record { number = number; deltas = changes } } ∷ []
commits_same order last number changes false same = refl

chosen_so : (b : Bool) (order : List DeskStep) (commits : List Commit) (e : FinishEntry Script Note) → commits ++ commits_at order (map record_of_entry (if b then e ∷ [] else [])) ≡ commits ++ commits_at order (record_if b e.number e.changes)
chosen_so true order commits e = refl
chosen_so false order commits e = refl

-- with those that a test chose
noted_so : (order last : List DeskStep) (old done : List Commit) (e : FinishEntry Script Note) (b c : Bool) → old ≡ done → b ≡ c → durability_drawn last e.number ≡ durability_drawn order e.number
    → old ++ commits_at last (map record_of_entry (if b then e ∷ [] else [])) ≡ done ++ commits_at order (record_if c e.number e.changes)
noted_so order last old done e b c same is durable =
    chosen_so b last old e
    ∙ ap (λ w. old ++ commits_at last (record_if w e.number e.changes)) is
    ∙ ap (λ cs. cs ++ commits_at last (record_if c e.number e.changes)) same
    ∙ ap (λ cs. done ++ cs) (commits_same order last e.number e.changes c durable)

finished_so : (session : ScriptSession) (opening : Items) (now : SessionNow) (place : ℕ) (old : DeskRun) (new : OfficeState) (after : List Note) (done : DoneNow) (items : Items) (e : FinishEntry Script Note) (left : Items) (b d : Bool)
    → now.finish ≡ done.finish → now.commits ≡ done.commits → now.doubts ≡ done.doubts → (did_commit e.outcome && may_write e.body) ≡ b → is_in_doubt e.outcome ≡ d → applied_all now.items (changes_kept e) ≡ left
    → durability_drawn new.run.order e.number ≡ durability_drawn old.order e.number
    → IsDriven session opening (with_finished e (with_seat place new.run (seat_in new after) now)) None
    → IsDriven session opening (with_scene place (scene_of new after (with_finish_of done old e.number b d e.changes) left) now) None
finished_so session opening now place old new after done items e left b d finish commits doubts writes doubt same_items durable u =
    let finish_is : now.finish ++ e.number ∷ [] ≡ done.finish ++ e.number ∷ [] = ap (λ ns. ns ++ e.number ∷ []) finish in
    let commits_is : now.commits ++ commits_at new.run.order (records_logged (e ∷ [])) ≡ done.commits ++ commits_at old.order (record_if b e.number e.changes) = noted_so old.order new.run.order now.commits done.commits e (did_commit e.outcome && may_write e.body) b commits writes durable in
    let doubts_is : now.doubts ++ commits_at new.run.order (records_in_doubt (e ∷ [])) ≡ done.doubts ++ commits_at old.order (record_if d e.number e.changes) = noted_so old.order new.run.order now.doubts done.doubts e (is_in_doubt e.outcome) d doubts doubt durable in
    let same : with_finished e (with_seat place new.run (seat_in new after) now) ≡ with_scene place (scene_of new after (with_finish_of done old e.number b d e.changes) left) now = cc in
    subst (λ (n : SessionNow). IsDriven session opening n None) same u

pub finish_leads : FinishLaw → DurableLaw → (t : RunningTx) (outcome : Outcome) (kept : Option SchemaData) (changes : List DeltaTree) (old new : OfficeState) (before after : List Note) (done : DoneNow) (items : Items)
    → FinishesInto t.number outcome kept old before new after → IsDeskRun new.run
    → RunsOn ScriptReacts ScriptWrites (part_of (scope_of_body t.body) items) t.body t.turns changes kept false outcome → is_in_doubt outcome ≡ false → IsSoundKept kept → LeavesSound t.body outcome changes items
    → LeadsTo (Some t) None (scene_of old before done items) (scene_of new after (with_finish_of done old.run t.number (did_commit outcome && may_write t.body) false changes) (left_items items outcome changes))
finish_leads law durable t outcome kept changes old new before after done items f run ran sure sound leaves =
    let told : Told = told_by (desk_run old.run) (step.Leaves old.client.number t.number outcome kept) in
    let acts : List Act = Makes (step.Leaves old.client.number t.number outcome kept) told ∷ f.acts in
    record {
      blocks = f.follows.blocks;
      opening = refl;
      less = left_same old.client new.client before after (notes_of_acts acts) (ends_left old.blocks (without_tx old.client t.number) t.number outcome f.tx.kind f.acts new.client f.ends) f.follows.lines;
      leads = λ session now place at u.
          let m = moves_at session now place old new before after acts done items at f.follows.made run f.follows.lines in
          finished_so session done.opening now place old.run new after done items (entry_ran t changes kept outcome) (left_items items outcome changes) (did_commit outcome && may_write t.body) false at.finish at.commits at.doubts refl sure
          (ap (λ (is : Items). applied_all is (if did_commit outcome then changes else [])) at.items)
          (durable session done.opening now (Some t) place at.script (seat_in old before) (seat_in new after) acts new.run t.number f.tx u.under_way.in_step m f.found ∙ ap (λ (r : DeskRun). durability_drawn r.order t.number) at.run)
          (law session done.opening now t place at.script (seat_in old before) (seat_in new after) f.acts new.run told f.tx outcome kept changes u
          m f.idle f.found f.ran
          (subst (λ (bs : List Named). EndsTx bs (without_tx old.client t.number) t.number outcome f.tx.kind f.acts new.client) at.blocks f.ends)
          (subst (λ (is : Items). RunsOn ScriptReacts ScriptWrites (part_of (scope_of_body t.body) is) t.body t.turns changes kept false outcome) (sym at.items) ran) sure sound (subst (λ (is : Items). LeavesSound t.body outcome changes is) (sym at.items) leaves));
    }

-- ---- in doubt
-- the host was faulted in between
abbrev faulted_office : OfficeState → OfficeState
faulted_office o = record o { run = with_step o.run step.Faults }

faulted_at : (session : ScriptSession) (now : SessionNow) (place : ℕ) (old : OfficeState) (before : List Note) (done : DoneNow) (items : Items) → IsSceneAt session now place (scene_of old before done items)
    → IsSceneAt session (with_fault now) place (scene_of (faulted_office old) before done items)
faulted_at session now place old before done items at = record {
  script = at.script;
  script_at = at.script_at;
  blocks = at.blocks;
  seat_at = at.seat_at;
  run = ap (λ (r : DeskRun). with_step r step.Faults) at.run;
  finish = at.finish;
  commits = at.commits;
  doubts = at.doubts;
  items = at.items;
}

abbrev pub DurableFaultLaw : Type 0
DurableFaultLaw = (r : DeskRun) (number : ℕ) → durability_drawn (with_step r step.Faults).order number ≡ durability_drawn r.order number

pub doubt_leads : DoubtLaw → FaultLaws → DurableLaw → DurableFaultLaw → (t : RunningTx) (changes : List DeltaTree) (old new : OfficeState) (before after : List Note) (done : DoneNow) (items : Items)
    → FinishesInto t.number outcome_in_doubt None (faulted_office old) before new after → IsDeskRun new.run
    → RunsOn ScriptReacts ScriptWrites (part_of (scope_of_body t.body) items) t.body t.turns changes None false outcome_in_doubt → may_write t.body ≡ true
    → LeadsTo (Some t) None (scene_of old before done items) (scene_of new after (with_finish_of done old.run t.number false true changes) items)
unfolding faulted_at
doubt_leads law faults durable faulted t changes old new before after done items f run ran writes =
    let mid = faulted_office old in
    let told : Told = told_by (desk_run mid.run) (step.Leaves old.client.number t.number outcome_in_doubt None) in
    let acts : List Act = Makes (step.Leaves old.client.number t.number outcome_in_doubt None) told ∷ f.acts in
    record {
      blocks = f.follows.blocks;
      opening = refl;
      less = left_same old.client new.client before after (notes_of_acts acts) (ends_left old.blocks (without_tx old.client t.number) t.number outcome_in_doubt f.tx.kind f.acts new.client f.ends) f.follows.lines;
      leads = λ session now place at u.
          let at_fault = faulted_at session now place old before done items at in
          let m = moves_at session (with_fault now) place mid new before after acts done items at_fault f.follows.made run f.follows.lines in
          let faults_run : IsDeskRun (with_step now.run step.Faults) = made_before old.client.number (with_step now.run step.Faults) new.run acts m.made m.run in
          finished_so session done.opening now place old.run new after done items (entry_ran t changes None outcome_in_doubt) items false true at.finish at.commits at.doubts refl refl at.items
          (durable session done.opening (with_fault now) (Some t) place at.script (seat_in mid before) (seat_in new after) acts new.run t.number f.tx (faults.in_step session done.opening now (Some t) u.under_way.in_step faults_run) m f.found
          ∙ faulted now.run t.number ∙ ap (λ (r : DeskRun). durability_drawn r.order t.number) at.run)
          (law session done.opening now t place at.script (seat_in old before) (seat_in new after) f.acts new.run told f.tx changes u
          m f.idle f.found f.ran
          (subst (λ (bs : List Named). EndsTx bs (without_tx old.client t.number) t.number outcome_in_doubt f.tx.kind f.acts new.client) at.blocks f.ends)
          (subst (λ (is : Items). RunsOn ScriptReacts ScriptWrites (part_of (scope_of_body t.body) is) t.body t.turns changes None false outcome_in_doubt) (sym at.items) ran) writes);
    }

-- ---- without starting
some_tx : (a b : ClientTx) → Some a ≡ Some b → a ≡ b
some_tx a b e = cc

-- nothing is logged of it
nothing_noted : (done : DoneNow) (r : DeskRun) (number : ℕ) → with_finish_of done r number false false [] ≡ with_number number done
nothing_noted done r number = λ i. record done { finish = done.finish ++ number ∷ []; commits = append-nil done.commits i; doubts = append-nil done.doubts i }

-- whether or not the host ended it
abbrev LawUnstarted : Bool → Type 0
LawUnstarted by_host = (session : ScriptSession) (opening : Items) (now : SessionNow) (place : ℕ) (script : Client) (before seat : SeatNow) (acts : List Act) (r : DeskRun) (told : Told) (tx : ClientTx)
    (number : ℕ) (turns : List (List Note)) (outcome : Outcome) → IsDriven session opening now None → (by_host ≡ true → (desk_run now.run).board.is_faulted ≡ true)
    → Moves session now place script before (map (TakesTurn number) turns ++ Makes (step.Leaves before.client.number number outcome None) told ∷ acts) r seat
    → least_of (desk_run now.run) ≡ Some number → before.client.tasks ≡ [] → tx_at before.client number ≡ Some tx → tx.started ≡ false
    → EndsTx script.blocks (with_notes (without_tx before.client number) (joined_lines turns)) number outcome tx.kind acts seat.client
    → NeverStarts ScriptReacts ScriptWrites tx.body turns [] None by_host outcome
    → IsDriven session opening (with_finished (record (entry_dropped number tx.body turns outcome) { by_host = by_host }) (with_seat place r seat now)) None

law_unstarted : CancelLaw → HostLaw → (by_host : Bool) → LawUnstarted by_host
law_unstarted cancel host true session opening now place script before seat acts r told tx number turns outcome d faulted m least idle found waits ends never =
    host session opening now place script before seat acts r told tx number turns outcome d (faulted refl) m least idle found waits ends never
law_unstarted cancel host false session opening now place script before seat acts r told tx number turns outcome d faulted m least idle found waits ends never =
    cancel session opening now place script before seat acts r told tx number turns outcome d m least idle found waits ends never

never_doubts : (body : TxBody Script) (turns : List (List Note)) (by_host : Bool) (outcome : Outcome) → NeverStarts ScriptReacts ScriptWrites body turns [] None by_host outcome → is_in_doubt outcome ≡ false
never_doubts (Scripted body) turns by_host outcome h = ap is_in_doubt h.cancelled.ended
never_doubts (Deletion name) turns by_host outcome h = ap is_in_doubt h.cancelled.2

writes_none : (committed writes : Bool) → committed ≡ false → (committed && writes) ≡ false
writes_none true writes e = cc
writes_none false writes e = refl

keeps_none : (committed : Bool) (items : Items) → applied_all items (if committed then [] else []) ≡ items
keeps_none true items = refl
keeps_none false items = refl

pub drop_leads : CancelLaw → HostLaw → DurableLaw → (number : ℕ) (turns : List (List Note)) (by_host : Bool) (outcome : Outcome) (tx : ClientTx) (old new : OfficeState) (before after : List Note) (done : DoneNow) (items : Items)
    → FinishesUnstartedInto number turns outcome old before new after → IsDeskRun new.run → least_of (desk_run old.run) ≡ Some number → tx_at old.client number ≡ Some tx
    → (by_host ≡ true → (desk_run old.run).board.is_faulted ≡ true) → NeverStarts ScriptReacts ScriptWrites tx.body turns [] None by_host outcome
    → LeadsTo None None (scene_of old before done items) (scene_of new after (with_number number done) items)
drop_leads cancel host durable number turns by_host outcome tx old new before after done items f run least found faulted never =
    let told : Told = told_by (desk_run old.run) (step.Leaves old.client.number number outcome None) in
    let acts : List Act = map (TakesTurn number) turns ++ Makes (step.Leaves old.client.number number outcome None) told ∷ f.acts in
    let same : tx ≡ f.tx = some_tx tx f.tx (sym found ∙ f.found) in
    let never_so : NeverStarts ScriptReacts ScriptWrites f.tx.body turns [] None by_host outcome = subst (λ (x : ClientTx). NeverStarts ScriptReacts ScriptWrites x.body turns [] None by_host outcome) same never in
    record {
      blocks = f.follows.blocks;
      opening = refl;
      less = left_same old.client new.client before after (notes_of_acts acts) (ends_left old.blocks (with_notes (without_tx old.client number) (joined_lines turns)) number outcome f.tx.kind f.acts new.client f.ends ∙ posted_left (joined_lines turns) (without_tx old.client number)) f.follows.lines;
      leads = λ session now place at u.
          let m = moves_at session now place old new before after acts done items at f.follows.made run f.follows.lines in
          subst (λ (d : DoneNow). IsDriven session done.opening (with_scene place (scene_of new after d items) now) None) (nothing_noted done old.run number)
          (finished_so session done.opening now place old.run new after done items (record (entry_dropped number f.tx.body turns outcome) { by_host = by_host }) items false false at.finish at.commits at.doubts
          (writes_none (did_commit outcome) (may_write f.tx.body) (never_commits f.tx.body turns by_host outcome never_so)) (never_doubts f.tx.body turns by_host outcome never_so)
          (keeps_none (did_commit outcome) now.items ∙ at.items)
          (durable session done.opening now None place at.script (seat_in old before) (seat_in new after) acts new.run number f.tx u.under_way.in_step m f.found ∙ ap (λ (r : DeskRun). durability_drawn r.order number) at.run)
          (law_unstarted cancel host by_host session done.opening now place at.script (seat_in old before) (seat_in new after) f.acts new.run told f.tx number turns outcome u
          (λ h. ap (λ (r : DeskRun). (desk_run r).board.is_faulted) at.run ∙ faulted h)
          m (least_there now.run old.run number at.run least) f.idle f.found f.waits
          (subst (λ (bs : List Named). EndsTx bs (with_notes (without_tx old.client number) (joined_lines turns)) number outcome f.tx.kind f.acts new.client) at.blocks f.ends)
          never_so));
    }
