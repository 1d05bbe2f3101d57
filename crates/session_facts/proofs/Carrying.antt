-- What a client does keeps it fitting the desk.
--     OpensWell             a run begins with databases that the desk can have
--     open_named            an open has the name that was asked of the desk
--     Carries               whatever the run, acts whose steps are made at once lead to a client that fits
--     carries_now, carries_event, carries_end       a block that runs at once;  an event;  the end of a transaction
--     alike_fits            a client with other tasks alone
--     others_fit            what another client does
use Rattle.std.proofs.Common.{◌≡◌, ◌≢◌, ℕ, zero, suc, ◌+◌, ◌-◌, nat_lt, Bool, true, false, List, [], ◌∷◌, ◌++◌, map, length, slice_get, Option, Some, None, option_map, if◌then◌else◌, refl, sym, ◌∙◌, ap, subst}
use Rattle.std.specs.Prelude.{◌==◌, ⊤}
use Rattle.std.specs.List.{AllByRecursion}
use Rattle.idb_keys.specs.declared.names.ErrorName.{ErrorName}
use Rattle.idb_keys.specs.declared.names.Durability.{Durability}
use Rattle.idb_keys.specs.declared.names.Mode.{Mode}
use Rattle.idb_keys.specs.declared.names.Mode.TheVariants as mode
use Rattle.idb_schema.specs.Schemas.{SchemaData}
use Rattle.idb_calls.specs.declared.traces.Outcome.{Outcome}
use Rattle.name_queues.specs.Mails.{conn_of}
use Rattle.name_queues.specs.declared.asks.Wants.{Wants}
use Rattle.name_queues.specs.declared.events.ClientEvent.{ClientEvent}
use Rattle.name_queues.specs.declared.ids.ConnId.{ConnId}
use Rattle.idb_desk.specs.Desks.{asks_of, request_in}
use Rattle.idb_desk.specs.Steps.{after, DeskRun, desk_run, with_step, IsDeskRun, answer_of, event_for}
use Rattle.desk_steps.specs.declared.stands.DeskRequest.{DeskRequest}
use Rattle.desk_steps.specs.declared.stands.TxKind.TheVariants as kind
use Rattle.desk_steps.specs.declared.steps.DeskStep.{DeskStep}
use Rattle.desk_steps.specs.declared.steps.DeskStep.TheVariants as step
use Rattle.desk_facts.specs.Databases.{AreOpenable, is_finish_of}
use Rattle.desk_facts.specs.Orderly.{asked_at}
use Rattle.connection_queues.specs.Machine.{schema_of}
use Rattle.request_lists.specs.Fronts.{Front}
use Rattle.serial_order.specs.FinishEntries.{Scripted, Deletion}
use Rattle.script_handlers.specs.Handling.{Script}
use Rattle.script_statements.specs.declared.script.Block.{Block as Named}
use Rattle.script_statements.specs.declared.statement.Stmt.{Stmt}
use Rattle.script_statements.specs.declared.statement.Stmt.TheVariants as stmt
use Rattle.script_runs.specs.Going.{Run, RunWork, Block, Goes, Finished, Next, Stops, TooMany, Enters, TooDeep, Enough, Round, Breaks, Says, Throws, Posts, Sets, Repeats, Takes, Passes, Acts, Refuses}
use Rattle.script_runs.specs.Words.{threw, said, post_noted, refusal_noted}
use Rattle.script_runs.specs.declared.environments.Env.{Env}
use Rattle.script_runs.specs.declared.notes.Note.{Note}
use Rattle.script_runs.specs.declared.notes.Note.TheVariants as note
use Rattle.script_runs.specs.declared.notes.Task.{Task}
use Rattle.script_runs.specs.declared.worlds.RunEnd.{RunEnd}
use Rattle.client_machine.specs.Acts.{Told, Act, Noted, Makes, Fails, Begins, TakesTurn, notes_of_acts}
use Rattle.client_machine.specs.Answering.{told_by, MadeAtOnce}
use Rattle.client_machine.specs.ClientStates.{OpenAsked, ClientTx, ClientTxKind, ClientState, open_at, is_clients, id_of, with_open, with_task, with_tx, with_notes}
use Rattle.client_machine.specs.ClientSteps.{Meets, MeetsPlain, MeetsChange, MeetsChangeClosed, MeetsUpgrade, MeetsDeletion, EndsTx, EndsOwn, EndsUpgrade, EndsDeletion, after_event_of}
use Rattle.client_machine.specs.TaskRuns.{TaskAsk, asks_of_desk, closes, creates, misplaced, on_own, conn_named, task_ask, body_left, own_tx, TaskDoes, Asked, AskRefused, Closed, ClosedBefore, Created, CreateRefused, Misplaced, RunsNow, NoBlock, RunsBlock}
use Rattle.client_machine.specs.declared.limits.TheConstants.{GREATEST_POST_COUNT}
use Rattle.client_seats.specs.Seating.{IsSeated, SitsAlike, ask_step, is_ask_of}
use Rattle.client_seats.proofs.Laws.{seat_asked, seat_later, seat_others, seat_drew, seat_given, seat_alike}
use Rattle.client_ties.proofs.Laws.{made_split, made_before, made_notes, run_before, run_after}
use Rattle.session_facts.specs.Fitting.{AreFew, FitsKind, FitsDrawn, FitsDesk}
use Rattle.session_facts.proofs.Desk.{some_same, IsSureDesk, sure_run, event_own}
use Rattle.session_facts.proofs.Drawing.{fits_kept, created_fits, told_schema, told_number, told_event, upgrade_fits, deletion_fits}

-- ---- lists
all_end : {X : Type 0} (P : X → Type 0) (xs : List X) (x : X) → AllByRecursion P xs → P x → AllByRecursion P (xs ++ x ∷ [])
all_end P [] x all p = (p, tt)
all_end P (y ∷ ys) x all p = (all.0, all_end P ys x all.1 p)

map_got : {X Y : Type 0} (f : X → Y) (xs : List X) (i : ℕ) → option_map f (slice_get xs i) ≡ slice_get (map f xs) i
map_got f [] i = refl
map_got f (x ∷ xs) zero = refl
map_got f (x ∷ xs) (suc i) = map_got f xs i

numbered_got : {X Y : Type 0} (f : X → Y) (xs : List X) (n : ℕ) → option_map f (if n == 0 then None else slice_get xs (n - 1)) ≡ (if n == 0 then None else slice_get (map f xs) (n - 1))
numbered_got f xs n = elim (n == 0) as (λ b. option_map f (if b then None else slice_get xs (n - 1)) ≡ (if b then None else slice_get (map f xs) (n - 1))) [
  | true ↦ refl
  | false ↦ map_got f xs (n - 1)
]

-- ---- opens
pub open_named : (c : ClientState) (r : DeskRun) (who : ConnId) → IsSeated c r → who.client ≡ c.number → option_map (λ (o : OpenAsked). o.name) (open_at c who.request) ≡ asked_at (desk_run r) who
open_named c r who s is =
    numbered_got (λ (o : OpenAsked). o.name) c.opens who.request
    ∙ ap (λ ns. if who.request == 0 then None else slice_get ns (who.request - 1)) s.asked
    ∙ sym (numbered_got (λ (x : DeskRequest). x.name) (asks_of (desk_run r).board.clients c.number) who.request)
    ∙ ap (λ n. option_map (λ (x : DeskRequest). x.name) (request_in (asks_of (desk_run r).board.clients n) who.request)) (sym is)

-- ---- runs
pub record OpensWell (r : DeskRun) : Type 0 where
  pub openable : AreOpenable r.opening
  pub few : AreFew r.opening

made_opening : (client : ℕ) (r end : DeskRun) (acts : List Act) → MadeAtOnce client r acts end → end.opening ≡ r.opening
made_opening client r end [] m = ap (λ (q : DeskRun). q.opening) m
made_opening client r end (Makes t told ∷ acts) m = made_opening client (with_step r t) end acts m.1.1
made_opening client r end (Fails t name ∷ acts) m = made_opening client r end acts m.1.1
made_opening client r end (Noted note ∷ acts) m = made_opening client r end acts m
made_opening client r end (Begins tx ∷ acts) m = made_opening client r end acts m
made_opening client r end (TakesTurn number notes ∷ acts) m = made_opening client r end acts m

pub opens_made : (client : ℕ) (r end : DeskRun) (acts : List Act) → MadeAtOnce client r acts end → OpensWell r → OpensWell end
opens_made client r end acts m w =
    let same = sym (made_opening client r end acts m) in
    record { openable = subst AreOpenable same w.openable; few = subst AreFew same w.few }

pub sure_at : (r : DeskRun) → OpensWell r → IsDeskRun r → IsSureDesk (desk_run r)
sure_at r w run = sure_run r w.openable w.few run

-- a step that doesn't finish any of these
pub step_txs : (r : DeskRun) (t : DeskStep) (client : ℕ) (txs : List ClientTx) → OpensWell r → IsDeskRun (with_step r t) → AllByRecursion (λ (tx : ClientTx). is_finish_of tx.number t ≡ false) txs
    → AllByRecursion (FitsDrawn (desk_run r) client) txs → AllByRecursion (FitsDrawn (desk_run (with_step r t)) client) txs
step_txs r t client [] w run out all = tt
step_txs r t client (tx ∷ txs) w run out all =
    let at = run_before r t run in (
      subst (λ d. FitsDrawn d client tx) (sym (run_after r t)) (fits_kept (desk_run r) t client tx (sure_at r w at.0) at.1 out.0 all.0),
      step_txs r t client txs w run out.1 all.1,
    )

none_ends : (t : DeskStep) (txs : List ClientTx) → ((n : ℕ) → is_finish_of n t ≡ false) → AllByRecursion (λ (tx : ClientTx). is_finish_of tx.number t ≡ false) txs
none_ends t [] out = tt
none_ends t (tx ∷ txs) out = (out tx.number, none_ends t txs out)

pub later_fits : (r : DeskRun) (t : DeskStep) (c : ClientState) → OpensWell r → IsDeskRun (with_step r t) → is_ask_of c.number t ≡ false → ((n : ℕ) → is_finish_of n t ≡ false) → FitsDesk r c → FitsDesk (with_step r t) c
later_fits r t c w run other out f = record { seated = seat_later c r t f.seated other; txs = step_txs r t c.number c.txs w run (none_ends t c.txs out) f.txs }

pub alike_fits : (r : DeskRun) (c d : ClientState) → SitsAlike c d → FitsDesk r c → FitsDesk r d
alike_fits r c d a f = record {
  seated = seat_alike c d r f.seated a;
  txs = subst (λ n. AllByRecursion (FitsDrawn (desk_run r) n) d.txs) (sym a.number) (subst (AllByRecursion (FitsDrawn (desk_run r) c.number)) (sym a.txs) f.txs);
}

-- with one transaction more
more_fits : (r : DeskRun) (t : DeskStep) (c : ClientState) (tx : ClientTx) → OpensWell r → IsDeskRun (with_step r t) → ((n : ℕ) → is_finish_of n t ≡ false) → IsSeated (with_tx c tx) (with_step r t)
    → AllByRecursion (FitsDrawn (desk_run r) c.number) c.txs → FitsDrawn (after (desk_run r) t) c.number tx → FitsDesk (with_step r t) (with_tx c tx)
more_fits r t c tx w run out seated all fits = record {
  seated = seated;
  txs = all_end (FitsDrawn (desk_run (with_step r t)) c.number) c.txs tx (step_txs r t c.number c.txs w run (none_ends t c.txs out) all) (subst (λ d. FitsDrawn d c.number tx) (sym (run_after r t)) fits);
}

-- ---- posts
task_alike : (c : ClientState) (task : Task) → SitsAlike c (with_task c task)
task_alike c task = elim (nat_lt c.posts GREATEST_POST_COUNT) as (λ b. SitsAlike c (if b then record c { tasks = c.tasks ++ task ∷ []; posts = c.posts + 1 } else c)) [
  | true ↦ record { number = refl; opens = refl; txs = refl }
  | false ↦ record { number = refl; opens = refl; txs = refl }
]

alike_both : (a b c : ClientState) → SitsAlike a b → SitsAlike b c → SitsAlike a c
alike_both a b c x y = record { number = y.number ∙ x.number; opens = y.opens ∙ x.opens; txs = y.txs ∙ x.txs }

pub notes_alike : (notes : List Note) (c : ClientState) → SitsAlike c (with_notes c notes)
notes_alike [] c = record { number = refl; opens = refl; txs = refl }
notes_alike (note.Line l ∷ notes) c = notes_alike notes c
notes_alike (note.Posted task ∷ notes) c = alike_both c (with_task c task) (with_notes (with_task c task) notes) (task_alike c task) (notes_alike notes (with_task c task))

-- ---- what acts do
pub record Carries (c : ClientState) (acts : List Act) (last : ClientState) : Type 0 where
  pub number : last.number ≡ c.number
  pub on : (r end : DeskRun) → OpensWell r → MadeAtOnce c.number r acts end → IsDeskRun end → FitsDesk r c → FitsDesk end last

carries_nothing : (c : ClientState) → Carries c [] c
carries_nothing c = record { number = refl; on = λ r end w m run f. subst (λ q. FitsDesk q c) (sym m) f }

carries_noted : (c : ClientState) (n : Note) → Carries c (Noted n ∷ []) c
carries_noted c n = record { number = refl; on = λ r end w m run f. subst (λ q. FitsDesk q c) (sym m) f }

carries_failed : (c : ClientState) (t : DeskStep) (name : Option ErrorName) → Carries c (Fails t name ∷ []) c
carries_failed c t name = record { number = refl; on = λ r end w m run f. subst (λ q. FitsDesk q c) (sym m.1.1) f }

carries_joined : (a b c : ClientState) (xs ys : List Act) → Carries a xs b → Carries b ys c → Carries a (xs ++ ys) c
carries_joined a b c xs ys g h = record {
  number = h.number ∙ g.number;
  on = λ r end w m run f.
      let s = made_split a.number r end xs ys m in
      let mid = g.on r s.0 w s.1.0 (made_before a.number s.0 end ys s.1.1 run) f in
      h.on s.0 end (opens_made a.number r s.0 xs s.1.0 w) (subst (λ n. MadeAtOnce n s.0 ys end) (sym g.number) s.1.1) run mid;
}

carries_again : (c : ClientState) (acts : List Act) (mid last : ClientState) → SitsAlike mid last → Carries c acts mid → Carries c acts last
carries_again c acts mid last a g = record { number = a.number ∙ g.number; on = λ r end w m run f. alike_fits end mid last a (g.on r end w m run f) }

-- a step that draws nothing and asks nothing
carries_made : (c : ClientState) (t : DeskStep) (told : Told) → is_ask_of c.number t ≡ false → ((n : ℕ) → is_finish_of n t ≡ false) → Carries c (Makes t told ∷ []) c
carries_made c t told other out = record {
  number = refl;
  on = λ r end w m run f. subst (λ q. FitsDesk q c) (sym m.1.1) (later_fits r t c w (subst IsDeskRun m.1.1 run) other out f);
}

-- ---- statements
abbrev AsksRightly : ClientState → TaskAsk → Type 0
AsksRightly c (asks_of_desk t o) = (wants : Wants) × (t ≡ ask_step c o wants)
AsksRightly c (closes who) = ⊤
AsksRightly c (creates who scope m durability body complete abort) = ⊤
AsksRightly c misplaced = ⊤

own_rightly : (c : ClientState) (n : Option ℕ) (f : ConnId → TaskAsk) → ((who : ConnId) → AsksRightly c (f who)) → AsksRightly c (on_own c n f)
own_rightly c None f all = tt
own_rightly c (Some request) f all = elim (is_clients c request) as (λ b. AsksRightly c (if b then f (id_of c request) else misplaced)) [
  | true ↦ all (id_of c request)
  | false ↦ tt
]

asks_rightly : (c : ClientState) (env : Env) (s : Stmt) → AsksRightly c (task_ask c env s)
asks_rightly c env (stmt.Open db version upgrade blocked success error version_change closed) = (_, refl)
asks_rightly c env (stmt.DeleteDatabase db blocked success error) = (_, refl)
asks_rightly c env (stmt.Close conn) = own_rightly c (conn_named env conn) closes (λ who. tt)
asks_rightly c env (stmt.Transaction conn scope m durability body complete abort) = own_rightly c (conn_named env conn) _ (λ who. tt)
asks_rightly c env _ = tt

carries_ask : (c : ClientState) (o : OpenAsked) (wants : Wants) (told : Told) → Carries c (Makes (ask_step c o wants) told ∷ []) (with_open c o)
carries_ask c o wants told = record {
  number = refl;
  on = λ r end w m run f.
      let t = ask_step c o wants in
      let now : IsDeskRun (with_step r t) = subst IsDeskRun m.1.1 run in
      subst (λ q. FitsDesk q (with_open c o)) (sym m.1.1) (record {
        seated = seat_asked c r o wants f.seated (run_before r t now).1;
        txs = step_txs r t c.number c.txs w now (none_ends t c.txs (λ n. refl)) f.txs;
      });
}

module _ (numbers : (r : DeskRun) → (desk_run r).board.scopes.next ≡ length (desk_run r).board.drawn + 1) where
  carries_created : (blocks : List Named) (c : ClientState) (env : Env) (who : ConnId) (scope : List (List ℕ)) (m : Mode) (durability : Durability) (complete abort : Option ℕ) (number : ℕ) (told : Told) (schema : SchemaData) (first : Note) (notes : List Note) (front : Front Script) (how : RunEnd) (tx : ClientTx)
      → told.schema ≡ Some schema → tx ≡ own_tx number complete abort env (body_left m schema scope front how)
      → Carries c (Makes (step.Creates number who scope m durability) told ∷ Begins tx ∷ Noted first ∷ map Noted notes) (with_tx c tx)
  carries_created blocks c env who scope m durability complete abort number told schema first notes front how tx schema_is made = record {
    number = refl;
    on = λ r end w h run f.
        let t = step.Creates number who scope m durability in
        let last = made_notes c.number (with_step r t) end notes h.1.1 in
        let now : IsDeskRun (with_step r t) = subst IsDeskRun last run in
        let at = run_before r t now in
        let own : who.client ≡ c.number = some_same h.0 in
        let told_is : schema_of (desk_run r).queues who ≡ Some schema = sym (told_schema (desk_run r) t) ∙ ap (λ (x : Told). x.schema) (sym h.1.0) ∙ schema_is in
        let body = body_left m schema scope front how in
        let fits = created_fits (desk_run r) number who scope m durability schema tx body (sure_at r w at.0) (numbers r) at.1 told_is
        (ap (λ (x : ClientTx). x.number) made) (ap (λ (x : ClientTx). x.body) made) refl refl
        (λ there name p. subst (λ k. FitsKind there name kind.Plain k (Scripted body)) (sym (ap (λ (x : ClientTx). x.kind) made)) p) in
        subst (λ q. FitsDesk q (with_tx c tx)) (sym last)
        (more_fits r t c tx w now (λ n. refl) (seat_drew c r t tx f.seated at.1 (ap (λ (x : ClientTx). Some x.number) (sym made))) f.txs
        (subst (λ n. FitsDrawn (after (desk_run r) t) n tx) own fits));
  }

  carries_does : (blocks : List Named) (c : ClientState) (env : Env) (s : Stmt) (acts : List Act) (last : ClientState) (refusal : Option ErrorName) → TaskDoes blocks c env s acts last refusal → Carries c acts last
  carries_does blocks c env s acts last refusal (Asked t o told is) =
      let a = subst (AsksRightly c) is (asks_rightly c env s) in
      subst (λ x. Carries c (Makes x told ∷ []) (with_open c o)) (sym a.1) (carries_ask c o a.0 told)
  carries_does blocks c env s acts last refusal (AskRefused t o name is) = carries_failed c t (Some name)
  carries_does blocks c env s acts last refusal (Closed who told is) = carries_made c (step.Closes who) told refl (λ n. refl)
  carries_does blocks c env s acts last refusal (ClosedBefore who is) = carries_failed c (step.Closes who) None
  carries_does blocks c env s acts last refusal (Created who scope m durability body complete abort number told schema notes front how tx is number_told schema_told runs made) =
      carries_created blocks c env who scope m durability complete abort number told schema _ notes front how tx schema_told made
  carries_does blocks c env s acts last refusal (CreateRefused who scope m durability body complete abort number name is) = carries_failed c (step.Creates number who scope m durability) (Some name)
  carries_does blocks c env s acts last refusal (Misplaced is) = carries_nothing c

  -- ---- a run
  carries_goes : (blocks : List Named) (depth : ℕ) (work : RunWork) (r : Run ClientState) (acts : List Act) (last : Run ClientState) (how : RunEnd) → Goes Noted TaskDoes blocks depth work r acts last how → Carries r.world acts last.world
  carries_goes blocks depth work r acts last how (Finished _ _) = carries_nothing r.world
  carries_goes blocks depth work r acts last how (Next _ s ss _ mid _ first rest _ less g h) = carries_joined r.world mid.world last.world first rest (carries_goes blocks depth _ _ first mid _ g) (carries_goes blocks depth _ mid rest last how h)
  carries_goes blocks depth work r acts last how (Stops _ s ss _ _ _ less g) = carries_goes blocks depth _ _ acts last _ g
  carries_goes blocks depth work r acts last how (TooMany _ s ss _ most) = carries_noted r.world threw
  carries_goes blocks depth work r acts last how (Enters _ block _ _ _ _ less g) = carries_goes blocks _ _ r acts last how g
  carries_goes blocks depth work r acts last how (TooDeep _ block _ most) = carries_noted r.world threw
  carries_goes blocks depth work r acts last how (Enough _ times turn block _ most) = carries_nothing r.world
  carries_goes blocks depth work r acts last how (Round _ times turn block _ mid _ first rest _ less g h) = carries_joined r.world mid.world last.world first rest (carries_goes blocks depth _ _ first mid _ g) (carries_goes blocks depth _ mid rest last how h)
  carries_goes blocks depth work r acts last how (Breaks _ times turn block _ _ _ less g) = carries_goes blocks depth _ _ acts last _ g
  carries_goes blocks depth work r acts last how (Says _ x _) = carries_noted r.world (said r.at.env x)
  carries_goes blocks depth work r acts last how (Throws _ _) = carries_noted r.world threw
  carries_goes blocks depth work r acts last how (Posts _ block _) = carries_noted r.world (post_noted block r.at.env)
  carries_goes blocks depth work r acts last how (Sets _ name x _) = carries_nothing r.world
  carries_goes blocks depth work r acts last how (Repeats _ times block _ inner _ _ g) = carries_goes blocks depth _ r acts inner how g
  carries_goes blocks depth work r acts last how (Takes _ block test if_so if_not _ _ _ _ is g) = carries_goes blocks depth _ r acts last how g
  carries_goes blocks depth work r acts last how (Passes _ test if_so if_not _ is) = carries_nothing r.world
  carries_goes blocks depth work r acts last how (Acts _ s _ w _ is d) = carries_does blocks r.world r.at.env s acts w None d
  carries_goes blocks depth work r acts last how (Refuses _ s _ w outs name is d) = carries_joined r.world w w outs (Noted (refusal_noted s name) ∷ []) (carries_does blocks r.world r.at.env s outs w (Some name) d) (carries_noted w (refusal_noted s name))

  pub carries_now : (blocks : List Named) (c : ClientState) (env : Env) (block : Option ℕ) (acts : List Act) (last : ClientState) → RunsNow blocks c env block acts last → Carries c acts last
  carries_now blocks c env block acts last NoBlock = carries_nothing c
  carries_now blocks c env block acts last (RunsBlock b _ at how goes) =
      carries_again c acts at.world (with_notes at.world (notes_of_acts acts)) (notes_alike (notes_of_acts acts) at.world) (carries_goes blocks 0 (Block b) _ acts at how goes)

  -- ---- a transaction's end
  carries_first : (c : ClientState) (n : Note) (acts : List Act) (last : ClientState) → Carries c acts last → Carries c (Noted n ∷ acts) last
  carries_first c n acts last g = record { number = g.number; on = g.on }

  pub carries_end : (blocks : List Named) (c : ClientState) (number : ℕ) (outcome : Outcome) (k : ClientTxKind) (acts : List Act) (last : ClientState) → EndsTx blocks c number outcome k acts last → Carries c acts last
  carries_end blocks c number outcome k acts last (EndsOwn complete abort env more _ runs) = carries_first c _ more last (carries_now blocks c _ _ more last runs)
  carries_end blocks c number outcome k acts last EndsUpgrade = carries_noted c _
  carries_end blocks c number outcome k acts last EndsDeletion = carries_nothing c

  -- ---- an event
  -- it is taken, and then what meets it
  carries_taken : (c mid : ClientState) (e : ClientEvent) (told : Told) (n : Note) (acts : List Act) (last : ClientState) → mid.number ≡ c.number
      → ((q : DeskRun) → FitsDesk q c → FitsDesk q mid) → Carries mid acts last → Carries c (Makes (step.Takes c.number) told ∷ Noted n ∷ acts) last
  carries_taken c mid e told n acts last same turns g = record {
    number = g.number ∙ same;
    on = λ r end w m run f.
        let t = step.Takes c.number in
        let now = made_before c.number (with_step r t) end acts m.1.1 run in
        let next : OpensWell (with_step r t) = record { openable = w.openable; few = w.few } in
        g.on (with_step r t) end next (subst (λ k. MadeAtOnce k (with_step r t) acts end) (sym same) m.1.1) run (turns (with_step r t) (later_fits r t c w now refl (λ k. refl) f));
  }

  given_fits : (c : ClientState) (o : OpenAsked) (e : ClientEvent) (q : DeskRun) → open_at c (conn_of e).request ≡ Some o → FitsDesk q c → FitsDesk q (after_event_of c o e)
  given_fits c o e q found f = record { seated = seat_given c q e o f.seated found; txs = f.txs }

  taken_event : (c : ClientState) (r : DeskRun) (e : ClientEvent) (told : Told) → told ≡ told_by (desk_run r) (step.Takes c.number) → told.event ≡ Some e → event_for (desk_run r) c.number ≡ Some e
  taken_event c r e told same is = sym (told_event (desk_run r) c.number) ∙ ap (λ (x : Told). x.event) (sym same) ∙ is

  -- one that begins a transaction
  carries_begun : (c mid : ClientState) (e : ClientEvent) (told : Told) (tx : ClientTx) (first : Note) (notes : List Note) → mid.number ≡ c.number → told.event ≡ Some e → told.number ≡ Some tx.number
      → ((q : DeskRun) → FitsDesk q c → FitsDesk q mid)
      → ((r : DeskRun) → OpensWell r → IsDeskRun r → FitsDesk r c → told ≡ told_by (desk_run r) (step.Takes c.number) → event_for (desk_run r) c.number ≡ Some e → FitsDrawn (after (desk_run r) (step.Takes c.number)) c.number tx)
      → Carries c (Makes (step.Takes c.number) told ∷ Begins tx ∷ Noted first ∷ map Noted notes) (with_tx mid tx)
  carries_begun c mid e told tx first notes same is number turns fits = record {
    number = same;
    on = λ r end w m run f.
        let t = step.Takes c.number in
        let last = made_notes c.number (with_step r t) end notes m.1.1 in
        let now : IsDeskRun (with_step r t) = subst IsDeskRun last run in
        let at = run_before r t now in
        let before = turns r f in
        let new = fits r w at.0 f m.1.0 (taken_event c r e told m.1.0 is) in
        let answered : (answer_of (desk_run r) t).number ≡ Some tx.number = sym (told_number (desk_run r) t) ∙ ap (λ (x : Told). x.number) (sym m.1.0) ∙ number in
        subst (λ q. FitsDesk q (with_tx mid tx)) (sym last)
        (more_fits r t mid tx w now (λ n. refl) (seat_drew mid r t tx before.seated at.1 answered) before.txs (subst (λ n. FitsDrawn (after (desk_run r) t) n tx) (sym same) new));
  }

  carries_met : (blocks : List Named) (c : ClientState) (e : ClientEvent) (told : Told) (acts : List Act) (last : ClientState) → told.event ≡ Some e → Meets blocks told c e acts last → Carries c (Makes (step.Takes c.number) told ∷ acts) last
  carries_met blocks c e told acts last is (MeetsPlain _ o more _ plain found runs) =
      carries_taken c (after_event_of c o e) e told _ more last refl (λ q f. given_fits c o e q found f) (carries_now blocks (after_event_of c o e) _ _ more last runs)
  carries_met blocks c e told acts last is (MeetsChange who old new o more _ handled found runs) =
      let g = carries_now blocks c _ _ more last runs in
      carries_taken c c e told _ (more ++ Makes (step.Handles c.number) handled ∷ []) last refl (λ q f. f) (carries_joined c last last more (Makes (step.Handles c.number) handled ∷ []) g (carries_made last (step.Handles c.number) handled refl (λ n. refl)))
  carries_met blocks c e told acts last is (MeetsChangeClosed who old new o more _ found runs) =
      let g = carries_now blocks c _ _ more last runs in
      carries_taken c c e told _ (more ++ Fails (step.Handles c.number) None ∷ []) last refl (λ q f. f) (carries_joined c last last more (Fails (step.Handles c.number) None ∷ []) g (carries_failed last (step.Handles c.number) None))
  carries_met blocks c e told acts last is (MeetsUpgrade who old new number schema o notes front how tx found number_told schema_told runs made) =
      let mid = after_event_of c o e in
      let body = body_left mode.VersionChange schema [] front how in
      let number_is : told.number ≡ Some tx.number = number_told ∙ ap (λ (x : ClientTx). Some x.number) (sym made) in
      carries_again c _ (with_tx mid tx) (with_notes (with_tx mid tx) notes) (notes_alike notes (with_tx mid tx))
      (carries_begun c mid e told tx _ notes refl is number_is (λ q f. given_fits c o e q found f)
      (λ r w run f same at. upgrade_fits (desk_run r) c.number who (sure_at r w run) (numbers r) old new tx body at
      (ap (λ (x : Told). x.number) (sym same) ∙ number_is) (ap (λ (x : Told). x.schema) (sym same) ∙ schema_told) refl refl (ap (λ (x : ClientTx). x.body) made)
      (λ there name p. subst (λ k. FitsKind there name (kind.Upgrade new) k (Scripted body)) (sym (ap (λ (x : ClientTx). x.kind) made)) p)))
  carries_met blocks c e told acts last is (MeetsDeletion who old number o tx found number_told made) =
      let number_is : told.number ≡ Some tx.number = number_told ∙ ap (λ (x : ClientTx). Some x.number) (sym made) in
      carries_begun c c e told tx _ [] refl is number_is (λ q f. f)
      (λ r w run f same at. deletion_fits (desk_run r) c.number who (sure_at r w run) (numbers r) old tx o.name at
      (ap (λ (x : Told). x.number) (sym same) ∙ number_is)
      (sym (open_named c r who f.seated (event_own (desk_run r) c.number e (sure_at r w run).orderly at).0) ∙ ap (option_map (λ (x : OpenAsked). x.name)) found)
      (ap (λ (x : ClientTx). x.body) made)
      (λ there name p. subst (λ k. FitsKind there name kind.Deletion k (Deletion o.name)) (sym (ap (λ (x : ClientTx). x.kind) made)) p))

  pub carries_event : (blocks : List Named) (c : ClientState) (e : ClientEvent) (told : Told) (acts : List Act) (last : ClientState) → told.event ≡ Some e → Meets blocks told c e acts last → Carries c (Makes (step.Takes c.number) told ∷ acts) last
  carries_event blocks c e told acts last is meets = carries_met blocks c e told acts last is meets

-- ---- other clients
-- no act finishes one of these transactions
abbrev pub is_end_act : ℕ → Act → Bool
is_end_act number (Noted n) = false
is_end_act number (Makes t told) = is_finish_of number t
is_end_act number (Fails t name) = false
is_end_act number (Begins tx) = false
is_end_act number (TakesTurn other notes) = false

abbrev pub EndsNone : List Act → List ClientTx → Type 0
EndsNone acts txs = AllByRecursion (λ (a : Act). AllByRecursion (λ (tx : ClientTx). is_end_act tx.number a ≡ false) txs) acts

txs_made : (client other : ℕ) (r end : DeskRun) (acts : List Act) (txs : List ClientTx) → OpensWell r → MadeAtOnce client r acts end → IsDeskRun end → EndsNone acts txs
    → AllByRecursion (FitsDrawn (desk_run r) other) txs → AllByRecursion (FitsDrawn (desk_run end) other) txs
txs_made client other r end [] txs w m run out all = subst (λ (q : DeskRun). AllByRecursion (FitsDrawn (desk_run q) other) txs) (sym m) all
txs_made client other r end (Makes t told ∷ acts) txs w m run out all =
    txs_made client other (with_step r t) end acts txs (record { openable = w.openable; few = w.few }) m.1.1 run out.1
    (step_txs r t other txs w (made_before client (with_step r t) end acts m.1.1 run) out.0 all)
txs_made client other r end (Fails t name ∷ acts) txs w m run out all = txs_made client other r end acts txs w m.1.1 run out.1 all
txs_made client other r end (Noted n ∷ acts) txs w m run out all = txs_made client other r end acts txs w m run out.1 all
txs_made client other r end (Begins tx ∷ acts) txs w m run out all = txs_made client other r end acts txs w m run out.1 all
txs_made client other r end (TakesTurn number notes ∷ acts) txs w m run out all = txs_made client other r end acts txs w m run out.1 all

pub others_fit : (client : ℕ) (c : ClientState) (r end : DeskRun) (acts : List Act) → c.number ≢ client → OpensWell r → MadeAtOnce client r acts end → IsDeskRun end → EndsNone acts c.txs → FitsDesk r c → FitsDesk end c
others_fit client c r end acts apart w m run out f = record { seated = seat_others c client r end acts apart f.seated m; txs = txs_made client c.number r end acts c.txs w m run out f.txs }
