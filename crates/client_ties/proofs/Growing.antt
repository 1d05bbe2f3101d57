-- Tasks and events begin transactions, and do nothing else to them.
--     is_tame               an act that is of no transaction, or begins one
--     Grows                 a client's transactions are those before and those that began, which drew their numbers one after the other
--     grows_now, grows_event        a block that runs at once;  an event that is taken and met
--     grows_end             the line and the block at a transaction's end
use Rattle.std.proofs.Common.{◌≡◌, ℕ, ◌+◌, nat_lt, Bool, true, false, List, [], ◌∷◌, ◌++◌, map, Option, Some, None, if◌then◌else◌, refl, sym, ◌∙◌, ap, subst}
use Rattle.std.specs.Prelude.{⊤}
use Rattle.std.specs.List.{AllByRecursion}
use Rattle.std.proofs.lemmas.List.{append-nil, append_assoc, map-append}
use Rattle.std.proofs.lemmas.List.Concat.{flat_map-append}
use Rattle.idb_keys.specs.declared.names.ErrorName.{ErrorName}
use Rattle.idb_calls.specs.declared.traces.Outcome.{Outcome}
use Rattle.name_queues.specs.declared.events.ClientEvent.{ClientEvent}
use Rattle.name_queues.specs.declared.events.ClientEvent.TheVariants as event
use Rattle.name_queues.specs.declared.ids.ConnId.{ConnId}
use Rattle.desk_steps.specs.declared.steps.DeskStep.{DeskStep}
use Rattle.desk_steps.specs.declared.steps.DeskStep.TheVariants as step
use Rattle.idb_desk.specs.Desks.{DeskState}
use Rattle.idb_desk.specs.Steps.{DeskRun, desk_run, with_step, IsDeskRun, answer_of, number_of_event}
use Rattle.idb_desk.specs.Tokens.{client_of}
use Rattle.script_statements.specs.declared.script.Block.{Block as Named}
use Rattle.script_statements.specs.declared.statement.Stmt.{Stmt}
use Rattle.script_statements.specs.declared.statement.Stmt.TheVariants as stmt
use Rattle.script_runs.specs.declared.environments.Env.{Env}
use Rattle.script_runs.specs.declared.notes.Note.{Note}
use Rattle.script_runs.specs.declared.notes.Task.{Task}
use Rattle.script_runs.specs.declared.notes.Note.TheVariants as note
use Rattle.script_runs.specs.declared.worlds.RunEnd.{RunEnd}
use Rattle.script_runs.specs.Words.{threw, said, post_noted, refusal_noted}
use Rattle.script_runs.specs.Going.{Run, RunWork, Block, Goes, Finished, Next, Stops, TooMany, Enters, TooDeep, Enough, Round, Breaks, Says, Throws, Posts, Sets, Repeats, Takes, Passes, Acts, Refuses}
use Rattle.client_machine.specs.declared.limits.TheConstants.{GREATEST_POST_COUNT}
use Rattle.client_machine.specs.Acts.{Told, Act, Noted, Makes, Fails, Begins, TakesTurn, tx_of_act, txs_begun, notes_of_acts}
use Rattle.client_machine.specs.Answering.{told_by, MadeAtOnce}
use Rattle.client_machine.specs.ClientStates.{OpenAsked, ClientTx, ClientTxKind, ClientState, is_clients, id_of, with_task, with_tx, with_notes}
use Rattle.client_machine.specs.ClientSteps.{Meets, MeetsPlain, MeetsChange, MeetsChangeClosed, MeetsUpgrade, MeetsDeletion, EndsTx, EndsOwn, EndsUpgrade, EndsDeletion, is_plain_event, after_event_of}
use Rattle.client_machine.specs.TaskRuns.{TaskAsk, asks_of_desk, closes, creates, misplaced, on_own, conn_named, task_ask, TaskDoes, Asked, AskRefused, Closed, ClosedBefore, Created, CreateRefused, Misplaced, RunsNow, NoBlock, RunsBlock}
use Rattle.client_ties.specs.Unfinished.{Draws}
use Rattle.client_ties.specs.Ties.{shown_tx}
use Rattle.client_ties.proofs.Effects.{IsSound, is_drawing, drawn_with, draws_none, draws_join, draws_same, step_draws}
use Rattle.client_ties.proofs.Making.{made_split, made_before, made_notes, run_before, run_after}

abbrev pub is_tame : Act → Bool
is_tame (Noted n) = true
is_tame (Makes t told) = is_drawing t
is_tame (Fails t name) = true
is_tame (Begins tx) = true
is_tame (TakesTurn number notes) = false

pub record Grows (c : ClientState) (acts : List Act) (last : ClientState) : Type 0 where
  pub txs : last.txs ≡ c.txs ++ txs_begun acts
  pub number : last.number ≡ c.number
  pub tame : AllByRecursion (λ a. is_tame a ≡ true) acts
  pub fresh : AllByRecursion (λ (tx : ClientTx). tx.started ≡ false) (txs_begun acts)
  pub desk : (r end : DeskRun) → MadeAtOnce c.number r acts end → IsDeskRun end → Draws (desk_run r) (map (shown_tx c.number) (txs_begun acts)) (desk_run end)

pub all_both : {X : Type 0} (P : X → Type 0) (xs ys : List X) → AllByRecursion P xs → AllByRecursion P ys → AllByRecursion P (xs ++ ys)
all_both P [] ys a b = b
all_both P (x ∷ xs) ys a b = (a.0, all_both P xs ys a.1 b)

-- ---- parts of a run
grows_nothing : (c : ClientState) → Grows c [] c
grows_nothing c = record {
  txs = sym (append-nil c.txs);
  number = refl;
  tame = tt;
  fresh = tt;
  desk = λ r end m run. subst (λ (q : DeskRun). Draws (desk_run r) [] (desk_run q)) (sym m) (draws_none (desk_run r) (desk_run r) refl refl);
}

grows_noted : (c : ClientState) (n : Note) → Grows c (Noted n ∷ []) c
grows_noted c n = record {
  txs = sym (append-nil c.txs);
  number = refl;
  tame = (refl, tt);
  fresh = tt;
  desk = λ r end m run. subst (λ (q : DeskRun). Draws (desk_run r) [] (desk_run q)) (sym m) (draws_none (desk_run r) (desk_run r) refl refl);
}

grows_joined : (a b c : ClientState) (xs ys : List Act) → Grows a xs b → Grows b ys c → Grows a (xs ++ ys) c
grows_joined a b c xs ys g h =
    let begun : txs_begun (xs ++ ys) ≡ txs_begun xs ++ txs_begun ys = flat_map-append tx_of_act xs ys in
    record {
      txs = h.txs ∙ ap (λ ts. ts ++ txs_begun ys) g.txs ∙ append_assoc a.txs (txs_begun xs) (txs_begun ys) ∙ ap (λ ts. a.txs ++ ts) (sym begun);
      number = h.number ∙ g.number;
      tame = all_both (λ x. is_tame x ≡ true) xs ys g.tame h.tame;
      fresh = subst (AllByRecursion (λ (tx : ClientTx). tx.started ≡ false)) (sym begun) (all_both (λ (tx : ClientTx). tx.started ≡ false) (txs_begun xs) (txs_begun ys) g.fresh h.fresh);
      desk = λ r end m run.
          let s = made_split a.number r end xs ys m in
          let first = g.desk r s.0 s.1.0 (made_before a.number s.0 end ys s.1.1 run) in
          let second : Draws (desk_run s.0) (map (shown_tx a.number) (txs_begun ys)) (desk_run end) = subst (λ n. MadeAtOnce n s.0 ys end → Draws (desk_run s.0) (map (shown_tx n) (txs_begun ys)) (desk_run end)) g.number (λ k. h.desk s.0 end k run) s.1.1 in
          draws_same (desk_run r) (desk_run end) (map (shown_tx a.number) (txs_begun xs) ++ map (shown_tx a.number) (txs_begun ys)) (map (shown_tx a.number) (txs_begun (xs ++ ys)))
          (sym (map-append (shown_tx a.number) (txs_begun xs) (txs_begun ys)) ∙ ap (map (shown_tx a.number)) (sym begun))
          (draws_join (desk_run r) (desk_run s.0) (desk_run end) (map (shown_tx a.number) (txs_begun xs)) (map (shown_tx a.number) (txs_begun ys)) first second);
    }

-- ---- what a statement asks
-- asking an open or a delete is a step of the desk that draws nothing
abbrev IsAsk : DeskStep → Type 0
IsAsk (step.Asks who name want) = ⊤
IsAsk (step.Takes client) = ⊥
IsAsk (step.Handles client) = ⊥
IsAsk (step.Closes who) = ⊥
IsAsk (step.Creates number who scope m durability) = ⊥
IsAsk (step.Starts client number) = ⊥
IsAsk (step.Leaves client number ended kept) = ⊥
IsAsk step.Faults = ⊥

abbrev AsksRightly : TaskAsk → Type 0
AsksRightly (asks_of_desk t o) = IsAsk t
AsksRightly (closes who) = ⊤
AsksRightly (creates who scope m durability body complete abort) = ⊤
AsksRightly misplaced = ⊤

own_rightly : (c : ClientState) (n : Option ℕ) (f : ConnId → TaskAsk) → ((who : ConnId) → AsksRightly (f who)) → AsksRightly (on_own c n f)
own_rightly c None f all = tt
own_rightly c (Some request) f all = elim (is_clients c request) as (λ b. AsksRightly (if b then f (id_of c request) else misplaced)) [
  | true ↦ all (id_of c request)
  | false ↦ tt
]

asks_rightly : (c : ClientState) (env : Env) (s : Stmt) → AsksRightly (task_ask c env s)
asks_rightly c env (stmt.Open db version upgrade blocked success error version_change closed) = tt
asks_rightly c env (stmt.DeleteDatabase db blocked success error) = tt
asks_rightly c env (stmt.Close conn) = own_rightly c (conn_named env conn) closes (λ who. tt)
asks_rightly c env (stmt.Transaction conn scope m durability body complete abort) = own_rightly c (conn_named env conn) _ (λ who. tt)
asks_rightly c env _ = tt

-- ---- posts
posted_txs : (c : ClientState) (task : Task) → ((with_task c task).txs ≡ c.txs) × ((with_task c task).number ≡ c.number)
posted_txs c task = elim (nat_lt c.posts GREATEST_POST_COUNT) as (λ b. ((if b then record c { tasks = c.tasks ++ task ∷ []; posts = c.posts + 1 } else c).txs ≡ c.txs) × ((if b then record c { tasks = c.tasks ++ task ∷ []; posts = c.posts + 1 } else c).number ≡ c.number)) [
  | true ↦ (refl, refl)
  | false ↦ (refl, refl)
]

pub notes_txs : (notes : List Note) (c : ClientState) → ((with_notes c notes).txs ≡ c.txs) × ((with_notes c notes).number ≡ c.number)
notes_txs [] c = (refl, refl)
notes_txs (note.Line l ∷ notes) c = notes_txs notes c
notes_txs (note.Posted task ∷ notes) c =
    let rest = notes_txs notes (with_task c task) in
    let here = posted_txs c task in
    (rest.0 ∙ here.0, rest.1 ∙ here.1)

module _ (sound : (r : DeskRun) → IsDeskRun r → IsSound (desk_run r)) where
  -- ---- one step that draws
  made_draws : (client : ℕ) (r : DeskRun) (t : DeskStep) → client_of t ≡ Some client → IsDeskRun (with_step r t) → is_drawing t ≡ true → Draws (desk_run r) (drawn_with client (answer_of (desk_run r) t).number) (desk_run (with_step r t))
  made_draws client r t own run is =
      let at = run_before r t run in
      subst (Draws (desk_run r) (drawn_with client (answer_of (desk_run r) t).number)) (sym (run_after r t)) (step_draws (desk_run r) t client (sound r at.0) at.1 is own)

  last_draws : (client : ℕ) (r end : DeskRun) (t : DeskStep) → client_of t ≡ Some client → end ≡ with_step r t → IsDeskRun end → is_drawing t ≡ true → Draws (desk_run r) (drawn_with client (answer_of (desk_run r) t).number) (desk_run end)
  last_draws client r end t own e run is =
      subst (λ (q : DeskRun). Draws (desk_run r) (drawn_with client (answer_of (desk_run r) t).number) (desk_run q)) (sym e) (made_draws client r t own (subst IsDeskRun e run) is)

  -- ---- a statement
  grows_ask : (c : ClientState) (o : OpenAsked) (t : DeskStep) (told : Told) → IsAsk t → Grows c (Makes t told ∷ []) (record c { opens = c.opens ++ o ∷ [] })
  grows_ask c o (step.Asks who name want) told is = record {
    txs = sym (append-nil c.txs);
    number = refl;
    tame = (refl, tt);
    fresh = tt;
    desk = λ r end m run. last_draws c.number r end (step.Asks who name want) m.0 m.1.1 run refl;
  }
  grows_ask c o (step.Takes client) told is = absurd is
  grows_ask c o (step.Handles client) told is = absurd is
  grows_ask c o (step.Closes who) told is = absurd is
  grows_ask c o (step.Creates number who scope m durability) told is = absurd is
  grows_ask c o (step.Starts client number) told is = absurd is
  grows_ask c o (step.Leaves client number ended kept) told is = absurd is
  grows_ask c o step.Faults told is = absurd is

  grows_failed : (c : ClientState) (t : DeskStep) (name : Option ErrorName) → Grows c (Fails t name ∷ []) c
  grows_failed c t name = record {
    txs = sym (append-nil c.txs);
    number = refl;
    tame = (refl, tt);
    fresh = tt;
    desk = λ r end m run. subst (λ (q : DeskRun). Draws (desk_run r) [] (desk_run q)) (sym m.1.1) (draws_none (desk_run r) (desk_run r) refl refl);
  }

  grows_made : (c : ClientState) (t : DeskStep) (told : Told) → is_drawing t ≡ true → ((r : DeskRun) → IsDeskRun (with_step r t) → (answer_of (desk_run r) t).number ≡ None) → Grows c (Makes t told ∷ []) c
  grows_made c t told is none = record {
    txs = sym (append-nil c.txs);
    number = refl;
    tame = (is, tt);
    fresh = tt;
    desk = λ r end m run. draws_same (desk_run r) (desk_run end) (drawn_with c.number (answer_of (desk_run r) t).number) [] (ap (drawn_with c.number) (none r (subst IsDeskRun m.1.1 run))) (last_draws c.number r end t m.0 m.1.1 run is);
  }

  -- what was noted begins nothing
  noted_begin : (notes : List Note) → txs_begun (map Noted notes) ≡ []
  noted_begin [] = refl
  noted_begin (n ∷ notes) = noted_begin notes

  noted_tame : (notes : List Note) → AllByRecursion (λ a. is_tame a ≡ true) (map Noted notes)
  noted_tame [] = tt
  noted_tame (n ∷ notes) = (refl, noted_tame notes)

  grows_created : (c : ClientState) (t : DeskStep) (told : Told) (tx : ClientTx) (first : Note) (notes : List Note) (last : ClientState) → last.txs ≡ c.txs ++ tx ∷ [] → last.number ≡ c.number → tx.started ≡ false → is_drawing t ≡ true
      → ((r : DeskRun) → told ≡ told_by (desk_run r) t → (answer_of (desk_run r) t).number ≡ Some tx.number)
      → Grows c (Makes t told ∷ Begins tx ∷ Noted first ∷ map Noted notes) last
  grows_created c t told tx first notes last txs number fresh is answered =
      let begun : txs_begun (Makes t told ∷ Begins tx ∷ Noted first ∷ map Noted notes) ≡ tx ∷ [] = ap (λ ts. tx ∷ ts) (noted_begin notes) in
      record {
        txs = txs ∙ ap (λ ts. c.txs ++ ts) (sym begun);
        number = number;
        tame = (is, (refl, (refl, noted_tame notes)));
        fresh = subst (AllByRecursion (λ (x : ClientTx). x.started ≡ false)) (sym begun) (fresh, tt);
        desk = λ r end m run.
            draws_same (desk_run r) (desk_run end) (drawn_with c.number (answer_of (desk_run r) t).number) (map (shown_tx c.number) (txs_begun (Makes t told ∷ Begins tx ∷ Noted first ∷ map Noted notes)))
            (ap (drawn_with c.number) (answered r m.1.0) ∙ ap (λ s. record { number = tx.number; client = c.number; started = s } ∷ []) (sym fresh) ∙ ap (map (shown_tx c.number)) (sym begun))
            (last_draws c.number r end t m.0 (made_notes c.number (with_step r t) end notes m.1.1) run is);
      }

  grows_does : (blocks : List Named) (c : ClientState) (env : Env) (s : Stmt) (acts : List Act) (last : ClientState) (refusal : Option ErrorName) → TaskDoes blocks c env s acts last refusal → Grows c acts last
  grows_does blocks c env s acts last refusal (Asked t o told is) = grows_ask c o t told (subst AsksRightly is (asks_rightly c env s))
  grows_does blocks c env s acts last refusal (AskRefused t o name is) = grows_failed c t (Some name)
  grows_does blocks c env s acts last refusal (Closed who told is) = grows_made c (step.Closes who) told refl (λ r run. refl)
  grows_does blocks c env s acts last refusal (ClosedBefore who is) = grows_failed c (step.Closes who) None
  grows_does blocks c env s acts last refusal (Created who scope m durability body complete abort number told schema notes front how tx is number_told schema_told runs made) =
      grows_created c (step.Creates number who scope m durability) told tx (note.Line _) notes (with_tx c tx) refl refl (ap (λ (x : ClientTx). x.started) made) refl
      (λ r e. ap (λ (x : ClientTx). Some x.number) (sym made))
  grows_does blocks c env s acts last refusal (CreateRefused who scope m durability body complete abort number name is) = grows_failed c (step.Creates number who scope m durability) (Some name)
  grows_does blocks c env s acts last refusal (Misplaced is) = grows_nothing c

  -- ---- a run
  grows_goes : (blocks : List Named) (depth : ℕ) (work : RunWork) (r : Run ClientState) (acts : List Act) (last : Run ClientState) (how : RunEnd) → Goes Noted TaskDoes blocks depth work r acts last how → Grows r.world acts last.world
  grows_goes blocks depth work r acts last how (Finished _ _) = grows_nothing r.world
  grows_goes blocks depth work r acts last how (Next _ s ss _ mid _ first rest _ less g h) = grows_joined r.world mid.world last.world first rest (grows_goes blocks depth _ _ first mid _ g) (grows_goes blocks depth _ mid rest last how h)
  grows_goes blocks depth work r acts last how (Stops _ s ss _ _ _ less g) = grows_goes blocks depth _ _ acts last _ g
  grows_goes blocks depth work r acts last how (TooMany _ s ss _ most) = grows_noted r.world threw
  grows_goes blocks depth work r acts last how (Enters _ block _ _ _ _ less g) = grows_goes blocks _ _ r acts last how g
  grows_goes blocks depth work r acts last how (TooDeep _ block _ most) = grows_noted r.world threw
  grows_goes blocks depth work r acts last how (Enough _ times turn block _ most) = grows_nothing r.world
  grows_goes blocks depth work r acts last how (Round _ times turn block _ mid _ first rest _ less g h) = grows_joined r.world mid.world last.world first rest (grows_goes blocks depth _ _ first mid _ g) (grows_goes blocks depth _ mid rest last how h)
  grows_goes blocks depth work r acts last how (Breaks _ times turn block _ _ _ less g) = grows_goes blocks depth _ _ acts last _ g
  grows_goes blocks depth work r acts last how (Says _ x _) = grows_noted r.world (said r.at.env x)
  grows_goes blocks depth work r acts last how (Throws _ _) = grows_noted r.world threw
  grows_goes blocks depth work r acts last how (Posts _ block _) = grows_noted r.world (post_noted block r.at.env)
  grows_goes blocks depth work r acts last how (Sets _ name x _) = grows_nothing r.world
  grows_goes blocks depth work r acts last how (Repeats _ times block _ inner _ _ g) = grows_goes blocks depth _ r acts inner how g
  grows_goes blocks depth work r acts last how (Takes _ block test if_so if_not _ _ _ _ is g) = grows_goes blocks depth _ r acts last how g
  grows_goes blocks depth work r acts last how (Passes _ test if_so if_not _ is) = grows_nothing r.world
  grows_goes blocks depth work r acts last how (Acts _ s _ w _ is d) = grows_does blocks r.world r.at.env s acts w None d
  grows_goes blocks depth work r acts last how (Refuses _ s _ w outs name is d) = grows_joined r.world w w outs (Noted (refusal_noted s name) ∷ []) (grows_does blocks r.world r.at.env s outs w (Some name) d) (grows_noted w (refusal_noted s name))

  -- ---- a block at once
  grows_again : (c : ClientState) (acts : List Act) (mid last : ClientState) → last.txs ≡ mid.txs → last.number ≡ mid.number → Grows c acts mid → Grows c acts last
  grows_again c acts mid last txs number g = record { txs = txs ∙ g.txs; number = number ∙ g.number; tame = g.tame; fresh = g.fresh; desk = g.desk }

  pub grows_now : (blocks : List Named) (c : ClientState) (env : Env) (block : Option ℕ) (acts : List Act) (last : ClientState) → RunsNow blocks c env block acts last → Grows c acts last
  grows_now blocks c env block acts last NoBlock = grows_nothing c
  grows_now blocks c env block acts last (RunsBlock b _ at how goes) =
      grows_again c acts at.world (with_notes at.world (notes_of_acts acts)) (notes_txs (notes_of_acts acts) at.world).0 (notes_txs (notes_of_acts acts) at.world).1 (grows_goes blocks 0 (Block b) _ acts at how goes)

  -- ---- a transaction's end
  grows_first : (c : ClientState) (n : Note) (acts : List Act) (last : ClientState) → Grows c acts last → Grows c (Noted n ∷ acts) last
  grows_first c n acts last g = record { txs = g.txs; number = g.number; tame = (refl, g.tame); fresh = g.fresh; desk = g.desk }

  pub grows_end : (blocks : List Named) (c : ClientState) (number : ℕ) (outcome : Outcome) (kind : ClientTxKind) (acts : List Act) (last : ClientState) → EndsTx blocks c number outcome kind acts last → Grows c acts last
  grows_end blocks c number outcome kind acts last (EndsOwn complete abort env more _ runs) = grows_first c _ more last (grows_now blocks c _ _ more last runs)
  grows_end blocks c number outcome kind acts last EndsUpgrade = grows_noted c _
  grows_end blocks c number outcome kind acts last EndsDeletion = grows_nothing c

  -- ---- an event
  take_number : (d : DeskState) (client : ℕ) (e : ClientEvent) → (told_by d (step.Takes client)).event ≡ Some e → (answer_of d (step.Takes client)).number ≡ number_of_event d (Some e)
  unfolding told_by
  take_number d client e is = ap (number_of_event d) is

  told_number : (d : DeskState) (t : DeskStep) → (told_by d t).number ≡ (answer_of d t).number
  unfolding told_by
  told_number d t = refl

  plain_none : (d : DeskState) (e : ClientEvent) → is_plain_event e ≡ true → number_of_event d (Some e) ≡ None
  plain_none d (event.Upgrade who old new) is = cc
  plain_none d (event.Blocked who old new) is = refl
  plain_none d (event.Success who version) is = refl
  plain_none d (event.Error who name) is = refl
  plain_none d (event.VersionChange who old new) is = cc
  plain_none d (event.Closed who) is = refl
  plain_none d (event.DeleteReady who old) is = cc

  -- an event that begins no transaction, and then what meets it
  grows_taken : (c : ClientState) (e : ClientEvent) (told : Told) (n : Note) (acts : List Act) (last : ClientState) → told.event ≡ Some e → ((d : DeskState) → number_of_event d (Some e) ≡ None)
      → Grows c acts last → Grows c (Makes (step.Takes c.number) told ∷ Noted n ∷ acts) last
  grows_taken c e told n acts last is none g = record {
    txs = g.txs;
    number = g.number;
    tame = (refl, (refl, g.tame));
    fresh = g.fresh;
    desk = λ r end m run.
        let t = step.Takes c.number in
        let at = made_before c.number (with_step r t) end acts m.1.1 run in
        let number : (answer_of (desk_run r) t).number ≡ None = take_number (desk_run r) c.number e (ap (λ (x : Told). x.event) (sym m.1.0) ∙ is) ∙ none (desk_run r) in
        let first = draws_same (desk_run r) (desk_run (with_step r t)) (drawn_with c.number (answer_of (desk_run r) t).number) [] (ap (drawn_with c.number) number) (made_draws c.number r t m.0 at refl) in
        draws_join (desk_run r) (desk_run (with_step r t)) (desk_run end) [] (map (shown_tx c.number) (txs_begun acts)) first (g.desk (with_step r t) end m.1.1 run);
  }

  -- an event that begins one
  grows_begun : (c : ClientState) (told : Told) (tx : ClientTx) (first : Note) (notes : List Note) (last : ClientState) → last.txs ≡ c.txs ++ tx ∷ [] → last.number ≡ c.number → tx.started ≡ false → told.number ≡ Some tx.number
      → Grows c (Makes (step.Takes c.number) told ∷ Begins tx ∷ Noted first ∷ map Noted notes) last
  grows_begun c told tx first notes last txs number fresh is =
      grows_created c (step.Takes c.number) told tx first notes last txs number fresh refl (λ r e. sym (told_number (desk_run r) (step.Takes c.number)) ∙ ap (λ (x : Told). x.number) (sym e) ∙ is)

  handles_none : (c : ClientState) (handled : Told) (mid : ClientState) → mid.number ≡ c.number → Grows mid (Makes (step.Handles c.number) handled ∷ []) mid
  handles_none c handled mid same = grows_made mid (step.Handles c.number) handled refl (λ r run. refl)

  pub grows_event : (blocks : List Named) (c : ClientState) (e : ClientEvent) (told : Told) (acts : List Act) (last : ClientState) → told.event ≡ Some e → Meets blocks told c e acts last → Grows c (Makes (step.Takes c.number) told ∷ acts) last
  grows_event blocks c e told acts last is (MeetsPlain _ o more _ plain found runs) =
      let g = grows_now blocks (after_event_of c o e) _ _ more last runs in
      grows_taken c e told _ more last is (λ d. plain_none d e plain) (record { txs = g.txs; number = g.number; tame = g.tame; fresh = g.fresh; desk = g.desk })
  grows_event blocks c e told acts last is (MeetsChange who old new o more _ handled found runs) =
      let g = grows_now blocks c _ _ more last runs in
      grows_taken c e told _ (more ++ Makes (step.Handles c.number) handled ∷ []) last is (λ d. refl) (grows_joined c last last more (Makes (step.Handles c.number) handled ∷ []) g (handles_none c handled last g.number))
  grows_event blocks c e told acts last is (MeetsChangeClosed who old new o more _ found runs) =
      let g = grows_now blocks c _ _ more last runs in
      grows_taken c e told _ (more ++ Fails (step.Handles c.number) None ∷ []) last is (λ d. refl) (grows_joined c last last more (Fails (step.Handles c.number) None ∷ []) g (grows_failed last (step.Handles c.number) None))
  grows_event blocks c e told acts last is (MeetsUpgrade who old new number schema o notes front how tx found number_told schema_told runs made) =
      let before = with_tx (after_event_of c o e) tx in
      grows_begun c told tx _ notes (with_notes before notes) (notes_txs notes before).0 (notes_txs notes before).1 (ap (λ (x : ClientTx). x.started) made) (number_told ∙ ap (λ (x : ClientTx). Some x.number) (sym made))
  grows_event blocks c e told acts last is (MeetsDeletion who old number o tx found number_told made) =
      grows_begun c told tx _ [] (with_tx c tx) refl refl (ap (λ (x : ClientTx). x.started) made) (number_told ∙ ap (λ (x : ClientTx). Some x.number) (sym made))
