-- What a statement did in an office, from what its parts did.
--     did_ask, did_close, did_create        an open or a delete;  a close;  a transaction
--     did_nothing           what is misplaced
use Rattle.std.proofs.Common.{◌≡◌, ℕ, Bool, true, false, inl, inr, List, [], ◌∷◌, ◌++◌, map, if◌then◌else◌, Option, Some, None, refl, sym, ap, ◌∙◌, subst}
use Rattle.std.specs.Prelude.{Result, Ok, Err, IfOk, ◌==◌, ◌&&◌, is_none}
use Rattle.std.proofs.lemmas.Bool.Decides.{eqb_tells}
use Rattle.std.proofs.lemmas.List.{append-nil}
use Rattle.item_changes.specs.Items.{Name}
use Rattle.idb_keys.specs.declared.names.ErrorName.{ErrorName}
use Rattle.idb_keys.specs.declared.names.ErrorName.TheVariants.{InvalidStateError}
use Rattle.idb_keys.specs.declared.names.Mode.{Mode}
use Rattle.idb_keys.specs.declared.names.Durability.{Durability}
use Rattle.name_queues.specs.declared.ids.ConnId.{ConnId}
use Rattle.name_queues.specs.declared.asks.Wants.{Wants}
use Rattle.connection_queues.specs.Machine.{schema_of}
use Rattle.idb_schema.specs.Schemas.{SchemaData}
use Rattle.desk_steps.specs.declared.steps.DeskStep.TheVariants as step
use Rattle.idb_desk.specs.Desks.{DeskState}
use Rattle.idb_desk.specs.Refusals.{is_allowed, refusal_of_step, refusal_of_ask, refusal_of_create}
use Rattle.idb_desk.specs.Steps.{DeskRun, desk_run, with_step}
use Rattle.report_lines.specs.declared.lines.Line.TheVariants as line
use Rattle.script_statements.specs.declared.script.Block.{Block as Named}
use Rattle.script_statements.specs.declared.statement.Stmt.{Stmt}
use Rattle.script_runs.specs.declared.environments.Env.{Env}
use Rattle.script_runs.specs.declared.notes.Note.{Note}
use Rattle.script_runs.specs.declared.notes.Note.TheVariants as note
use Rattle.client_machine.specs.Acts.{Noted, Makes, Fails, Begins, notes_of_acts}
use Rattle.client_machine.specs.Answering.{told_by, MadeAtOnce}
use Rattle.client_machine.specs.ClientStates.{OpenAsked, ClientTx, ClientState, is_clients, id_of, next_request, with_open, with_tx}
use Rattle.client_machine.specs.TaskRuns.{TaskAsk, asks_of_desk, closes, creates, misplaced, on_own, task_ask, TaskDoes, Asked, AskRefused, Closed, ClosedBefore, Created, CreateRefused, Misplaced}
use Rattle.client_seats.specs.Seating.{IsSeated, ask_step}
use Rattle.client_seats.proofs.Laws.{seat_asked, seat_taken, seat_drew}
use Rattle.task_statements.specs.declared.creating.TxAsked.{TxAsked}
use Rattle.task_statements.specs.Doing.{DidInto, own_conn, scope_asked, create_step, AsksInto, TookAsk, RefusedAsk, ClosesInto, TookClose, LeftClose, BeginsInto, CreatesInto, TookCreate, RefusedCreate}

pub in_ok : {T E : Type 0} {P Q : T → Type 0} (r : Result T E) → ((x : T) → P x → Q x) → IfOk r P → IfOk r Q
in_ok (Ok x) f h = f x h
in_ok (Err e) f h = tt

-- ---- the connection that is named
pub own_is : (c : ClientState) (n : Option ℕ) (f : ConnId → TaskAsk) (who : ConnId) → own_conn c n ≡ Some who → on_own c n f ≡ f who
own_is c None f who e = cc
own_is c (Some request) f who e = split (is_clients c request) e
  where
    split : (b : Bool) → (if b then Some (id_of c request) else None) ≡ Some who → (if b then f (id_of c request) else misplaced) ≡ f who
    split true k = ap f (some k)
      where
        some : {x y : ConnId} → Some x ≡ Some y → x ≡ y
        some k = cc
    split false k = cc

pub own_none : (c : ClientState) (n : Option ℕ) (f : ConnId → TaskAsk) → own_conn c n ≡ None → on_own c n f ≡ misplaced
own_none c None f e = refl
own_none c (Some request) f e = split (is_clients c request) e
  where
    split : (b : Bool) → (if b then Some (id_of c request) else None) ≡ None → (if b then f (id_of c request) else misplaced) ≡ misplaced
    split true k = cc
    split false k = refl

pub own_client : (c : ClientState) (n : Option ℕ) (who : ConnId) → own_conn c n ≡ Some who → who.client ≡ c.number
own_client c None who e = cc
own_client c (Some request) who e = split (is_clients c request) e
  where
    split : (b : Bool) → (if b then Some (id_of c request) else None) ≡ Some who → who.client ≡ c.number
    split true k = ap (λ (x : ConnId). x.client) (sym (some k))
      where
        some : {x y : ConnId} → Some x ≡ Some y → x ≡ y
        some k = cc
    split false k = cc

-- ---- opens and deletes
ask_not : (d : DeskState) (who : ConnId) (name : List ℕ) (want : Wants) (e : ErrorName) → refusal_of_ask d who want ≡ Some e → is_allowed d (step.Asks who name want) ≡ false
ask_not d who name want e k = rw k refl

pub did_ask : (blocks : List Named) (c : ClientState) (r : DeskRun) (new : ClientState) (last : DeskRun) (env : Env) (s : Stmt) (o : OpenAsked) (want : Wants) (refusal : Option ErrorName) (notes : List Note)
    → task_ask c env s ≡ asks_of_desk (ask_step c o want) o → AsksInto c r want o new last refusal → DidInto blocks c r env s notes new last refusal notes
did_ask blocks c r new last env s o want refusal notes is (TookAsk e f) =
    let told = told_by (desk_run r) (ask_step c o want) in
    record {
      outs = Makes (ask_step c o want) told ∷ [];
      did = record {
        did = subst (λ x. TaskDoes blocks c env s (Makes (ask_step c o want) told ∷ []) x None) (sym e) (Asked (ask_step c o want) o told is);
        made = (refl, (refl, f));
        number = ap (λ (c : ClientState). c.number) e;
        same = refl;
      };
      lines = sym (append-nil notes);
    }
did_ask blocks c r new last env s o want refusal notes is (RefusedAsk name e f g) = record {
  outs = Fails (ask_step c o want) (Some name) ∷ [];
  did = record {
    did = subst (λ x. TaskDoes blocks c env s (Fails (ask_step c o want) (Some name) ∷ []) x (Some name)) (sym e) (AskRefused (ask_step c o want) o name is);
    made = (ask_not (desk_run r) _ o.name want name g, (sym g, f));
    number = ap (λ (c : ClientState). c.number) e;
    same = refl;
  };
  lines = sym (append-nil notes);
}

pub ask_is : (c : ClientState) (o : OpenAsked) (want : Wants) (request : ℕ) (name : Name) → request ≡ next_request c → name ≡ o.name → step.Asks (record { client = c.number; request = request }) name want ≡ ask_step c o want
ask_is c o want request name e k = λ i. step.Asks (record { client = c.number; request = e i }) (k i) want

pub asked_seated : (c new : ClientState) (r last : DeskRun) (o : OpenAsked) (want : Wants) → IsSeated c r → refusal_of_step (desk_run r) (ask_step c o want) ≡ None → new ≡ with_open c o → last ≡ with_step r (ask_step c o want) → IsSeated new last
asked_seated c new r last o want s none e f = subst (λ x. IsSeated x last) (sym e) (subst (λ q. IsSeated (with_open c o) q) (sym f) (seat_asked c r o want s (seat_taken c r o want s none)))

-- ---- closes
pub did_close : (blocks : List Named) (c : ClientState) (r : DeskRun) (last : DeskRun) (env : Env) (s : Stmt) (who : ConnId) (notes : List Note)
    → task_ask c env s ≡ closes who → who.client ≡ c.number → ClosesInto r who last → DidInto blocks c r env s notes c last None notes
did_close blocks c r last env s who notes is own (TookClose e) =
    let told = told_by (desk_run r) (step.Closes who) in
    record {
      outs = Makes (step.Closes who) told ∷ [];
      did = record { did = Closed who told is; made = (ap Some own, (refl, e)); number = refl; same = refl };
      lines = sym (append-nil notes);
    }
did_close blocks c r last env s who notes is own (LeftClose e out) = record {
  outs = Fails (step.Closes who) None ∷ [];
  did = record { did = ClosedBefore who is; made = (out, (refl, e)); number = refl; same = refl };
  lines = sym (append-nil notes);
}

-- ---- transactions
pub made_noted : (client : ℕ) (r last : DeskRun) (notes : List Note) → last ≡ r → MadeAtOnce client r (map Noted notes) last
made_noted client r last [] e = e
made_noted client r last (n ∷ notes) e = made_noted client r last notes e

pub noted_notes : (notes : List Note) → notes_of_acts (map Noted notes) ≡ notes
noted_notes [] = refl
noted_notes (n ∷ notes) = ap (λ ns. n ∷ ns) (noted_notes notes)

told_number : (d : DeskState) (number : ℕ) (who : ConnId) (scope : List (List ℕ)) (m : Mode) (durability : Durability) → (told_by d (step.Creates number who scope m durability)).number ≡ Some number
unfolding told_by
told_number d number who scope m durability = refl

told_schema : (d : DeskState) (number : ℕ) (who : ConnId) (scope : List (List ℕ)) (m : Mode) (durability : Durability) → (told_by d (step.Creates number who scope m durability)).schema ≡ schema_of d.queues who
unfolding told_by
told_schema d number who scope m durability = refl

create_not : (d : DeskState) (number : ℕ) (who : ConnId) (scope : List (List ℕ)) (m : Mode) (durability : Durability) (e : ErrorName) → refusal_of_create d who scope m ≡ Some e → is_allowed d (step.Creates number who scope m durability) ≡ false
create_not d number who scope m durability e k = rw k refl

pub did_create : (blocks : List Named) (c : ClientState) (r : DeskRun) (new : ClientState) (last : DeskRun) (env : Env) (s : Stmt) (asked : TxAsked) (refusal : Option ErrorName) (before after : List Note)
    → task_ask c env s ≡ creates asked.who (scope_asked asked) asked.mode asked.durability asked.body asked.complete asked.abort → asked.who.client ≡ c.number
    → CreatesInto blocks c r env asked before new last refusal after → DidInto blocks c r env s before new last refusal after
did_create blocks c r new last env s asked refusal before after is own (TookCreate schema tx _ has b e f) =
    let d = desk_run r in
    let t = create_step r asked in
    let told = told_by d t in
    record {
      outs = Makes t told ∷ Begins tx ∷ Noted (note.Line (line.Created d.board.scopes.next asked.mode asked.durability)) ∷ map Noted b.notes;
      did = record {
        did = subst (λ x. TaskDoes blocks c env s (Makes t told ∷ Begins tx ∷ Noted (note.Line (line.Created d.board.scopes.next asked.mode asked.durability)) ∷ map Noted b.notes) x None) (sym e)
            (Created asked.who (scope_asked asked) asked.mode asked.durability asked.body asked.complete asked.abort d.board.scopes.next told schema b.notes b.front b.how tx is
            (told_number d d.board.scopes.next asked.who (scope_asked asked) asked.mode asked.durability) (told_schema d d.board.scopes.next asked.who (scope_asked asked) asked.mode asked.durability ∙ has) b.runs b.made);
        made = (ap Some own, (refl, made_noted c.number (with_step r t) last b.notes f));
        number = ap (λ (c : ClientState). c.number) e;
        same = refl;
      };
      lines = b.lines ∙ ap (λ ns. before ++ note.Line (line.Created d.board.scopes.next asked.mode asked.durability) ∷ ns) (sym (noted_notes b.notes));
    }
did_create blocks c r new last env s asked refusal before after is own (RefusedCreate name e f g) = record {
  outs = Fails (create_step r asked) (Some name) ∷ [];
  did = record {
    did = subst (λ x. TaskDoes blocks c env s (Fails (create_step r asked) (Some name) ∷ []) x (Some name)) (sym e)
        (CreateRefused asked.who (scope_asked asked) asked.mode asked.durability asked.body asked.complete asked.abort (desk_run r).board.scopes.next name is);
    made = (create_not (desk_run r) _ asked.who (scope_asked asked) asked.mode asked.durability name g, (sym g, f));
    number = ap (λ (c : ClientState). c.number) e;
    same = refl;
  };
  lines = sym (append-nil before);
}

itself : (n : ℕ) → (n == n) ≡ true
itself n = elim (eqb_tells n n) [ inl p ↦ p.0 | inr p ↦ absurd (p.1 refl) ]

both_true : (a b : Bool) → a ≡ true → b ≡ true → a && b ≡ true
both_true a b e k = rw (e, k) refl

-- ---- a transaction that is created
module _ (r : DeskRun) (asked : TxAsked) (number : ℕ) (scope : List Name) (is : number ≡ (desk_run r).board.scopes.next) (names : scope ≡ scope_asked asked) where
  create_is : step.Creates number asked.who scope asked.mode asked.durability ≡ create_step r asked
  create_is = λ i. step.Creates (is i) asked.who (names i) asked.mode asked.durability

  -- m: the client once it has room
  module _ (blocks : List Named) (c m : ClientState) (last : DeskRun) (env : Env) (schema : SchemaData) (tx : ClientTx) (txs : List ClientTx) (before after : List Note)
      (begins : BeginsInto blocks number schema env asked before tx after) (same : m ≡ c) (put : txs ≡ m.txs ++ tx ∷ []) (made : last ≡ with_step r (step.Creates number asked.who scope asked.mode asked.durability)) where
    with_it : record m { txs = txs } ≡ with_tx c tx
    with_it = ap (λ ts. record m { txs = ts }) put ∙ ap (λ (x : ClientState). with_tx x tx) same

    stepped : last ≡ with_step r (create_step r asked)
    stepped = made ∙ ap (with_step r) create_is

    pub created_all : schema_of (desk_run r).queues asked.who ≡ Some schema → CreatesInto blocks c r env asked before (record m { txs = txs }) last None after
    created_all has = TookCreate schema tx after has (subst (λ n. BeginsInto blocks n schema env asked before tx after) is begins) with_it stepped

    pub created_seated : IsSeated c r → refusal_of_step (desk_run r) (create_step r asked) ≡ None → IsSeated (record m { txs = txs }) last
    created_seated s none =
        let allowed : is_allowed (desk_run r) (create_step r asked) ≡ true = both_true _ _ (ap is_none none) (itself (desk_run r).board.scopes.next) in
        let drawn : Some (desk_run r).board.scopes.next ≡ Some tx.number = ap Some (sym is ∙ sym (ap (λ (x : ClientTx). x.number) begins.made)) in
        subst (λ x. IsSeated x last) (sym with_it) (subst (λ q. IsSeated (with_tx c tx) q) (sym stepped) (seat_drew c r (create_step r asked) tx s allowed drawn))

pub did_nothing : (blocks : List Named) (c : ClientState) (r : DeskRun) (env : Env) (s : Stmt) (notes : List Note) → task_ask c env s ≡ misplaced → DidInto blocks c r env s notes c r (Some InvalidStateError) notes
did_nothing blocks c r env s notes is = record {
  outs = [];
  did = record { did = Misplaced is; made = refl; number = refl; same = refl };
  lines = sym (append-nil notes);
}
