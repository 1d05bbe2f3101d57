-- A session goes on showing its databases.
--     fresh_shown           before any step
--     stays_shown           by what finishes no transaction
--     finish_shown, cancel_shown    by the finish of the one that runs;  of one that never started
use Rattle.std.proofs.Common.{◌≡◌, ℕ, Bool, true, false, ◌&&◌, ◌||◌, nat_eq, if◌then◌else◌, List, [], ◌∷◌, slice_get, Option, Some, None, option_map, is_some, inl, inr, refl, sym, ◌∙◌, ap, subst}
use Rattle.std.specs.Prelude.{⊤}
use Rattle.std.specs.List.{find, AllByRecursion}
use Rattle.std.specs.Cmp.{eq_by_cmp_equiv}
use Rattle.std.specs.Cmp.Lexicographic.{pointwise}
use Rattle.std.specs.FinMap as finite
use Rattle.std.proofs.lemmas.Bool.{cases_Bool}
use Rattle.idb_keys.specs.declared.names.Mode.{Mode}
use Rattle.idb_keys.specs.declared.names.Mode.TheVariants as mode
use Rattle.idb_schema.specs.Schemas.{SchemaData, IsSchema}
use Rattle.idb_calls.specs.Deltas.{DeltaTree, DropDatabase}
use Rattle.idb_calls.specs.declared.traces.Outcome.{Outcome}
use Rattle.idb_calls.specs.declared.traces.Outcome.TheVariants.{Committed, Aborted}
use Rattle.idb_desk.specs.Databases.{database_under}
use Rattle.idb_desk.specs.Desks.{DeskState}
use Rattle.idb_desk.specs.Refusals.{is_allowed, is_committed}
use Rattle.idb_desk.specs.Steps.{after, new_desk, DeskRun, desk_run, with_step, IsDeskRun}
use Rattle.desk_steps.specs.declared.stands.DrawnTx.{DrawnTx}
use Rattle.desk_steps.specs.declared.stands.TxKind.{TxKind}
use Rattle.desk_steps.specs.declared.stands.TxKind.TheVariants as kind
use Rattle.desk_steps.specs.declared.steps.DeskStep.{DeskStep}
use Rattle.desk_steps.specs.declared.steps.DeskStep.TheVariants as step
use Rattle.desk_facts.specs.Databases.{AreOpenable, IsUnfinishedOf, is_schema_named, is_whole_kind, names_the_same, changes_where, changes_database}
use Rattle.desk_facts.proofs.Laws.{opening_databases, step_keeps, upgrade_puts, deletion_removes}
use Rattle.item_changes.specs.Items.{Name, Database, Items, is_same_name, stores_in}
use Rattle.item_changes.specs.Effects.{made_all, applied_all}
use Rattle.item_changes.specs.Scopes.{Scope, Reads, Whole, is_among, share_name, clashes, scopes_conflict, AllWithin, with_stores_among, access_of, seen_by, part_of}
use Rattle.item_changes.proofs.Laws.{names_total, same_name, inside_all, outside_all}
use Rattle.object_stores.specs.Store.{Store}
use Rattle.request_lists.specs.Fronts.{is_upgrade_mode}
use Rattle.request_lists.specs.Placing.{after_rest, after_throw}
use Rattle.list_machine.specs.States.{State, fresh_state, opening_changes}
use Rattle.list_machine.proofs.Laws.{Below}
use Rattle.machine_laws.specs.Keeping.{info_named, Shows, IsState}
use Rattle.machine_laws.proofs.Laws.{KeyLaws, state_fresh, turn_state}
use Rattle.serial_order.specs.FinishEntries.{ScriptedBody, TxBody, Scripted, Deletion, front_left, scope_of_body, did_commit, changes_kept}
use Rattle.serial_order.specs.NumberOrder.{FitsWhole}
use Rattle.serial_order.specs.SerialRuns.{schema_kept, ScriptedRun, RunsOn, NeverStarts}
use Rattle.serial_order.proofs.Laws.{kept_within}
use Rattle.script_statements.specs.declared.script.ScriptSession.{ScriptSession}
use Rattle.script_runs.specs.declared.notes.Note.{Note}
use Rattle.script_handlers.specs.Handling.{Script, ScriptReacts, ScriptWrites}
use Rattle.client_machine.specs.Acts.{Told, Act, Noted, Makes, Fails, Begins, TakesTurn}
use Rattle.client_machine.specs.Answering.{MadeAtOnce}
use Rattle.client_machine.specs.ClientStates.{ClientTxKind, OwnTx, OfUpgrade, OfDeletion, ClientTx, tx_at}
use Rattle.client_ties.proofs.Laws.{is_tame, made_before, run_before, run_after}
use Rattle.session_states.specs.Histories.{ShowsItems}
use Rattle.session_states.specs.Sessions.{SeatNow, SessionNow, fresh_session, with_seat, with_finished, with_fault}
use Rattle.session_states.specs.Telling.{RunningTx}
use Rattle.session_states.specs.UnderWay.{IsInStep}
use Rattle.session_states.specs.Moves.{entry_ran, entry_dropped}
use Rattle.session_facts.specs.Fitting.{FitsPlain, FitsUpgrade, FitsKind, FitsDrawn, IsFitting}
use Rattle.session_facts.specs.Showing.{IsDatabaseOf, AgreesAt, IsShown, IsSoundKept}
use Rattle.session_facts.proofs.Allowing.{drawn_as}
use Rattle.session_facts.proofs.Becoming.{left_same}
use Rattle.session_facts.proofs.Carrying.{OpensWell, sure_at}
use Rattle.session_facts.proofs.Desk.{some_same, same_names, name_itself, find_parts, IsSureDesk}
use Rattle.session_facts.proofs.Lasting.{by_turns, HasAll, Lasts, lasts_turn, VersionNow, version_turn, mode_turn, before_turn}
use Rattle.session_facts.proofs.Seats.{runs_as}
use Rattle.session_facts.proofs.Starting.{kept_in, there_of, whole_part, upgrade_part, fits_whole}
use Rattle.session_facts.proofs.Upgrading.{HasSchema, turn_has}

true_false : {Y : Type 0} → true ≡ false → Y
true_false e = cc

none_some : {X Y : Type 0} (x : X) → None ≡ Some x → Y
none_some x e = cc

-- ---- before any step
module _ (schemas : List SchemaData) (items : Items) (shows : ShowsItems schemas items) (name : Name) where
  begins_so : (o : Option SchemaData) (x : Option Database) → find (is_schema_named name) schemas ≡ o → finite.get items name ≡ x → AgreesAt name o x
  begins_so None None e at = tt
  begins_so None (Some x) e at = let s = shows.each name x at in none_some s.0 (sym e ∙ s.1)
  begins_so (Some s) None e at =
      let h = find_parts (λ (k : SchemaData). is_some (finite.get items k.name) ≡ true) (is_schema_named name) schemas s e shows.only in
      let named : s.name ≡ name = same_names s.name name h.0 in
      true_false (sym h.1 ∙ ap (λ n. is_some (finite.get items n)) named ∙ ap is_some at)
  begins_so (Some s) (Some x) e at =
      let h = shows.each name x at in
      let same : h.0 ≡ s = some_same (sym h.1 ∙ e) in
      let named : s.name ≡ name = same_names s.name name (find_parts (λ (k : SchemaData). ⊤) (is_schema_named name) schemas s e (all_true schemas)).0 in
      subst (λ k. IsDatabaseOf name k x) same (record { sound = h.2.sound; name_is = ap (λ (k : SchemaData). k.name) same ∙ named; version_is = h.2.version; stores = h.2.stores })
    where
      all_true : (ss : List SchemaData) → AllByRecursion (λ (k : SchemaData). ⊤) ss
      all_true [] = tt
      all_true (k ∷ ks) = (tt, all_true ks)

pub fresh_shown : ((schemas : List SchemaData) → desk_run (record { opening = schemas; order = [] }) ≡ new_desk schemas) → (session : ScriptSession) (schemas : List SchemaData) (opening : Items) → AreOpenable schemas → ShowsItems schemas opening → IsShown (fresh_session session.clients schemas opening)
fresh_shown no_step session schemas opening openable shows = record {
  each = λ name. subst (λ o. AgreesAt name o (finite.get opening name)) (sym (ap (λ (d : DeskState). database_under d name) (no_step schemas) ∙ opening_databases schemas openable name))
      (begins_so schemas opening shows name (find (is_schema_named name) schemas) (finite.get opening name) refl refl);
}

-- ---- what finishes no transaction
abbrev pub is_leave_act : Act → Bool
is_leave_act (Makes (step.Leaves client number ended kept) told) = true
is_leave_act _ = false

leaves_not : (d : DeskState) (t : DeskStep) (told : Told) (name : Name) → is_leave_act (Makes t told) ≡ false → changes_database d t name ≡ false
leaves_not d (step.Asks who asked want) told name e = refl
leaves_not d (step.Takes client) told name e = refl
leaves_not d (step.Handles client) told name e = refl
leaves_not d (step.Closes who) told name e = refl
leaves_not d (step.Creates number who scope m durability) told name e = refl
leaves_not d (step.Starts client number) told name e = refl
leaves_not d (step.Leaves client number ended kept) told name e = cc
leaves_not d step.Faults told name e = refl

abbrev pub LeavesNone : List Act → Type 0
LeavesNone acts = AllByRecursion (λ (a : Act). is_leave_act a ≡ false) acts

databases_made : (client : ℕ) (r end : DeskRun) (acts : List Act) (name : Name) → OpensWell r → MadeAtOnce client r acts end → IsDeskRun end → LeavesNone acts → database_under (desk_run end) name ≡ database_under (desk_run r) name
databases_made client r end [] name w m run none = ap (λ (q : DeskRun). database_under (desk_run q) name) m
databases_made client r end (Makes t told ∷ acts) name w m run none =
    let at = run_before r t (made_before client (with_step r t) end acts m.1.1 run) in
    databases_made client (with_step r t) end acts name (record { openable = w.openable; few = w.few }) m.1.1 run none.1
    ∙ ap (λ (d : DeskState). database_under d name) (run_after r t)
    ∙ step_keeps (desk_run r) t name (sure_at r w at.0).orderly at.1 (leaves_not (desk_run r) t told name none.0)
databases_made client r end (Fails t n ∷ acts) name w m run none = databases_made client r end acts name w m.1.1 run none.1
databases_made client r end (Noted n ∷ acts) name w m run none = databases_made client r end acts name w m run none.1
databases_made client r end (Begins tx ∷ acts) name w m run none = databases_made client r end acts name w m run none.1
databases_made client r end (TakesTurn number notes ∷ acts) name w m run none = databases_made client r end acts name w m run none.1

pub tame_leaves : (acts : List Act) → AllByRecursion (λ (a : Act). is_tame a ≡ true) acts → LeavesNone acts
tame_leaves [] all = tt
tame_leaves (a ∷ acts) all = (one a all.0, tame_leaves acts all.1)
  where
    one : (x : Act) → is_tame x ≡ true → is_leave_act x ≡ false
    one (Noted n) e = refl
    one (Makes (step.Asks who name want) told) e = refl
    one (Makes (step.Takes client) told) e = refl
    one (Makes (step.Handles client) told) e = refl
    one (Makes (step.Closes who) told) e = refl
    one (Makes (step.Creates n who scope m durability) told) e = refl
    one (Makes (step.Starts client n) told) e = refl
    one (Makes (step.Leaves client n ended kept) told) e = cc
    one (Makes step.Faults told) e = refl
    one (Fails t name) e = refl
    one (Begins tx) e = refl
    one (TakesTurn other notes) e = refl

pub stays_shown : (now : SessionNow) (client place : ℕ) (seat : SeatNow) (acts : List Act) (r : DeskRun) → OpensWell now.run → MadeAtOnce client now.run acts r → IsDeskRun r → LeavesNone acts → IsShown now → IsShown (with_seat place r seat now)
stays_shown now client place seat acts r w made run none shown = record {
  each = λ name. subst (λ o. AgreesAt name o (finite.get now.items name)) (sym (databases_made client now.run r acts name w made run none)) (shown.each name);
}

-- ---- scopes apart
or_parts : (a b : Bool) → (a || b) ≡ false → (a ≡ false) × (b ≡ false)
or_parts true b e = cc
or_parts false b e = (refl, e)

or_false : (a b : Bool) → a ≡ false → b ≡ false → (a || b) ≡ false
or_false true b e k = cc
or_false false b e k = k

and_false : (a b : Bool) → b ≡ false → (a && b) ≡ false
and_false true b e = e
and_false false b e = refl

shares_none : (names : List Name) → share_name names [] ≡ false
shares_none [] = refl
shares_none (n ∷ ns) = shares_none ns

shares_not : (names : List Name) (q : Name) → is_among names q ≡ false → share_name names (q ∷ []) ≡ false
shares_not [] q e = refl
shares_not (n ∷ ns) q e =
    let parts = or_parts (is_same_name q n) (is_among ns q) e in
    or_false (is_among (q ∷ []) n) (share_name ns (q ∷ [])) (or_false (is_same_name n q) false ((eq_by_cmp_equiv names_total).symm n q ∙ parts.0) refl) (shares_not ns q parts.1)

reads_apart : (m : Mode) (names others : List Name) → is_upgrade_mode m ≡ false → share_name names others ≡ false → clashes (access_of m names) (Reads others) ≡ false
reads_apart mode.ReadOnly names others plain out = refl
reads_apart mode.ReadWrite names others plain out = out
reads_apart mode.VersionChange names others plain out = cc

seen_some : (names : List Name) (o : Option Database) (d : Database) → seen_by (Reads names) o ≡ Some d → (y : Database) × ((o ≡ Some y) × (with_stores_among names y ≡ d))
seen_some names None d e = none_some d e
seen_some names (Some y) d e = (y, (refl, some_same e))

one_among : (q : Name) → is_among (q ∷ []) q ≡ true
one_among q = ap (λ b. b || false) ((eq_by_cmp_equiv names_total).refl q)

-- ---- where every request has run
module _ (below : Below) (laws : KeyLaws) (items : Items) (name : Name) (body : ScriptedBody Script) (turns : List (List Note)) (changes : List DeltaTree) (kept : Option SchemaData)
    (fits : FitsWhole (part_of (scope_of_body (Scripted body)) items) body)
    (run : ScriptedRun ScriptReacts ScriptWrites (part_of (scope_of_body (Scripted body)) items) body turns changes kept false Committed)
    (within : AllWithin (scope_of_body (Scripted body)) changes) where
  abbrev part : Option Database
  part = part_of (scope_of_body (Scripted body)) items

  abbrev old : State Script
  old = fresh_state (front_left body) body.schema part

  abbrev pub new : State Script
  new = run.runs.1.out.new

  old_state : IsState old
  old_state =
      let states = state_fresh laws body.mode body.schema body.names part body.front run.placed fits.schema fits.shows fits.raised in
      elim body.threw as (λ b. IsState (fresh_state (if b then after_throw body.front else after_rest body.front) body.schema part)) [ true ↦ states.1 | false ↦ states.0 ]

  new_state : IsState new
  new_state = by_turns ScriptReacts ScriptWrites IsState (turn_state below laws ScriptReacts ScriptWrites) old new turns run.runs.1.out.goes old_state

  -- the part that its scope names is what its last request left
  part_is : part_of (scope_of_body (Scripted body)) (applied_all items changes) ≡ new.database
  part_is =
      let before : new.before ≡ part = by_turns ScriptReacts ScriptWrites (λ (s : State Script). s.before ≡ part) (λ a b ls t e. before_turn ScriptReacts ScriptWrites part a b ls t e) old new turns run.runs.1.out.goes refl in
      inside_all (scope_of_body (Scripted body)) items changes within ∙ ap (λ ds. made_all ds part) run.runs.1.out.changed ∙ ap (made_all new.changes) (sym before) ∙ new_state.noted.make

  old_mode : old.front.mode ≡ body.mode
  old_mode = (left_same body run.placed).mode

  -- ---- a plain one
  module _ (plain : is_upgrade_mode body.mode ≡ false) (name_is : body.schema.name ≡ name) (x : Database) (at : finite.get items name ≡ Some x) (of : IsDatabaseOf name body.schema x) where
    abbrev Plainly : State Script → Type 0
    Plainly s = IsState s × ((is_upgrade_mode s.front.mode ≡ false) × Lasts body.schema part s)

    none_first : (m : Mode) (s : SchemaData) (there : Option Database) → is_upgrade_mode m ≡ false → HasAll there (made_all (opening_changes m s) there)
    none_first mode.ReadOnly s there e = λ n k. k
    none_first mode.ReadWrite s there e = λ n k. k
    none_first mode.VersionChange s there e = cc

    lasts : Lasts body.schema part new
    lasts =
        let up : is_upgrade_mode old.front.mode ≡ false = ap is_upgrade_mode old_mode ∙ plain in
        let first : Plainly old = (old_state, (up, record { schema_is = refl; all = none_first old.front.mode body.schema part up })) in
        (by_turns ScriptReacts ScriptWrites Plainly
        (λ a b ls t p. (turn_state below laws ScriptReacts ScriptWrites a b ls t p.0, (mode_turn ScriptReacts ScriptWrites a b ls t ∙ p.1.0, lasts_turn ScriptReacts ScriptWrites body.schema part a b ls p.1.0 p.0 t p.1.1)))
        old new turns run.runs.1.out.goes first).1.1

    abbrev last_items : Items
    last_items = applied_all items changes

    -- with stores that its scope doesn't name it reads as before
    read_same : (others : List Name) → share_name body.names others ≡ false → (y : Database) × ((finite.get last_items name ≡ Some y) × (with_stores_among others y ≡ with_stores_among others x))
    read_same others apart =
        let b : Scope = record { database = name; access = Reads others } in
        let clash : scopes_conflict (scope_of_body (Scripted body)) b ≡ false = and_false (is_same_name body.schema.name name) (clashes (access_of body.mode body.names) (Reads others)) (reads_apart body.mode body.names others plain apart) in
        seen_some others (finite.get last_items name) (with_stores_among others x) (outside_all (scope_of_body (Scripted body)) b items changes clash within ∙ ap (seen_by (Reads others)) at)

    module _ (y : Database) (there : finite.get last_items name ≡ Some y) where
      plain_seen : (m : Mode) (names : List Name) → is_upgrade_mode m ≡ false → seen_by (access_of m names) (Some y) ≡ Some (with_stores_among names y)
      plain_seen mode.ReadOnly names e = refl
      plain_seen mode.ReadWrite names e = refl
      plain_seen mode.VersionChange names e = cc

      inside_is : Some (with_stores_among body.names y) ≡ new.database
      inside_is = sym (plain_seen body.mode body.names plain) ∙ ap (seen_by (access_of body.mode body.names)) (sym there ∙ ap (finite.get last_items) (sym name_is)) ∙ part_is

      store_in : (q : Name) → is_among body.names q ≡ true → finite.get y.stores q ≡ finite.get (stores_in new.database) q
      store_in q is = sym (kept_in body.names y q is) ∙ ap (λ o. finite.get (stores_in o) q) inside_is

      store_out : (q : Name) → is_among body.names q ≡ false → finite.get y.stores q ≡ finite.get x.stores q
      store_out q out =
          let r = read_same (q ∷ []) (shares_not body.names q out) in
          let same : r.0 ≡ y = some_same (sym r.1.0 ∙ there) in
          sym (kept_in (q ∷ []) y q (one_among q))
          ∙ ap (λ (d : Database). finite.get d.stores q) (ap (with_stores_among (q ∷ [])) (sym same) ∙ r.1.1)
          ∙ kept_in (q ∷ []) x q (one_among q)

      part_before : part ≡ Some (with_stores_among body.names x)
      part_before = ap (seen_by (access_of body.mode body.names)) (ap (finite.get items) name_is ∙ at) ∙ before_seen body.mode body.names plain
        where
          before_seen : (m : Mode) (names : List Name) → is_upgrade_mode m ≡ false → seen_by (access_of m names) (Some x) ≡ Some (with_stores_among names x)
          before_seen mode.ReadOnly names e = refl
          before_seen mode.ReadWrite names e = refl
          before_seen mode.VersionChange names e = cc

      has_store : (q : Name) → is_some (finite.get x.stores q) ≡ true → is_some (finite.get y.stores q) ≡ true
      has_store q e = elim (cases_Bool (is_among body.names q)) [
        | inl is ↦ ap is_some (store_in q is) ∙ lasts.all q (ap (λ o. is_some (finite.get (stores_in o) q)) part_before ∙ ap is_some (kept_in body.names x q is) ∙ e)
        | inr out ↦ ap is_some (store_out q out) ∙ e
      ]

      named_store : (q : Name) (z : Store) → finite.get y.stores q ≡ Some z → info_named body.schema.entries q ≡ Some z.info
      named_store q z e = elim (cases_Bool (is_among body.names q)) [
        | inl is ↦ ap (λ (s : SchemaData). info_named s.entries q) (sym lasts.schema_is) ∙ new_state.shows.named q z (sym (store_in q is) ∙ e)
        | inr out ↦ of.stores.named q z (sym (store_out q out) ∙ e)
      ]

    pub plain_shown : AgreesAt name (Some body.schema) (finite.get last_items name)
    plain_shown =
        let r = read_same [] (shares_none body.names) in
        let version : r.0.version ≡ x.version = ap (λ (d : Database). d.version) r.1.1 in
        subst (AgreesAt name (Some body.schema)) (sym r.1.0) (record {
          sound = of.sound;
          name_is = of.name_is;
          version_is = of.version_is ∙ sym version;
          stores = record {
            named = named_store r.0 r.1.0;
            database = λ e. refl;
            all = λ e q info i. has_store r.0 r.1.0 q (of.stores.all e q info i);
          };
        })

  -- ---- an upgrade
  module _ (version : ℕ) (there : Option SchemaData) (f : FitsUpgrade there name version body) (sound : IsSchema new.schema) where
    abbrev Upgraded : State Script → Type 0
    Upgraded s = (is_upgrade_mode s.front.mode ≡ true) × (VersionNow version s × HasSchema name version s)

    first_version : (m : Mode) (s : SchemaData) (o : Option Database) → m ≡ mode.VersionChange → option_map (λ (d : Database). d.version) (made_all (opening_changes m s) o) ≡ Some s.version
    first_version mode.ReadOnly s o e = cc
    first_version mode.ReadWrite s o e = cc
    first_version mode.VersionChange s None e = refl
    first_version mode.VersionChange s (Some d) e = refl

    upgraded : Upgraded new
    upgraded =
        let m : old.front.mode ≡ mode.VersionChange = old_mode ∙ f.mode_is in
        let v : body.schema.version ≡ version = ap (λ (s : SchemaData). s.version) f.schema_is in
        let first : Upgraded old = (ap is_upgrade_mode m, (record { is = first_version old.front.mode body.schema part m ∙ ap Some v }, record { name_is = f.name_is; version_is = v })) in
        by_turns ScriptReacts ScriptWrites Upgraded
        (λ a b ls t p. (mode_turn ScriptReacts ScriptWrites a b ls t ∙ p.0, (version_turn ScriptReacts ScriptWrites version a b ls t p.1.0, turn_has ScriptReacts ScriptWrites name version a b ls t p.1.1)))
        old new turns run.runs.1.out.goes first

    shown_as : (o : Option Database) → option_map (λ (d : Database). d.version) o ≡ Some version → Shows true new.schema o → AgreesAt name (Some new.schema) o
    shown_as None e s = none_some version e
    shown_as (Some y) e s = record { sound = sound; name_is = upgraded.1.1.name_is; version_is = upgraded.1.1.version_is ∙ sym (some_same e); stores = s }

    pub upgrade_shown : AgreesAt name (Some new.schema) (finite.get (applied_all items changes) name)
    upgrade_shown =
        let here : finite.get (applied_all items changes) name ≡ new.database = sym (upgrade_part (applied_all items changes) name body f.mode_is f.name_is) ∙ part_is in
        subst (AgreesAt name (Some new.schema)) (sym here)
        (shown_as new.database upgraded.1.0.is (subst (λ b. Shows b new.schema new.database) upgraded.0 new_state.shows))

    pub upgrade_keeps : kept ≡ Some new.schema
    upgrade_keeps = run.runs.1.schema ∙ ap (λ m. schema_kept m new.schema) (old_mode ∙ f.mode_is)

-- ---- a transaction leaves
abbrev deletion_of : Name → TxBody Script
deletion_of name = Deletion name

abbrev Ran : Items → TxBody Script → List (List Note) → List DeltaTree → Option SchemaData → Outcome → Type 0
Ran items body turns changes kept outcome = RunsOn ScriptReacts ScriptWrites (part_of (scope_of_body body) items) body turns changes kept false outcome

module _ (below : Below) (laws : KeyLaws) (items : Items) (d : DeskState) (client number : ℕ) (outcome : Outcome) (kept : Option SchemaData) (name : Name) (drawn : DrawnTx) (sure : IsSureDesk d) (there : IsUnfinishedOf d number name drawn)
    (allowed : is_allowed d (step.Leaves client number outcome kept) ≡ true) (agrees : (q : Name) → AgreesAt q (database_under d q) (finite.get items q)) where
  abbrev left : DeskState
  left = after d (step.Leaves client number outcome kept)

  -- of another name, or where it isn't the finish of an upgrade or a deletion that committed
  desk_same : (q : Name) → (is_committed outcome && (is_whole_kind drawn.kind && pointwise nat_eq name q)) ≡ false → database_under left q ≡ database_under d q
  desk_same q e = step_keeps d (step.Leaves client number outcome kept) q sure.orderly allowed
      (ap (λ o. changes_where d (is_committed outcome) o q) there.drawn ∙ ap (λ o. is_committed outcome && (is_whole_kind drawn.kind && names_the_same q o)) there.name_is ∙ e)

  none_changed : is_committed outcome ≡ false → (q : Name) → database_under left q ≡ database_under d q
  none_changed e q = desk_same q (ap (λ b. b && (is_whole_kind drawn.kind && pointwise nat_eq name q)) e)

  module _ (body : TxBody Script) (changes : List DeltaTree) (own : (scope_of_body body).database ≡ name) (within : AllWithin (scope_of_body body) changes) where
    apart : (q : Name) → pointwise nat_eq name q ≡ false → is_same_name name q ≡ false
    apart q e = elim (cases_Bool (is_same_name name q)) [
      | inl is ↦ true_false (sym (name_itself name) ∙ ap (pointwise nat_eq name) (same_name name q is) ∙ e)
      | inr out ↦ out
    ]

    items_same : (q : Name) → pointwise nat_eq name q ≡ false → finite.get (applied_all items changes) q ≡ finite.get items q
    items_same q out =
        let b : Scope = record { database = q; access = Whole } in
        let clash : scopes_conflict (scope_of_body body) b ≡ false = ap (λ n. is_same_name n q && clashes (scope_of_body body).access Whole) own ∙ ap (λ t. t && clashes (scope_of_body body).access Whole) (apart q out) in
        sym (whole_part (finite.get (applied_all items changes) q)) ∙ outside_all (scope_of_body body) b items changes clash within ∙ whole_part (finite.get items q)

    others_shown : (q : Name) → pointwise nat_eq name q ≡ false → AgreesAt q (database_under left q) (finite.get (applied_all items changes) q)
    others_shown q out =
        subst (λ o. AgreesAt q o (finite.get (applied_all items changes) q)) (sym (desk_same q (ap (λ b. is_committed outcome && (is_whole_kind drawn.kind && b)) out ∙ and_false (is_committed outcome) (is_whole_kind drawn.kind && false) (and_false (is_whole_kind drawn.kind) false refl))))
        (subst (AgreesAt q (database_under d q)) (sym (items_same q out)) (agrees q))

    by_name : AgreesAt name (database_under left name) (finite.get (applied_all items changes) name) → (q : Name) → AgreesAt q (database_under left q) (finite.get (applied_all items changes) q)
    by_name here q = elim (cases_Bool (pointwise nat_eq name q)) [
      | inl is ↦ subst (λ n. AgreesAt n (database_under left n) (finite.get (applied_all items changes) n)) (same_names name q is) here
      | inr out ↦ others_shown q out
    ]

  -- ---- its own database
  aborted_shown : (body : TxBody Script) (changes : List DeltaTree) → is_committed outcome ≡ false → (q : Name) → AgreesAt q (database_under left q) (finite.get items q)
  aborted_shown body changes e q = subst (λ o. AgreesAt q o (finite.get items q)) (sym (none_changed e q)) (agrees q)

module _ (below : Below) (laws : KeyLaws) (items : Items) (d : DeskState) (client number : ℕ) (kept : Option SchemaData) (name : Name) (drawn : DrawnTx) (sure : IsSureDesk d) (there : IsUnfinishedOf d number name drawn)
    (allowed : is_allowed d (step.Leaves client number Committed kept) ≡ true) (agrees : (q : Name) → AgreesAt q (database_under d q) (finite.get items q)) (turns : List (List Note)) (changes : List DeltaTree) where
  abbrev committed : DeskState
  committed = after d (step.Leaves client number Committed kept)

  abbrev IsLeft : Type 0
  IsLeft = (q : Name) → AgreesAt q (database_under committed q) (finite.get (applied_all items changes) q)

  abbrev Here : Type 0
  Here = AgreesAt name (database_under committed name) (finite.get (applied_all items changes) name)

  all_of : (body : TxBody Script) → (scope_of_body body).database ≡ name → AllWithin (scope_of_body body) changes → Here → IsLeft
  all_of body own within here = by_name below laws items d client number Committed kept name drawn sure there allowed agrees body changes own within here

  plain_left : (body : ScriptedBody Script) → drawn.kind ≡ kind.Plain → FitsPlain (database_under d name) name body → FitsWhole (part_of (scope_of_body (Scripted body)) items) body
      → ScriptedRun ScriptReacts ScriptWrites (part_of (scope_of_body (Scripted body)) items) body turns changes kept false Committed → AllWithin (scope_of_body (Scripted body)) changes → Here
  plain_left body is f fits run within =
      let here = there_of name body.schema (finite.get items name) (subst (λ o. AgreesAt name o (finite.get items name)) f.schema_is (agrees name)) in
      let same = desk_same below laws items d client number Committed kept name drawn sure there allowed agrees name (ap (λ k. is_whole_kind k && pointwise nat_eq name name) is) in
      subst (λ o. AgreesAt name o (finite.get (applied_all items changes) name)) (sym (same ∙ f.schema_is))
      (plain_shown below laws items name body turns changes kept fits run within f.mode_is f.name_is here.0 here.1.0 here.1.1)

  upgrade_left : (version : ℕ) (body : ScriptedBody Script) → drawn.kind ≡ kind.Upgrade version → FitsUpgrade (database_under d name) name version body → FitsWhole (part_of (scope_of_body (Scripted body)) items) body → IsSoundKept kept
      → ScriptedRun ScriptReacts ScriptWrites (part_of (scope_of_body (Scripted body)) items) body turns changes kept false Committed → AllWithin (scope_of_body (Scripted body)) changes → Here
  upgrade_left version body is f fits sound run within =
      let last = run.runs.1.out.new.schema in
      let keeps : kept ≡ Some last = upgrade_keeps below laws items name body turns changes kept fits run within version (database_under d name) f (subst IsSoundKept (run.runs.1.schema ∙ ap (λ m. schema_kept m last) ((left_same body run.placed).mode ∙ f.mode_is)) sound) in
      let puts = upgrade_puts d client number Committed last name drawn version sure.orderly there is (subst (λ k. is_allowed d (step.Leaves client number Committed k) ≡ true) keeps allowed) in
      let now : database_under committed name ≡ Some last = ap (λ k. database_under (after d (step.Leaves client number Committed k)) name) keeps ∙ puts.0 in
      subst (λ o. AgreesAt name o (finite.get (applied_all items changes) name)) (sym now)
      (upgrade_shown below laws items name body turns changes kept fits run within version (database_under d name) f (subst IsSoundKept keeps sound))

  deletion_left : (deleted : Name) → drawn.kind ≡ kind.Deletion → deleted ≡ name → changes ≡ DropDatabase deleted ∷ [] → AllWithin (scope_of_body (deletion_of deleted)) changes → Here
  deletion_left deleted is named drops within =
      let gone : finite.get (applied_all items changes) name ≡ None =
      ap (finite.get (applied_all items changes)) (sym named) ∙ sym (whole_part (finite.get (applied_all items changes) deleted))
      ∙ inside_all (scope_of_body (deletion_of deleted)) items changes within ∙ ap (λ ds. made_all ds (part_of (scope_of_body (deletion_of deleted)) items)) drops in
      let removed = deletion_removes d client number Committed kept name drawn sure.orderly there is refl allowed in
      subst (λ o. AgreesAt name o (finite.get (applied_all items changes) name)) (sym removed) (subst (AgreesAt name None) (sym gone) tt)

  -- by what it is
  left_by : (k : TxKind) (own : ClientTxKind) (body : TxBody Script) → drawn.kind ≡ k → FitsKind (database_under d name) name k own body → ((b : ScriptedBody Script) → body ≡ Scripted b → FitsWhole (part_of (scope_of_body body) items) b) → IsSoundKept kept
      → Ran items body turns changes kept Committed → AllWithin (scope_of_body body) changes → IsLeft
  left_by kind.Plain (OwnTx complete abort env) (Scripted body) is f fits sound run within = all_of (Scripted body) f.name_is within (plain_left body is f (fits body refl) run within)
  left_by kind.Plain (OwnTx complete abort env) (Deletion deleted) is f fits sound run within = absurd f
  left_by kind.Plain OfUpgrade body is f fits sound run within = absurd f
  left_by kind.Plain OfDeletion body is f fits sound run within = absurd f
  left_by (kind.Upgrade version) (OwnTx complete abort env) body is f fits sound run within = absurd f
  left_by (kind.Upgrade version) OfUpgrade (Scripted body) is f fits sound run within = all_of (Scripted body) f.name_is within (upgrade_left version body is f (fits body refl) sound run within)
  left_by (kind.Upgrade version) OfUpgrade (Deletion deleted) is f fits sound run within = absurd f
  left_by (kind.Upgrade version) OfDeletion body is f fits sound run within = absurd f
  left_by kind.Deletion (OwnTx complete abort env) body is f fits sound run within = absurd f
  left_by kind.Deletion OfUpgrade body is f fits sound run within = absurd f
  left_by kind.Deletion OfDeletion (Scripted body) is f fits sound run within = absurd f
  left_by kind.Deletion OfDeletion (Deletion deleted) is f fits sound run within = all_of (Deletion deleted) f within (deletion_left deleted is f run.2.1 within)

-- ---- in the session
module _ (below : Below) (laws : KeyLaws) (session : ScriptSession) (opening : Items) (now : SessionNow) (place : ℕ) (before seat : SeatNow) (r : DeskRun) (fitting : IsFitting now) (shown : IsShown now) (w : OpensWell now.run) (at : slice_get now.seats place ≡ Some before) where
  -- the databases after it left, and what its client did then
  left_here : (number : ℕ) (outcome : Outcome) (kept : Option SchemaData) (told : Told) (acts : List Act) (next : Items) → MadeAtOnce before.client.number now.run (Makes (step.Leaves before.client.number number outcome kept) told ∷ acts) r → IsDeskRun r → LeavesNone acts
      → ((q : Name) → AgreesAt q (database_under (after (desk_run now.run) (step.Leaves before.client.number number outcome kept)) q) (finite.get next q))
      → (q : Name) → AgreesAt q (database_under (desk_run r) q) (finite.get next q)
  left_here number outcome kept told acts next made run none agrees q =
      let t = step.Leaves before.client.number number outcome kept in
      let same = databases_made before.client.number (with_step now.run t) r acts q (record { openable = w.openable; few = w.few }) made.1.1 run none ∙ ap (λ (d : DeskState). database_under d q) (run_after now.run t) in
      subst (λ o. AgreesAt q o (finite.get next q)) (sym same) (agrees q)

  pub finish_shown : (t : RunningTx) (u : IsInStep session opening now (Some t)) (tx : ClientTx) (outcome : Outcome) (kept : Option SchemaData) (changes : List DeltaTree) (told : Told) (acts : List Act)
      → MadeAtOnce before.client.number now.run (Makes (step.Leaves before.client.number t.number outcome kept) told ∷ acts) r → IsDeskRun r → LeavesNone acts → tx_at before.client t.number ≡ Some tx
      → Ran now.items t.body t.turns changes kept outcome → IsSoundKept kept → IsShown (with_finished (entry_ran t changes kept outcome) (with_seat place r seat now))
  finish_shown t u tx outcome kept changes told acts made run none found ran sound = record { each = left_here t.number outcome kept told acts (applied_all now.items (changes_kept (entry_ran t changes kept outcome))) made run none (by_outcome outcome made ran (kept_within ScriptReacts ScriptWrites now.items (entry_ran t changes kept outcome) ran)) }
    where
      h : FitsDrawn (desk_run now.run) before.client.number tx × (tx.number ≡ t.number)
      h = drawn_as session opening now place before fitting at t.number tx found

      sure : IsSureDesk (desk_run now.run)
      sure = sure_at now.run w u.desk

      there : IsUnfinishedOf (desk_run now.run) t.number h.0.name h.0.drawn
      there = subst (λ n. IsUnfinishedOf (desk_run now.run) n h.0.name h.0.drawn) h.1 h.0.there

      fits : FitsKind (database_under (desk_run now.run) h.0.name) h.0.name h.0.drawn.kind tx.kind t.body
      fits = subst (FitsKind (database_under (desk_run now.run) h.0.name) h.0.name h.0.drawn.kind tx.kind) (runs_as session opening now t u place before tx at found).0 h.0.fits

      whole : (b : ScriptedBody Script) → t.body ≡ Scripted b → FitsWhole (part_of (scope_of_body t.body) now.items) b
      whole b is = subst (λ x. FitsWhole (part_of (scope_of_body x) now.items) b) (sym is) (fits_whole session opening now (Some t) place before t.number tx b u fitting shown at found ((runs_as session opening now t u place before tx at found).0 ∙ is))

      by_outcome : (o : Outcome) → MadeAtOnce before.client.number now.run (Makes (step.Leaves before.client.number t.number o kept) told ∷ acts) r → Ran now.items t.body t.turns changes kept o → AllWithin (scope_of_body t.body) (changes_kept (entry_ran t changes kept o))
          → (q : Name) → AgreesAt q (database_under (after (desk_run now.run) (step.Leaves before.client.number t.number o kept)) q) (finite.get (applied_all now.items (changes_kept (entry_ran t changes kept o))) q)
      by_outcome Committed m go within =
          let allowed = (run_before now.run (step.Leaves before.client.number t.number Committed kept) (made_before before.client.number (with_step now.run (step.Leaves before.client.number t.number Committed kept)) r acts m.1.1 run)).1 in
          left_by below laws now.items (desk_run now.run) before.client.number t.number kept h.0.name h.0.drawn sure there allowed shown.each t.turns changes h.0.drawn.kind tx.kind t.body refl fits whole sound go within
      by_outcome (Aborted error doubt) m go within =
          let allowed = (run_before now.run (step.Leaves before.client.number t.number (Aborted error doubt) kept) (made_before before.client.number (with_step now.run (step.Leaves before.client.number t.number (Aborted error doubt) kept)) r acts m.1.1 run)).1 in
          aborted_shown below laws now.items (desk_run now.run) before.client.number t.number (Aborted error doubt) kept h.0.name h.0.drawn sure there allowed shown.each t.body changes refl

  -- one that never started leaves nothing
  never_committed : (body : TxBody Script) (turns : List (List Note)) (by_host : Bool) (outcome : Outcome) → NeverStarts ScriptReacts ScriptWrites body turns [] None by_host outcome → is_committed outcome ≡ false
  never_committed (Scripted body) turns by_host outcome never = ap is_committed never.cancelled.ended
  never_committed (Deletion name) turns by_host outcome never = ap is_committed never.cancelled.2

  nothing_kept : (items : Items) (b : Bool) → applied_all items (if b then [] else []) ≡ items
  nothing_kept items true = refl
  nothing_kept items false = refl

  pub cancel_shown : (running : Option RunningTx) (u : IsInStep session opening now running) (number : ℕ) (tx : ClientTx) (by_host : Bool) (outcome : Outcome) (turns : List (List Note)) (told : Told) (acts : List Act)
      → MadeAtOnce before.client.number now.run (Makes (step.Leaves before.client.number number outcome None) told ∷ acts) r → IsDeskRun r → LeavesNone acts → tx_at before.client number ≡ Some tx
      → NeverStarts ScriptReacts ScriptWrites tx.body turns [] None by_host outcome → IsShown (with_finished (record (entry_dropped number tx.body turns outcome) { by_host = by_host }) (with_seat place r seat now))
  cancel_shown running u number tx by_host outcome turns told acts made run none found never =
      let f = drawn_as session opening now place before fitting at number tx found in
      let d = desk_run now.run in
      let t = step.Leaves before.client.number number outcome None in
      let allowed = (run_before now.run t (made_before before.client.number (with_step now.run t) r acts made.1.1 run)).1 in
      let there : IsUnfinishedOf d number f.0.name f.0.drawn = subst (λ n. IsUnfinishedOf d n f.0.name f.0.drawn) f.1 f.0.there in
      let agrees = aborted_shown below laws now.items d before.client.number number outcome None f.0.name f.0.drawn (sure_at now.run w u.desk) there allowed shown.each tx.body [] (never_committed tx.body turns by_host outcome never) in
      record {
        each = left_here number outcome None told acts (applied_all now.items (changes_kept (entry_dropped number tx.body turns outcome))) made run none
            (λ q. subst (λ next. AgreesAt q (database_under (after d t) q) (finite.get next q)) (sym (nothing_kept now.items (did_commit outcome))) (agrees q));
      }

-- ---- the host is faulted
pub faults_shown : (now : SessionNow) → OpensWell now.run → IsShown now → IsDeskRun (with_step now.run step.Faults) → IsShown (with_fault now)
faults_shown now w shown run = record {
  each = λ q.
      let at = run_before now.run step.Faults run in
      let same = ap (λ (d : DeskState). database_under d q) (run_after now.run step.Faults) ∙ step_keeps (desk_run now.run) step.Faults q (sure_at now.run w at.0).orderly at.1 refl in
      subst (λ o. AgreesAt q o (finite.get now.items q)) (sym same) (shown.each q);
}
