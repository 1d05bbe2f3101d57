-- What the state of a transaction meets through turns.
--     state_fresh           as its body left it
--     turn_state            after a turn that goes on
--     run_state             after any number of these
use Rattle.std.proofs.Common.{◌≡◌, Bool, true, false, if◌then◌else◌, List, [], ◌∷◌, Option, Some, None, option_map, refl, sym, ◌∙◌, ap, subst}
use Rattle.std.specs.Prelude.{⊤, unwrap_or, not, ◌&&◌}
use Rattle.std.specs.declared.cmp.Ordering.{Ordering}
use Rattle.std.specs.declared.cmp.Ordering.TheVariants.{Less, Equal, Greater}
use Rattle.std.specs.Ordering.{nat_cmp, is_lt, is_eq}
use Rattle.std.specs.Cmp.Lexicographic.{slice_cmp}
use Rattle.clone_values.specs.Names.{is_rising, rises_after}
use Rattle.idb_keys.specs.declared.names.Mode.{Mode}
use Rattle.std.specs.Option.{option_and_then}
use Rattle.std.specs.List.{find}
use Rattle.std.specs.FinMap as finite
use Rattle.clone_values.specs.Tree.{Tree, undefined}
use Rattle.clone_values.specs.KeyTree.{KeyTree}
use Rattle.clone_values.specs.View.{tree_of}
use Rattle.clone_values.specs.declared.value_types.Value.{Value}
use Rattle.idb_keys.specs.KeyRange.{range_of_one}
use Rattle.idb_keys.specs.declared.names.ErrorName.TheVariants.{AbortError, QuotaExceededError}
use Rattle.idb_schema.specs.declared.definitions.StoreInfo.{StoreInfo}
use Rattle.idb_schema.specs.declared.entries.StoreEntry.{StoreEntry}
use Rattle.idb_schema.specs.declared.identities.StoreId.{StoreId}
use Rattle.idb_schema.specs.Schemas.{SchemaData, store_of, entry_names, IsSchema}
use Rattle.index_tables.specs.Rows.{RowTree}
use Rattle.idb_calls.specs.declared.calls.Call.{Call}
use Rattle.idb_calls.specs.declared.calls.Call.TheVariants.{Add, Put, Get, GetKey, Count, GetAll, GetAllKeys, Delete, Clear, OpenCursor, OpenKeyCursor, Continue, ContinuePrimaryKey, Advance, Update, DeleteHere}
use Rattle.idb_calls.specs.declared.events.Event.{Event}
use Rattle.item_changes.specs.Store.{Store}
use Rattle.item_changes.specs.Storing.{Entry, entry_for, is_refused}
use Rattle.item_changes.specs.Items.{Name, Database, is_same_name}
use Rattle.item_changes.specs.Effects.{made_all}
use Rattle.item_changes.proofs.Laws.{names_total, same_name}
use Rattle.list_machine.specs.StoreNames.{StoreNames}
use Rattle.list_machine.specs.Runs.{Ran, storing, deleting, entry_run, stored_run, refused_run}
use Rattle.list_machine.specs.Leaving.{with_named_store}
use Rattle.request_lists.specs.declared.entries.FrontCursor.{FrontCursor}
use Rattle.request_lists.specs.declared.entries.ListEntry.{ListEntry}
use Rattle.request_lists.specs.declared.entries.ListEntry.TheVariants.{Request, Turn as CursorTurn, Change}
use Rattle.request_lists.specs.declared.handlers.HandlerEnd.{HandlerEnd}
use Rattle.request_lists.specs.Fronts.{Front, new_front, cursor_of, is_upgrade, is_upgrade_mode, is_finished_phase}
use Rattle.request_lists.specs.Placing.{Becomes, Stays, Places, Changes, Commits, Aborts, after_call, after_rest, after_throw, aborted_by}
use Rattle.list_machine.specs.declared.steps.Step.TheVariants.{Did}
use Rattle.list_machine.specs.States.{State, fresh_state, opening_changes}
use Rattle.list_machine.specs.Requests.{StoreHere, store_under, store_asked, Work, work_here, work_of, changing}
use Rattle.list_machine.specs.Entries.{resulted, came, came_unless, done_on, done_by_work, done_by_request, done_by_turn, only_answered, names_of_store, with_done, with_turn_taken, ran_change, deltas_of_call, stop_of_change, is_past_limit, bytes_to_store}
use Rattle.list_machine.specs.Machine.{Reacts, Writes, Handles, lent, returned, Turn, GoesOn, Begins, Goes, with_entries}
use Rattle.list_machine.specs.Noting.{Noted, IsRaised, CanTake, IsChecked, Runnable, FirstRunnable}
use Rattle.machine_laws.specs.Keeping.{info_named, AreApart, Shows, TakesValue, IsCheckedBy, IsPlaced, Waits, IsState}
use Rattle.list_machine.proofs.Laws.{Below, stands, both_true, noted_fresh, turn_noted, AllCame, limit_all, unless_all, turn_all}
use Rattle.machine_laws.proofs.Checking.{KeyLaws, and_both, becomes_waits}
use Rattle.machine_laws.proofs.Schemas.{has_that_id, found_named, either_way, when_false}
use Rattle.machine_laws.proofs.Upgrading.{shows_changed, upgrade_step}

-- ---- a request leaves the definition of its store
run_info : (named : StoreNames) (x : Store) (add : Bool) (o : Option Entry) → (entry_run named x add o).store.info ≡ x.info
run_info named x add None = refl
run_info named x add (Some e) = elim (is_refused x.info.indexes x.records add e.key e.value) as (λ b. (if b then refused_run x else stored_run named x e).store.info ≡ x.info) [ true ↦ refl | false ↦ refl ]

storing_info : (named : StoreNames) (x : Store) (value : Tree) (key : Option KeyTree) (add : Bool) → (storing named x value key add).store.info ≡ x.info
storing_info named x value key add = run_info named x add (entry_for x.info.path x.info.auto x.current value key)

abbrev KeepsInfo : Option Work → Type 0
KeepsInfo None = ⊤
KeepsInfo (Some work) = (named : StoreNames) (x : Store) → (work.run named x).store.info ≡ x.info

module _ (run : KeyTree → StoreNames → Store → Ran) (each : (key : KeyTree) (named : StoreNames) (x : Store) → (run key named x).store.info ≡ x.info) where
  info_at_place : (id : StoreId) (place : Option RowTree) → KeepsInfo (option_map (λ p. changing id (run p.1)) place)
  info_at_place id None = tt
  info_at_place id (Some p) = λ named x. each p.1 named x

  info_at_cursor : {D : Type 0} (c : Option (FrontCursor D)) → KeepsInfo (work_here c run)
  info_at_cursor None = tt
  info_at_cursor (Some c) = info_at_place c.target.store c.cursor.place

work_info : {D : Type 0} (state : State D) (call : Call) → KeepsInfo (work_of state call)
work_info state (Add store value key) = λ named x. storing_info named x _ _ true
work_info state (Put store value key) = λ named x. storing_info named x _ _ false
work_info state (Get target query) = λ named x. refl
work_info state (GetKey target query) = λ named x. refl
work_info state (Count target query) = λ named x. refl
work_info state (GetAll target query count) = λ named x. refl
work_info state (GetAllKeys target query count) = λ named x. refl
work_info state (Delete store query) = λ named x. refl
work_info state (Clear store) = λ named x. refl
work_info state (Update cursor value) = info_at_cursor (λ key named x. storing named x (tree_of value) (Some key) false) (λ key named x. storing_info named x (tree_of value) (Some key) false) (cursor_of state.front cursor)
work_info state (DeleteHere cursor) = info_at_cursor (λ key named x. deleting named x (range_of_one key)) (λ key named x. refl) (cursor_of state.front cursor)
work_info state (OpenCursor target query direction) = tt
work_info state (OpenKeyCursor target query direction) = tt
work_info state (Continue cursor key) = tt
work_info state (ContinuePrimaryKey cursor key primary) = tt
work_info state (Advance cursor count) = tt

same_definition : (schema : SchemaData) (name : Name) (info : StoreInfo) (q : Name) (b : Bool) → info_named schema.entries name ≡ Some info → is_same_name name q ≡ b
    → info_named schema.entries q ≡ (if b then Some info else info_named schema.entries q)
same_definition schema name info q true named is = ap (info_named schema.entries) (sym (same_name name q is)) ∙ named
same_definition schema name info q false named is = refl

shows_stored : (whole : Bool) (schema : SchemaData) (d : Database) (name : Name) (x y : Store) → finite.get d.stores name ≡ Some x → y.info ≡ x.info → Shows whole schema (Some d) → Shows whole schema (Some (with_named_store d name y))
shows_stored whole schema d name x y there same s = shows_changed whole schema schema d name (λ o. Some y) (λ q. same_definition schema name y.info q (is_same_name name q) (s.named name x there ∙ ap Some (sym same)) refl) s

module _ {D : Type 0} (whole : Bool) (state : State D) (s : Shows whole state.schema state.database) where
  shows_work : (work : Work) → KeepsInfo (Some work) → (o : Option StoreHere) → store_asked state work.store ≡ o
      → Shows whole state.schema (unwrap_or (option_map (λ here. done_on here (work.run (names_of_store state here) here.store)) o) (only_answered state undefined)).database
  shows_work work keeps None at = s
  shows_work work keeps (Some here) at =
      let is = stands state work.store here at in
      shows_stored whole state.schema here.database here.name here.store _ is.store (keeps (names_of_store state here) here.store) (subst (Shows whole state.schema) is.database s)

  shows_asked : (work : Option Work) → KeepsInfo work → Shows whole state.schema (unwrap_or (option_and_then (done_by_work state) work) (only_answered state undefined)).database
  shows_asked None keeps = s
  shows_asked (Some work) keeps = shows_work work keeps (store_asked state work.store) refl

  shows_request : (call : Call) → Shows whole state.schema (done_by_request state call).database
  shows_request call = shows_asked (work_of state call) (work_info state call)

  shows_turn : (call : Call) (c : Option (FrontCursor D)) → Shows whole state.schema (done_by_turn state call c).database
  shows_turn call None = s
  shows_turn call (Some c) = s

-- ---- what was checked by the schema holds in the database
module _ (whole : Bool) (schema : SchemaData) (apart : AreApart schema.entries) where
  one_some : {X : Type 0} (x y : X) → Some x ≡ Some y → x ≡ y
  one_some x y e = cc

  definition_named : (id : StoreId) (o : Option StoreEntry) (info : StoreInfo) → find (has_that_id id.number) schema.entries ≡ o → option_map (λ e. e.info) o ≡ Some info → info_named schema.entries info.name ≡ Some info
  definition_named id None info found e = cc
  definition_named id (Some entry) info found e = subst (λ i. info_named schema.entries i.name ≡ Some i) (one_some entry.info info e) (found_named schema.entries id.number entry apart found)

  can_take : (info : StoreInfo) (d : Database) (value : Value) (key : Option Value) (o : Option Store) → info_named schema.entries info.name ≡ Some info → Shows whole schema (Some d) → TakesValue (Some info) value key
      → finite.get d.stores info.name ≡ o → CanTake (option_map (λ store. record { name = info.name; database = d; store = store }) o) value key
  can_take info d value key None named s can at = tt
  can_take info d value key (Some x) named s can at =
      let same : info ≡ x.info = one_some info x.info (sym named ∙ s.named info.name x at) in
      subst (λ i. TakesValue (Some i) value key) same can

  can_take_there : (info : StoreInfo) (there : Option Database) (value : Value) (key : Option Value) → info_named schema.entries info.name ≡ Some info → Shows whole schema there → TakesValue (Some info) value key
      → CanTake (store_under there info.name) value key
  can_take_there info None value key named s can = tt
  can_take_there info (Some d) value key named s can = can_take info d value key (finite.get d.stores info.name) named s can refl

  can_take_by : (id : StoreId) (there : Option Database) (value : Value) (key : Option Value) (o : Option StoreInfo) → store_of schema id ≡ o → Shows whole schema there → TakesValue o value key
      → CanTake (option_and_then (λ info. store_under there info.name) o) value key
  can_take_by id there value key None at s can = tt
  can_take_by id there value key (Some info) at s can = can_take_there info there value key (definition_named id (find (has_that_id id.number) schema.entries) info refl at) s can

checked : {D : Type 0} (whole : Bool) (state : State D) (call : Call) → AreApart state.schema.entries → Shows whole state.schema state.database → IsCheckedBy state.schema call → IsChecked state call
checked whole state (Add store value key) apart s can = can_take_by whole state.schema apart store state.database value key (store_of state.schema store) refl s can
checked whole state (Put store value key) apart s can = can_take_by whole state.schema apart store state.database value key (store_of state.schema store) refl s can
checked whole state (Get target query) apart s can = tt
checked whole state (GetKey target query) apart s can = tt
checked whole state (Count target query) apart s can = tt
checked whole state (GetAll target query count) apart s can = tt
checked whole state (GetAllKeys target query count) apart s can = tt
checked whole state (Delete store query) apart s can = tt
checked whole state (Clear store) apart s can = tt
checked whole state (Update cursor value) apart s can = tt
checked whole state (DeleteHere cursor) apart s can = tt
checked whole state (OpenCursor target query direction) apart s can = tt
checked whole state (OpenKeyCursor target query direction) apart s can = tt
checked whole state (Continue cursor key) apart s can = tt
checked whole state (ContinuePrimaryKey cursor key primary) apart s can = tt
checked whole state (Advance cursor count) apart s can = tt

as_whole : (whole : Bool) (schema : SchemaData) (there : Option Database) → whole ≡ true → Shows whole schema there → Shows true schema there
as_whole whole schema there is s = subst (λ b. Shows b schema there) is s

pub runnable : {D : Type 0} (whole : Bool) (state : State D) (entry : ListEntry D) → AreApart state.schema.entries → Shows whole state.schema state.database → IsPlaced whole state.schema entry → Runnable state entry
runnable whole state (Request request call handler) apart s p = checked whole state call apart s p
runnable whole state (CursorTurn number call) apart s p = tt
runnable whole state (Change call) apart s p = (upgrade_step state call apart state.database (as_whole whole state.schema state.database p.upgrade s) (record { upgrade = refl; there = p.there; taken = p.taken })).finds

-- ---- one entry
record Sound {D : Type 0} (whole : Bool) (state : State D) : Type 0 where
  upgrade : whole ≡ is_upgrade state.front
  apart : AreApart state.schema.entries
  shows : Shows whole state.schema state.database
  waits : Waits whole state.schema state.front.waiting state.front.schema

came_sound : {D : Type 0} (whole : Bool) (old : State D) (entry : ListEntry D) (entries : List (ListEntry D)) → whole ≡ is_upgrade old.front → AreApart old.schema.entries → Shows whole old.schema old.database
    → Waits whole old.schema (entry ∷ entries) old.front.schema → AllCame (Sound whole) (came (with_entries old entries) entry)
came_sound whole old (Request request call handler) entries up apart s w =
    let state = with_entries old entries in
    let done = done_by_request state call in
    limit_all (Sound whole) (is_past_limit state 1 (bytes_to_store call) done.changes) QuotaExceededError (resulted (with_done state done (bytes_to_store call)) request done.answer)
    (λ past. record { upgrade = up; apart = apart; shows = shows_request whole state s call; waits = w.1 })
came_sound whole old (CursorTurn number call) entries up apart s w =
    let state = with_entries old entries in
    let turned = with_turn_taken state number call in
    let done = done_by_turn state call (cursor_of state.front number) in
    limit_all (Sound whole) (is_past_limit turned 1 0 done.changes) QuotaExceededError (resulted (with_done turned done 0) number done.answer)
    (λ past. record { upgrade = up; apart = apart; shows = shows_turn whole state s call (cursor_of state.front number); waits = w.1 })
came_sound whole old (Change call) entries up apart s w =
    let state = with_entries old entries in
    let step = upgrade_step state call apart old.database (as_whole whole old.schema old.database w.0.upgrade s) (record { upgrade = refl; there = w.0.there; taken = w.0.taken }) in
    limit_all (Sound whole) (is_past_limit state 0 0 (deltas_of_call state call)) QuotaExceededError (came_unless (stop_of_change state call) (ran_change state call))
    (λ past. unless_all (Sound whole) (stop_of_change state call) (ran_change state call) (λ go. record {
      upgrade = up;
      apart = step.apart;
      shows = subst (λ b. Shows b (ran_change state call).schema (ran_change state call).database) (sym w.0.upgrade) step.shows;
      waits = w.1;
    }))

-- ---- one turn
module _ {D L : Type 0} (laws : KeyLaws) (reacts : Reacts D) (writes : Writes D L) (whole : Bool) where
  abbrev Fine : SchemaData → Front D → Type 0
  Fine schema front = (whole ≡ is_upgrade front) × Waits whole schema front.waiting front.schema

  lent_fine : (schema : SchemaData) (front : Front D) (entry : ListEntry D) → Fine schema front → Fine schema (lent front entry)
  lent_fine schema front (Request request call handler) f = f
  lent_fine schema front (CursorTurn number call) f = f
  lent_fine schema front (Change call) f = f

  returned_fine : (schema : SchemaData) (front : Front D) (entry : ListEntry D) (handler : D) → Fine schema front → Fine schema (returned front entry handler)
  returned_fine schema front (Request request call own) handler f = f
  returned_fine schema front (CursorTurn number call) handler f = f
  returned_fine schema front (Change call) handler f = f

  handled_sound : (state : State D) (entry : ListEntry D) (event : Event) (last : Front D) (how : HandlerEnd) (lines : List L) → Sound whole state → Handles reacts writes state.front entry event last how lines → Sound whole (record state { front = last })
  handled_sound state entry event last how lines n h =
      let mid = becomes_waits laws whole state.schema (lent state.front entry) h.mid h.grew (lent_fine state.schema state.front entry (n.upgrade, n.waits)) in
      let fine = subst (Fine state.schema) (sym h.back) (returned_fine state.schema h.mid entry h.after mid) in
      record { upgrade = fine.0; apart = n.apart; shows = n.shows; waits = fine.1 }

  turn_sound : (old new : State D) (lines : List L) → Turn reacts writes old Did new lines → Sound whole old → Sound whole new
  turn_sound old new lines t s = turn_all (Sound whole) reacts writes handled_sound old new lines
      (λ entry entries at. came_sound whole old entry entries s.upgrade s.apart s.shows (subst (λ es. Waits whole old.schema es old.front.schema) at s.waits)) t

-- ---- every state
sound_of : {D : Type 0} (state : State D) → IsState state → Sound (is_upgrade state.front) state
sound_of state is = record { upgrade = refl; apart = is.apart; shows = is.shows; waits = is.waits }

state_of : {D : Type 0} (whole : Bool) (state : State D) → Sound whole state → Noted state → IsState state
state_of whole state s n = record {
  apart = s.apart;
  shows = subst (λ b. Shows b state.schema state.database) s.upgrade s.shows;
  waits = subst (λ b. Waits b state.schema state.front.waiting state.front.schema) s.upgrade s.waits;
  noted = n;
}

first_runnable : {D : Type 0} (whole : Bool) (old : State D) (entries : List (ListEntry D)) → AreApart old.schema.entries → Shows whole old.schema old.database → Waits whole old.schema entries old.front.schema → FirstRunnable old entries
first_runnable whole old [] apart s w = tt
first_runnable whole old (entry ∷ entries) apart s w = runnable whole (with_entries old entries) entry apart s w.0

module _ {D L : Type 0} (below : Below) (laws : KeyLaws) (reacts : Reacts D) (writes : Writes D L) where
  pub turn_state : (old new : State D) (lines : List L) → Turn reacts writes old Did new lines → IsState old → IsState new
  turn_state old new lines t is =
      let whole = is_upgrade old.front in
      state_of whole new (turn_sound laws reacts writes whole old new lines t (sound_of old is)) (turn_noted below reacts writes old new lines t is.noted (first_runnable whole old old.front.waiting is.apart is.shows is.waits))

  pub run_state : (old new : State D) (lines : List L) → GoesOn reacts writes old new lines → IsState old → IsState new
  run_state old _ _ Begins is = is
  run_state old _ _ (Goes mid last first rest g t) is = turn_state mid last rest t (run_state old mid first g is)

-- ---- at the start
less_from : (o : Ordering) → is_lt o ≡ true → o ≡ Less
less_from Less e = refl
less_from Equal e = cc
less_from Greater e = cc

rises_on : (a b : Name) (ns : List Name) → slice_cmp nat_cmp a b ≡ Less → rises_after b ns ≡ true → rises_after a ns ≡ true
rises_on a b [] less e = refl
rises_on a b (n ∷ ns) less e =
    let parts = and_both (is_lt (slice_cmp nat_cmp b n)) (rises_after n ns) e in
    both_true (is_lt (slice_cmp nat_cmp a n)) (rises_after n ns) (ap is_lt (names_total.trans a b n less (less_from (slice_cmp nat_cmp b n) parts.0))) parts.1

rising_none : (n : Name) (es : List StoreEntry) → rises_after n (entry_names es) ≡ true → info_named es n ≡ None
rising_none n [] e = refl
rising_none n (d ∷ ds) e =
    let parts = and_both (is_lt (slice_cmp nat_cmp n d.info.name)) (rises_after d.info.name (entry_names ds)) e in
    let less = less_from (slice_cmp nat_cmp n d.info.name) parts.0 in
    when_false (is_same_name d.info.name n) (Some d.info) (info_named ds n) (either_way d.info.name n ∙ ap is_eq less) ∙ rising_none n ds (rises_on n d.info.name (entry_names ds) less parts.1)

apart_after : (n : Name) (es : List StoreEntry) → rises_after n (entry_names es) ≡ true → AreApart es
apart_after n [] e = tt
apart_after n (d ∷ ds) e = let parts = and_both (is_lt (slice_cmp nat_cmp n d.info.name)) (rises_after d.info.name (entry_names ds)) e in (rising_none d.info.name ds parts.1, apart_after d.info.name ds parts.1)

rising_apart : (es : List StoreEntry) → is_rising (entry_names es) ≡ true → AreApart es
rising_apart [] e = tt
rising_apart (d ∷ ds) e = (rising_none d.info.name ds e, apart_after d.info.name ds e)

same_mode : {D : Type 0} (call : Call) (handler : D) (front : Front D) → (after_call call handler front).mode ≡ front.mode
same_mode (Add store value key) handler front = refl
same_mode (Put store value key) handler front = refl
same_mode (Get target query) handler front = refl
same_mode (GetKey target query) handler front = refl
same_mode (Count target query) handler front = refl
same_mode (GetAll target query count) handler front = refl
same_mode (GetAllKeys target query count) handler front = refl
same_mode (Delete store query) handler front = refl
same_mode (Clear store) handler front = refl
same_mode (OpenCursor target query direction) handler front = refl
same_mode (OpenKeyCursor target query direction) handler front = refl
same_mode (Continue cursor key) handler front = refl
same_mode (ContinuePrimaryKey cursor key primary) handler front = refl
same_mode (Advance cursor count) handler front = refl
same_mode (Update cursor value) handler front = refl
same_mode (DeleteHere cursor) handler front = refl

module _ {D : Type 0} (laws : KeyLaws) (m : Mode) (schema : SchemaData) (scope : List Name) (before : Option Database) where
  body_waits : (body : Front D) → Becomes (new_front m schema scope) body → (is_upgrade_mode m ≡ is_upgrade body) × Waits (is_upgrade_mode m) schema body.waiting body.schema
  body_waits body b = becomes_waits laws (is_upgrade_mode m) schema (new_front m schema scope) body b (refl, refl)

  body_mode : (body : Front D) → Becomes (new_front m schema scope) body → body.mode ≡ m
  body_mode _ Stays = refl
  body_mode _ (Places mid last call handler b is after) = ap (λ f. f.mode) after.front ∙ same_mode call handler mid ∙ body_mode mid b
  body_mode _ (Changes mid last call b after) = ap (λ f. f.mode) after.front ∙ body_mode mid b
  body_mode _ (Commits mid last b after) = ap (λ f. f.mode) after.front ∙ body_mode mid b
  body_mode _ (Aborts mid last b after) = ap (λ f. f.mode) after.front ∙ body_mode mid b

  fresh_of : (body front : Front D) → Becomes (new_front m schema scope) body → front.mode ≡ body.mode → front.waiting ≡ body.waiting → front.schema ≡ body.schema
      → IsSchema schema → Shows (is_upgrade_mode m) schema (made_all (opening_changes m schema) before) → IsRaised m schema before → IsState (fresh_state front schema before)
  fresh_of body front b mode waiting same is shows raised =
      let its : front.mode ≡ m = mode ∙ body_mode body b in
      let w = (body_waits body b).1 in
      record {
        apart = rising_apart schema.entries is.rising;
        shows = subst (λ k. Shows (is_upgrade_mode k) schema (made_all (opening_changes k schema) before)) (sym its) shows;
        waits = subst (λ k. Waits (is_upgrade_mode k) schema front.waiting front.schema) (sym its)
            (subst (λ es. Waits (is_upgrade_mode m) schema es front.schema) (sym waiting) (subst (λ s. Waits (is_upgrade_mode m) schema body.waiting s) (sym same) w));
        noted = noted_fresh front schema before (subst (λ k. IsRaised k schema before) (sym its) raised);
      }

  thrown : (body : Front D) → (P : Front D → Type 0) → P (after_rest body) → P (aborted_by (Some AbortError) body) → P (after_throw body)
  thrown body P rest aborted = elim (is_upgrade_mode body.mode && not (is_finished_phase body.phase)) as (λ b. P (if b then aborted_by (Some AbortError) body else after_rest body)) [ true ↦ aborted | false ↦ rest ]

  pub state_fresh : (body : Front D) → Becomes (new_front m schema scope) body
      → IsSchema schema → Shows (is_upgrade_mode m) schema (made_all (opening_changes m schema) before) → IsRaised m schema before
      → IsState (fresh_state (after_rest body) schema before) × IsState (fresh_state (after_throw body) schema before)
  state_fresh body b is shows raised =
      let rested = fresh_of body (after_rest body) b refl refl refl is shows raised in
      (rested, thrown body (λ f. IsState (fresh_state f schema before)) rested (fresh_of body (aborted_by (Some AbortError) body) b refl refl refl is shows raised))
