-- What the turns of a transaction leave.
--     by_turns              what each turn that goes on keeps
--     Lasts, lasts_turn     a transaction that is no upgrade leaves the schema, and every store
--     VersionNow, version_turn      any transaction leaves the version of its database
--     mode_turn             and whether it is an upgrade
--     before_turn           and the database before
use Rattle.std.proofs.Common.{◌≡◌, ℕ, Bool, true, false, List, [], ◌∷◌, Option, Some, None, option_map, is_some, inl, inr, refl, sym, ◌∙◌, ap, subst}
use Rattle.std.specs.Prelude.{unwrap_or}
use Rattle.std.specs.Option.{option_and_then}
use Rattle.std.specs.FinMap as finite
use Rattle.std.proofs.lemmas.Bool.{cases_Bool}
use Rattle.clone_values.specs.Tree.{undefined}
use Rattle.idb_keys.specs.declared.names.ErrorName.TheVariants.{QuotaExceededError}
use Rattle.idb_keys.specs.declared.names.Mode.{Mode}
use Rattle.idb_keys.specs.declared.names.Mode.TheVariants as mode
use Rattle.idb_schema.specs.Schemas.{SchemaData}
use Rattle.idb_schema.specs.declared.calls.SchemaCall.{SchemaCall}
use Rattle.idb_schema.specs.declared.calls.SchemaCall.TheVariants as change
use Rattle.idb_calls.specs.declared.calls.Call.{Call}
use Rattle.idb_calls.specs.Deltas.{CreateIndex, DropIndex}
use Rattle.object_stores.specs.Store.{Store}
use Rattle.store_requests.specs.Leaving.{with_named_store}
use Rattle.item_changes.specs.Items.{Name, Database, is_same_name, stores_in}
use Rattle.item_changes.specs.Effects.{made_all}
use Rattle.item_changes.specs.Scopes.{Scope, Access, Reads, Writes, Whole, access_of}
use Rattle.item_changes.proofs.Laws.{names_total, one_name, same_name, changed_here, changed_elsewhere}
use Rattle.request_lists.specs.Fronts.{is_upgrade_mode, cursor_of}
use Rattle.request_lists.specs.declared.entries.FrontCursor.{FrontCursor}
use Rattle.request_lists.specs.declared.entries.ListEntry.{ListEntry}
use Rattle.request_lists.specs.declared.entries.ListEntry.TheVariants.{Request, Turn as CursorTurn, Change}
use Rattle.list_machine.specs.Entries.{resulted, came, came_unless, is_past_limit, bytes_to_store, done_by_work, done_by_request, done_by_turn, done_on, only_answered, names_of_store, with_done, with_turn_taken, deltas_of_call, named_change, name_of_store, stop_of_change, ran_change}
use Rattle.list_machine.specs.Machine.{Reacts, Writes as LineWrites, Turn, Begins, Goes, with_entries}
use Rattle.list_machine.specs.Requests.{StoreHere, store_asked, Work, work_of}
use Rattle.list_machine.specs.States.{State}
use Rattle.list_machine.specs.declared.steps.Step.TheVariants as step
use Rattle.list_machine.proofs.Laws.{AllCame, limit_all, unless_all, turn_all, turn_ends, stands}
use Rattle.machine_laws.specs.Keeping.{IsState, Waits}
use Rattle.machine_laws.proofs.Laws.{goes_in_scope}
use Rattle.serial_order.specs.SerialRuns.{GoesBy, Fresh, Further}

pub by_turns : {D L : Type 0} (reacts : Reacts D) (writes : LineWrites D L) (P : State D → Type 0) → ((old new : State D) (lines : List L) → Turn reacts writes old step.Did new lines → P old → P new) → (old new : State D) (turns : List (List L)) → GoesBy reacts writes old new turns → P old → P new
by_turns reacts writes P keeps old _ _ Fresh p = p
by_turns reacts writes P keeps old _ _ (Further mid last turns lines g t) p = keeps mid last lines t (by_turns reacts writes P keeps old mid turns g p)

-- ---- stores
abbrev pub HasAll : Option Database → Option Database → Type 0
HasAll before there = (name : Name) → is_some (finite.get (stores_in before) name) ≡ true → is_some (finite.get (stores_in there) name) ≡ true

stored_all : (before : Option Database) (d : Database) (name : Name) (y : Store) → HasAll before (Some d) → HasAll before (Some (with_named_store d name y))
stored_all before d name y all q e = elim (cases_Bool (is_same_name q name)) [
  | inl is ↦ ap is_some (ap (finite.get (finite.insert d.stores name y)) (same_name q name is) ∙ changed_here names_total one_name d.stores name (λ o. Some y))
  | inr out ↦ ap is_some (changed_elsewhere names_total one_name d.stores name (λ o. Some y) q out) ∙ all q e
]

pub record Lasts {D : Type 0} (schema : SchemaData) (before : Option Database) (state : State D) : Type 0 where
  pub schema_is : state.schema ≡ schema
  pub all : HasAll before state.database

module _ {D : Type 0} (before : Option Database) (state : State D) (all : HasAll before state.database) where
  asked_all : (work : Work) (o : Option StoreHere) → store_asked state work.store ≡ o
      → HasAll before (unwrap_or (option_map (λ here. done_on here (work.run (names_of_store state here) here.store)) o) (only_answered state undefined)).database
  asked_all work None at = all
  asked_all work (Some here) at = stored_all before here.database here.name _ (subst (HasAll before) (stands state work.store here at).database all)

  done_all : (work : Option Work) → HasAll before (unwrap_or (option_and_then (done_by_work state) work) (only_answered state undefined)).database
  done_all None = all
  done_all (Some work) = asked_all work (store_asked state work.store) refl

turn_database : {D : Type 0} (state : State D) (call : Call) (c : Option (FrontCursor D)) → (done_by_turn state call c).database ≡ state.database
turn_database state call None = refl
turn_database state call (Some c) = refl

-- ---- versions
abbrev version_now : Option Database → Option ℕ
version_now o = option_map (λ (d : Database). d.version) o

pub record VersionNow {D : Type 0} (version : ℕ) (state : State D) : Type 0 where
  pub is : version_now state.database ≡ Some version

module _ {D : Type 0} (state : State D) where
  asked_version : (work : Work) (o : Option StoreHere) → store_asked state work.store ≡ o
      → version_now (unwrap_or (option_map (λ here. done_on here (work.run (names_of_store state here) here.store)) o) (only_answered state undefined)).database ≡ version_now state.database
  asked_version work None at = refl
  asked_version work (Some here) at = sym (ap version_now (stands state work.store here at).database)

  done_version : (work : Option Work) → version_now (unwrap_or (option_and_then (done_by_work state) work) (only_answered state undefined)).database ≡ version_now state.database
  done_version None = refl
  done_version (Some work) = asked_version work (store_asked state work.store) refl

  change_version : (call : SchemaCall) (o : Option Database) → version_now (made_all (deltas_of_call state call) o) ≡ version_now o
  change_version (change.CreateStore name path auto) None = refl
  change_version (change.CreateStore name path auto) (Some d) = refl
  change_version (change.DropStore name) None = refl
  change_version (change.DropStore name) (Some d) = refl
  change_version (change.CreateIndex store name path unique multi) o = by_name (name_of_store state store) o
    where
      by_name : (s : Option Name) (there : Option Database) → version_now (made_all (named_change s (λ n. CreateIndex state.name n name path unique multi)) there) ≡ version_now there
      by_name None there = refl
      by_name (Some s) None = refl
      by_name (Some s) (Some d) = refl
  change_version (change.DropIndex store name) o = by_name (name_of_store state store) o
    where
      by_name : (s : Option Name) (there : Option Database) → version_now (made_all (named_change s (λ n. DropIndex state.name n name)) there) ≡ version_now there
      by_name None there = refl
      by_name (Some s) None = refl
      by_name (Some s) (Some d) = refl

-- ---- modes
abbrev is_whole : Access → Bool
is_whole (Reads names) = false
is_whole (Writes names) = false
is_whole Whole = true

whole_mode : (m : Mode) (names : List Name) → is_whole (access_of m names) ≡ is_upgrade_mode m
whole_mode mode.ReadOnly names = refl
whole_mode mode.ReadWrite names = refl
whole_mode mode.VersionChange names = refl

module _ {D L : Type 0} (reacts : Reacts D) (writes : LineWrites D L) where
  -- ---- a turn
  came_version : (version : ℕ) (state : State D) (entry : ListEntry D) → VersionNow version state → AllCame (VersionNow version) (came state entry)
  came_version version state (Request request call handler) v =
      let done = done_by_request state call in
      limit_all (VersionNow version) (is_past_limit state 1 (bytes_to_store call) done.changes) QuotaExceededError (resulted (with_done state done (bytes_to_store call)) request done.answer)
      (λ fits. record { is = done_version state (work_of state call) ∙ v.is })
  came_version version state (CursorTurn number call) v =
      let turned = with_turn_taken state number call in
      let done = done_by_turn state call (cursor_of state.front number) in
      limit_all (VersionNow version) (is_past_limit turned 1 0 done.changes) QuotaExceededError (resulted (with_done turned done 0) number done.answer)
      (λ fits. record { is = ap version_now (turn_database state call (cursor_of state.front number)) ∙ v.is })
  came_version version state (Change call) v =
      limit_all (VersionNow version) (is_past_limit state 0 0 (deltas_of_call state call)) QuotaExceededError (came_unless (stop_of_change state call) (ran_change state call))
      (λ fits. unless_all (VersionNow version) (stop_of_change state call) (ran_change state call) (λ goes. record { is = change_version state call state.database ∙ v.is }))

  pub version_turn : (version : ℕ) (old new : State D) (lines : List L) → Turn reacts writes old step.Did new lines → VersionNow version old → VersionNow version new
  version_turn version old new lines t v = turn_all (VersionNow version) reacts writes (λ state entry event last how ls s k. record { is = s.is }) old new lines
      (λ entry entries at. came_version version (with_entries old entries) entry (record { is = v.is })) t

  -- of no upgrade: no call of one waits
  came_lasts : (schema : SchemaData) (before : Option Database) (state : State D) (entry : ListEntry D) → ((call : SchemaCall) → entry ≡ Change call → ⊥) → Lasts schema before state → AllCame (Lasts schema before) (came state entry)
  came_lasts schema before state (Request request call handler) none l =
      let done = done_by_request state call in
      limit_all (Lasts schema before) (is_past_limit state 1 (bytes_to_store call) done.changes) QuotaExceededError (resulted (with_done state done (bytes_to_store call)) request done.answer)
      (λ fits. record { schema_is = l.schema_is; all = done_all before state l.all (work_of state call) })
  came_lasts schema before state (CursorTurn number call) none l =
      let turned = with_turn_taken state number call in
      let done = done_by_turn state call (cursor_of state.front number) in
      limit_all (Lasts schema before) (is_past_limit turned 1 0 done.changes) QuotaExceededError (resulted (with_done turned done 0) number done.answer)
      (λ fits. record { schema_is = l.schema_is; all = subst (HasAll before) (sym (turn_database state call (cursor_of state.front number))) l.all })
  came_lasts schema before state (Change call) none l = absurd (none call refl)

  no_change : (whole : Bool) (schema last : SchemaData) (entry : ListEntry D) (entries : List (ListEntry D)) → whole ≡ false → Waits whole schema (entry ∷ entries) last → (call : SchemaCall) → entry ≡ Change call → ⊥
  no_change whole schema last (Request request c handler) entries plain w call e = cc
  no_change whole schema last (CursorTurn number c) entries plain w call e = cc
  no_change whole schema last (Change c) entries plain w call e = no (sym plain ∙ w.0.upgrade)
    where
      no : false ≡ true → ⊥
      no k = cc

  pub lasts_turn : (schema : SchemaData) (before : Option Database) (old new : State D) (lines : List L) → is_upgrade_mode old.front.mode ≡ false → IsState old → Turn reacts writes old step.Did new lines → Lasts schema before old → Lasts schema before new
  lasts_turn schema before old new lines plain is t l = turn_all (Lasts schema before) reacts writes (λ state entry event last how ls s k. record { schema_is = s.schema_is; all = s.all }) old new lines
      (λ entry entries at. came_lasts schema before (with_entries old entries) entry
      (no_change (is_upgrade_mode old.front.mode) old.schema old.front.schema entry entries plain (subst (λ es. Waits (is_upgrade_mode old.front.mode) old.schema es old.front.schema) at is.waits))
      (record { schema_is = l.schema_is; all = l.all })) t

  -- ---- the mode, and the database before
  pub mode_turn : (old new : State D) (lines : List L) → Turn reacts writes old step.Did new lines → is_upgrade_mode new.front.mode ≡ is_upgrade_mode old.front.mode
  mode_turn old new lines t =
      let same = goes_in_scope reacts writes old new lines (Goes old new [] lines Begins t) in
      sym (whole_mode new.front.mode new.front.scope) ∙ ap (λ (s : Scope). is_whole s.access) same ∙ whole_mode old.front.mode old.front.scope

  pub before_turn : (before : Option Database) (old new : State D) (lines : List L) → Turn reacts writes old step.Did new lines → old.before ≡ before → new.before ≡ before
  before_turn before old new lines t e = (turn_ends reacts writes old step.Did new lines t).before ∙ e
