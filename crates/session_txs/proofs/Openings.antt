-- A transaction as it begins to run.
--     mode_of_body, left_mode       the mode of a front is that with which it was made
--     left_seen             what is seen of the front with which it begins
--     begun_as              its state, of a front and all else
--     ready_as              it can run
--     running_as            and what it keeps
--     logs_begun            what it changes can be logged
--     fits_so, logs_so      the part that was taken out was made by its schema, and so it is of that body
use Rattle.std.proofs.Common.{◌≡◌, ◌≤◌, ℕ, length, List, [], Option, Some, None, refl, sym, ◌∙◌, ap, subst}
use Rattle.std.specs.Prelude.{Bool, true, false, not, ◌&&◌, if◌then◌else◌}
use Rattle.idb_keys.specs.declared.names.Mode.{Mode}
use Rattle.idb_keys.specs.declared.names.Mode.TheVariants as mode
use Rattle.idb_keys.specs.declared.names.ErrorName.TheVariants.{AbortError}
use Rattle.idb_schema.specs.Schemas.{SchemaData}
use Rattle.idb_calls.specs.Deltas.{DeltaTree}
use Rattle.item_changes.specs.Items.{Name, Database}
use Rattle.item_changes.specs.Scopes.{Access, Reads, Writes, Whole, access_of}
use Rattle.request_lists.specs.Fronts.{Front, new_front, front_map, is_upgrade_mode, is_finished_phase}
use Rattle.request_lists.specs.Placing.{Becomes, aborted_by, after_rest, after_throw}
use Rattle.request_lists.proofs.Laws.{becomes_plain}
use Rattle.list_machine.specs.States.{State, fresh_state, opening_changes}
use Rattle.list_machine.specs.Seeing.{state_map}
use Rattle.list_machine.specs.declared.limits.TheConstants.{GREATEST_STORE_COUNT}
use Rattle.machine_laws.specs.Limiting.{WithinLimits}
use Rattle.record_bytes.specs.Loggable.{is_logged_version}
use Rattle.loggable_changes.specs.Logging.{AreLoggable}
use Rattle.machine_laws.proofs.Laws.{scope_made}
use Rattle.live_stores.specs.Live.{database_at, live_from}
use Rattle.tx_courses.specs.Courses.{CourseData, state_with, course_opened}
use Rattle.live_tx.specs.Live.{IsReadyState}
use Rattle.serial_order.specs.SerialRuns.{GoesBy, Fresh}
use Rattle.script_handlers.specs.declared.handlers.ScriptHandler.{ScriptHandler}
use Rattle.script_handlers.specs.Handling.{Script, ScriptReacts, ScriptWrites}
use Rattle.script_handlers.specs.Seeing.{script_seen}
use Rattle.client_parts.specs.Begun.{BegunState, scripted_body}
use Rattle.client_parts.specs.declared.begun.BegunParts.{BegunParts}
use Rattle.client_parts.specs.Holding.{parts_seen}
use Rattle.item_changes.specs.Items.{Items}
use Rattle.item_changes.specs.Scopes.{part_of}
use Rattle.serial_order.specs.NumberOrder.{FitsWhole}
use Rattle.script_runs.specs.declared.notes.Note.{Note}
use Rattle.session_databases.specs.Parts.{scope_of}
use Rattle.session_txs.specs.Running.{scope_of_scripted, IsLoggableBody}
use Rattle.idb_databases.specs.Stores.{Stores}
use Rattle.session_txs.specs.Keeping.{begun_state, GoesSo, CanLog, IsRunning}

-- ---- modes
mode_back : Access → Mode
mode_back (Reads names) = mode.ReadOnly
mode_back (Writes names) = mode.ReadWrite
mode_back Whole = mode.VersionChange

there_and_back : (m : Mode) (names : List Name) → mode_back (access_of m names) ≡ m
unfolding mode_back
there_and_back mode.ReadOnly names = refl
there_and_back mode.ReadWrite names = refl
there_and_back mode.VersionChange names = refl

pub mode_of_body : {D : Type 0} (m : Mode) (schema : SchemaData) (names : List Name) (body : Front D) → Becomes (new_front m schema names) body → body.mode ≡ m
mode_of_body m schema names body b =
    sym (there_and_back body.mode body.scope)
    ∙ ap (λ s. mode_back s.access) (scope_made m schema names None body b).0
    ∙ there_and_back m names

abbrev pub left_of : {D : Type 0} → Bool → Front D → Front D
left_of threw front = if threw then after_throw front else after_rest front

thrown_mode : {D : Type 0} (front : Front D) → (after_throw front).mode ≡ front.mode
thrown_mode front = elim (is_upgrade_mode front.mode && not (is_finished_phase front.phase)) as (λ b. (if b then aborted_by (Some AbortError) front else after_rest front).mode ≡ front.mode) [ true ↦ refl | false ↦ refl ]

pub left_mode : {D : Type 0} (threw : Bool) (front : Front D) → (left_of threw front).mode ≡ front.mode
left_mode true front = thrown_mode front
left_mode false front = refl

-- ---- what is seen
module _ {H D : Type 0} (f : H → D) where
  thrown_seen : (front : Front H) → front_map f (after_throw front) ≡ after_throw (front_map f front)
  thrown_seen front = elim (is_upgrade_mode front.mode && not (is_finished_phase front.phase))
      as (λ b. front_map f (if b then aborted_by (Some AbortError) front else after_rest front) ≡ (if b then aborted_by (Some AbortError) (front_map f front) else after_rest (front_map f front))) [ true ↦ refl | false ↦ refl ]

  pub left_seen : (threw : Bool) (front : Front H) → front_map f (left_of threw front) ≡ left_of threw (front_map f front)
  left_seen true front = thrown_seen front
  left_seen false front = refl

-- ---- its state
module _ {D : Type 0} (m : Mode) (schema : SchemaData) (names : List Name) (body : Front D) (b : Becomes (new_front m schema names) body) (part : Option Database) (threw : Bool) where
  opened_so : (front : Front D) → front.mode ≡ m → state_with front (course_opened m schema (live_from part) (opening_changes m schema)) ≡ fresh_state front schema part
  opened_so front is = subst (λ n. state_with front (course_opened n schema (live_from part) (opening_changes n schema)) ≡ fresh_state front schema part) is refl

  pub begun_as : (front : Front D) (course : CourseData) (changes : List DeltaTree) → front ≡ left_of threw body → course ≡ course_opened m schema (live_from part) changes → changes ≡ opening_changes m schema
      → state_with front course ≡ fresh_state (left_of threw body) schema part
  begun_as front course changes left opened begins =
      ap (λ f. state_with f course) left
      ∙ ap (state_with (left_of threw body)) (opened ∙ ap (course_opened m schema (live_from part)) begins)
      ∙ opened_so (left_of threw body) (left_mode threw body ∙ mode_of_body m schema names body b)

  pub ready_as : (front : Front D) (course : CourseData) (changes : List DeltaTree) → front ≡ left_of threw body → course ≡ course_opened m schema (live_from part) changes → changes ≡ opening_changes m schema
      → IsReadyState (fresh_state (after_rest body) schema part) × IsReadyState (fresh_state (after_throw body) schema part) → IsReadyState (state_with front course)
  ready_as front course changes left opened begins made = subst IsReadyState (sym (begun_as front course changes left opened begins))
      (elim threw as (λ t. IsReadyState (fresh_state (left_of t body) schema part)) [ true ↦ made.1 | false ↦ made.0 ])

module _ (m : Mode) (schema : SchemaData) (names : List Name) (front : Front ScriptHandler) (part : Option Database) (threw : Bool) where
  seen_begun : state_map script_seen (fresh_state (left_of threw front) schema part) ≡ begun_state (scripted_body m schema names front threw) part
  seen_begun = ap (λ f. fresh_state f schema part) (left_seen script_seen threw front)

  pub goes_begun : (state : State ScriptHandler) → state ≡ fresh_state (left_of threw front) schema part → GoesSo (scripted_body m schema names front threw) state []
  goes_begun state is = subst (λ s. GoesSo (scripted_body m schema names front threw) s []) (sym is)
      (subst (λ s. GoesBy ScriptReacts ScriptWrites (begun_state (scripted_body m schema names front threw) part) s []) (sym seen_begun) Fresh)

module _ (m : Mode) (schema : SchemaData) (names : List Name) (front : Front ScriptHandler) (version : Option ℕ) (stores : Stores) (threw : Bool) (b : Becomes (new_front m schema names) front) (made : FitsWhole (database_at version stores) (scripted_body m schema names front threw)) where
  abbrev part : Option Database
  part = database_at version stores

  fresh : CanLog (fresh_state (left_of threw front) schema part) → (name : Name) → name ≡ schema.name → IsRunning (scripted_body m schema names front threw) name (fresh_state (left_of threw front) schema part) [] false None
  fresh can name named = record {
    placed = becomes_plain script_seen (new_front m schema names) front b;
    fits = made;
    name_is = named;
    came = λ _. goes_begun m schema names front part threw (fresh_state (left_of threw front) schema part) refl;
    logs = λ _. can;
  }

  pub running_as : CanLog (fresh_state (left_of threw front) schema part) → (name : Name) → name ≡ schema.name → (state : State ScriptHandler) → state ≡ fresh_state (left_of threw front) schema part
      → IsRunning (scripted_body m schema names front threw) name state [] false None
  running_as can name named state is = subst (λ s. IsRunning (scripted_body m schema names front threw) name s [] false None) (sym is) (fresh can name named)

  -- by what is kept of its parts
  pub running_seen : CanLog (fresh_state (left_of threw front) schema part) → (schema_seen : SchemaData) (front_seen : Front ScriptHandler) → schema_seen ≡ schema → front_seen ≡ front → (name : Name) → name ≡ schema.name
      → (state : State ScriptHandler) → state ≡ fresh_state (left_of threw front) schema part → (turns : List (List Note)) → turns ≡ [] → IsRunning (scripted_body m schema_seen names front_seen threw) name state turns false None
  running_seen can schema_seen front_seen s f name named state is turns none =
      subst (λ ts. IsRunning (scripted_body m schema_seen names front_seen threw) name state ts false None) (sym none)
      (subst (λ x. IsRunning (scripted_body m x names front_seen threw) name state [] false None) (sym s)
      (subst (λ x. IsRunning (scripted_body m schema names x threw) name state [] false None) (sym f) (running_as can name named state is)))

-- ---- what can be logged
abbrev LogOpening : Type 0
LogOpening = (mode : Mode) (schema : SchemaData) → (is_upgrade_mode mode ≡ true → is_logged_version schema.version ≡ true) → AreLoggable (opening_changes mode schema)

abbrev LimitBody : Type 0
LimitBody = (front : Front Script) (schema : SchemaData) (before : Option Database) → length schema.entries ≤ GREATEST_STORE_COUNT → WithinLimits (fresh_state front schema before)

module _ (m : Mode) (schema : SchemaData) (names : List Name) (front : Front ScriptHandler) (part : Option Database) (threw : Bool) (b : Becomes (new_front m schema names) front) where
  pub logs_begun : LogOpening → LimitBody → IsLoggableBody (scripted_body m schema names front threw) → CanLog (fresh_state (left_of threw front) schema part)
  logs_begun opening limits l =
      let w = limits (front_map script_seen (left_of threw front)) schema part l.few in
      record {
        loggable = subst (λ n. AreLoggable (opening_changes n schema)) (sym (left_mode threw front ∙ mode_of_body m schema names front b)) (opening m schema l.version);
        within = record { requests = w.requests; bytes = w.bytes; changes = w.changes; stores = w.stores };
      }

-- ---- its part was made by its schema
module _ (begun : BegunState) (p : BegunParts) (is : begun ≡ parts_seen p) (items : Items) (database : Name) (named : database ≡ p.schema.name) (version : Option ℕ) (stores : Stores)
    (taken : database_at version stores ≡ part_of (scope_of p.mode database p.names) items) where
  its_part : database_at version stores ≡ part_of (scope_of p.mode p.schema.name p.names) items
  its_part = taken ∙ ap (λ n. part_of (scope_of p.mode n p.names) items) named

  pub fits_so : FitsWhole (part_of (scope_of_scripted begun.body) items) begun.body → FitsWhole (database_at version stores) (scripted_body p.mode p.schema p.names p.front p.threw)
  fits_so fits =
      let there : FitsWhole (part_of (scope_of_scripted (parts_seen p).body) items) (parts_seen p).body = subst (λ (b : BegunState). FitsWhole (part_of (scope_of_scripted b.body) items) b.body) is fits in
      subst (λ o. FitsWhole o (parts_seen p).body) (sym its_part) there

  pub logs_so : IsLoggableBody begun.body → IsLoggableBody (scripted_body p.mode p.schema p.names p.front p.threw)
  logs_so l = subst (λ (b : BegunState). IsLoggableBody b.body) is l
