-- The desk allows what the driver asks of it.
--     allowed_aborted       any transaction that isn't finished may leave aborted
--     allowed_finish        the one that runs may leave with what its run kept
use Rattle.std.proofs.Common.{◌≡◌, ◌≤◌, ℕ, Bool, true, false, ◌&&◌, nat_eq, List, length, slice_get, Option, Some, None, is_none, refl, sym, ◌∙◌, ap, subst, arith}
use Rattle.std.specs.Prelude.{◌==◌, nat_le}
use Rattle.std.specs.Cmp.Lexicographic.{pointwise}
use Rattle.std.proofs.lemmas.Bool.Decides.{nat_tests}
use Rattle.idb_keys.specs.declared.names.Mode.{Mode}
use Rattle.idb_keys.specs.declared.names.Mode.TheVariants as mode
use Rattle.idb_schema.specs.Schemas.{SchemaData, stores_of}
use Rattle.idb_calls.specs.Deltas.{DeltaTree}
use Rattle.idb_calls.specs.declared.traces.Outcome.{Outcome}
use Rattle.idb_calls.specs.declared.traces.Outcome.TheVariants.{Committed, Aborted}
use Rattle.idb_desk.specs.Desks.{DeskState, name_asked_by, drawn_at}
use Rattle.idb_desk.specs.Refusals.{is_allowed, is_committed, is_created_stage, is_finished_stage, is_schema_for, fits_where, fits_kept, may_leave_where}
use Rattle.idb_desk.specs.Steps.{desk_run}
use Rattle.desk_steps.specs.declared.stands.DrawnTx.{DrawnTx}
use Rattle.desk_steps.specs.declared.stands.TxKind.{TxKind}
use Rattle.desk_steps.specs.declared.stands.TxKind.TheVariants as kind
use Rattle.desk_steps.specs.declared.steps.DeskStep.TheVariants as step
use Rattle.item_changes.specs.Items.{Name, Database, Items}
use Rattle.request_lists.specs.Fronts.{is_upgrade_mode}
use Rattle.list_machine.specs.States.{State, fresh_state}
use Rattle.machine_laws.proofs.Laws.{limits_fresh}
use Rattle.serial_order.specs.FinishEntries.{ScriptedBody, TxBody, Scripted, Deletion, front_left}
use Rattle.serial_order.specs.SerialRuns.{schema_kept, RunsOn}
use Rattle.script_statements.specs.declared.script.ScriptSession.{ScriptSession}
use Rattle.script_runs.specs.declared.notes.Note.{Note}
use Rattle.script_handlers.specs.Handling.{Script, ScriptReacts, ScriptWrites}
use Rattle.client_machine.specs.ClientStates.{ClientTxKind, OwnTx, OfUpgrade, OfDeletion, ClientTx, tx_at}
use Rattle.session_states.specs.Sessions.{SeatNow, SessionNow}
use Rattle.session_states.specs.Telling.{RunningTx}
use Rattle.session_states.specs.UnderWay.{IsInStep}
use Rattle.session_facts.specs.Fitting.{FitsUpgrade, FitsKind, FitsDrawn, FitsDesk, IsFitting}
use Rattle.session_facts.proofs.Becoming.{left_same}
use Rattle.session_facts.proofs.Desk.{some_same, equal_self, name_itself}
use Rattle.desk_facts.proofs.Laws.{length_infos}
use Rattle.session_facts.proofs.Seats.{all_got, tx_found, runs_as, first_started}
use Rattle.session_facts.proofs.Upgrading.{goes_has, goes_limits}

-- ---- what is kept
abbrev Runs : Option Database → TxBody Script → List (List Note) → List DeltaTree → Option SchemaData → Outcome → Type 0
Runs part body turns changes kept outcome = RunsOn ScriptReacts ScriptWrites part body turns changes kept false outcome

none_is : (kept : Option SchemaData) → kept ≡ None → is_none kept ≡ true
none_is kept e = ap is_none e

none_fits : (name : Option (List ℕ)) (version : ℕ) (kept : Option SchemaData) → kept ≡ None → fits_where name version false kept ≡ true
none_fits name version kept e = ap (fits_where name version false) e

abbrev left : ScriptedBody Script → Option Database → State Script
left body part = fresh_state (front_left body) body.schema part

plain_none : (m : Mode) (s : SchemaData) → is_upgrade_mode m ≡ false → schema_kept m s ≡ None
plain_none mode.ReadOnly s e = refl
plain_none mode.ReadWrite s e = refl
plain_none mode.VersionChange s e = cc

plain_kept : (part : Option Database) (body : ScriptedBody Script) (turns : List (List Note)) (changes : List DeltaTree) (kept : Option SchemaData) (outcome : Outcome) → is_upgrade_mode body.mode ≡ false → Runs part (Scripted body) turns changes kept outcome → kept ≡ None
plain_kept part body turns changes kept Committed plain run =
    let same = (left_same body run.placed).mode in
    run.runs.1.schema ∙ ap (λ m. schema_kept m run.runs.1.out.new.schema) same ∙ plain_none body.mode run.runs.1.out.new.schema plain
plain_kept part body turns changes kept (Aborted error true) plain run = run.runs.1
plain_kept part body turns changes kept (Aborted error false) plain run = run.runs.0

at_most_true : (n : ℕ) → n ≤ 63 → nat_le n 63 ≡ true
at_most_true n le = grind (arith, nat_tests)

schema_fits : (name : Name) (new : ℕ) (s : SchemaData) → s.name ≡ name → s.version ≡ new → length s.entries ≤ 63 → is_schema_for (Some name) new s ≡ true
schema_fits name new s a b few =
    let named : pointwise nat_eq s.name name ≡ true = ap (λ n. pointwise nat_eq n name) a ∙ name_itself name in
    let versioned : (s.version == new) ≡ true = ap (λ n. n == new) b ∙ equal_self new in
    let small : nat_le (length (stores_of s)) 63 ≡ true = at_most_true (length (stores_of s)) (subst (λ n. n ≤ 63) (sym (length_infos s.entries)) few) in
    rw named (rw versioned small)

upgrade_kept : (part : Option Database) (there : Option SchemaData) (name : Name) (new : ℕ) (body : ScriptedBody Script) (turns : List (List Note)) (changes : List DeltaTree) (kept : Option SchemaData) (outcome : Outcome) → FitsUpgrade there name new body
    → Runs part (Scripted body) turns changes kept outcome → fits_where (Some name) new (is_committed outcome) kept ≡ true
upgrade_kept part there name new body turns changes kept Committed f run =
    let out = run.runs.1.out in
    let same = (left_same body run.placed).mode ∙ f.mode_is in
    let last : kept ≡ Some out.new.schema = run.runs.1.schema ∙ ap (λ m. schema_kept m out.new.schema) same in
    let version : body.schema.version ≡ new = ap (λ (s : SchemaData). s.version) f.schema_is in
    let has = goes_has ScriptReacts ScriptWrites name new (left body part) out.new turns out.goes (record { name_is = f.name_is; version_is = version }) in
    let small = (goes_limits ScriptReacts ScriptWrites (left body part) out.new turns out.goes (limits_fresh (front_left body) body.schema part f.few)).stores in
    ap (fits_where (Some name) new true) last ∙ schema_fits name new out.new.schema has.name_is has.version_is small
upgrade_kept part there name new body turns changes kept (Aborted error true) f run = none_fits (Some name) new kept run.runs.1
upgrade_kept part there name new body turns changes kept (Aborted error false) f run = none_fits (Some name) new kept run.runs.0

kept_fits : (part : Option Database) (there : Option SchemaData) (name : Name) (k : TxKind) (own : ClientTxKind) (body : TxBody Script) (turns : List (List Note)) (changes : List DeltaTree) (kept : Option SchemaData) (outcome : Outcome) → FitsKind there name k own body
    → Runs part body turns changes kept outcome → fits_kept (Some name) k (is_committed outcome) kept ≡ true
kept_fits part there name kind.Plain (OwnTx complete abort env) (Scripted body) turns changes kept outcome f run = none_is kept (plain_kept part body turns changes kept outcome f.mode_is run)
kept_fits part there name kind.Plain (OwnTx complete abort env) (Deletion deleted) turns changes kept outcome f run = absurd f
kept_fits part there name kind.Plain OfUpgrade body turns changes kept outcome f run = absurd f
kept_fits part there name kind.Plain OfDeletion body turns changes kept outcome f run = absurd f
kept_fits part there name (kind.Upgrade new) (OwnTx complete abort env) body turns changes kept outcome f run = absurd f
kept_fits part there name (kind.Upgrade new) OfUpgrade (Scripted body) turns changes kept outcome f run = upgrade_kept part there name new body turns changes kept outcome f run
kept_fits part there name (kind.Upgrade new) OfUpgrade (Deletion deleted) turns changes kept outcome f run = absurd f
kept_fits part there name (kind.Upgrade new) OfDeletion body turns changes kept outcome f run = absurd f
kept_fits part there name kind.Deletion (OwnTx complete abort env) body turns changes kept outcome f run = absurd f
kept_fits part there name kind.Deletion OfUpgrade body turns changes kept outcome f run = absurd f
kept_fits part there name kind.Deletion OfDeletion (Scripted body) turns changes kept outcome f run = absurd f
kept_fits part there name kind.Deletion OfDeletion (Deletion deleted) turns changes kept outcome f run = none_is kept run.1

aborted_fits : (name : Option (List ℕ)) (k : TxKind) → fits_kept name k false None ≡ true
aborted_fits name kind.Plain = refl
aborted_fits name (kind.Upgrade version) = refl
aborted_fits name kind.Deletion = refl

-- ---- leaving
may_leave : (d : DeskState) (client : ℕ) (ended : Outcome) (kept : Option SchemaData) (t : DrawnTx) → t.who.client ≡ client → is_finished_stage t.stage ≡ false → (is_created_stage t.stage && is_committed ended) ≡ false
    → fits_kept (name_asked_by d.board.clients t.who) t.kind (is_committed ended) kept ≡ true → may_leave_where d client ended kept (Some t) ≡ true
may_leave d client ended kept t own unfinished begun fits =
    let is : (t.who.client == client) ≡ true = ap (λ n. n == client) own ∙ equal_self client in
    rw is (rw unfinished (rw begun fits))

not_committed : (b : Bool) (ended : Outcome) → is_committed ended ≡ false → (b && is_committed ended) ≡ false
not_committed true ended e = e
not_committed false ended e = refl

module _ (session : ScriptSession) (opening : Items) (now : SessionNow) (place : ℕ) (seat : SeatNow) (fitting : IsFitting now) (at : slice_get now.seats place ≡ Some seat) where
  -- a client's transaction as the desk drew it
  pub drawn_as : (number : ℕ) (tx : ClientTx) → tx_at seat.client number ≡ Some tx → FitsDrawn (desk_run now.run) seat.client.number tx × (tx.number ≡ number)
  drawn_as number tx found =
      let f = all_got (λ (s : SeatNow). FitsDesk now.run s.client) now.seats place seat fitting.seats at in
      tx_found (FitsDrawn (desk_run now.run) seat.client.number) seat.client number tx f.txs found

  pub allowed_aborted : (number : ℕ) (tx : ClientTx) (ended : Outcome) → tx_at seat.client number ≡ Some tx → is_committed ended ≡ false → is_allowed (desk_run now.run) (step.Leaves seat.client.number number ended None) ≡ true
  allowed_aborted number tx ended found aborted =
      let h = drawn_as number tx found in
      let f = h.0 in
      let d = desk_run now.run in
      let drawn : drawn_at d.board.drawn number ≡ Some f.drawn = ap (drawn_at d.board.drawn) (sym h.1) ∙ f.there.drawn in
      ap (may_leave_where d seat.client.number ended None) drawn
      ∙ may_leave d seat.client.number ended None f.drawn f.client_is f.there.unfinished (not_committed (is_created_stage f.drawn.stage) ended aborted)
      (ap (λ b. fits_kept (name_asked_by d.board.clients f.drawn.who) f.drawn.kind b None) aborted ∙ aborted_fits (name_asked_by d.board.clients f.drawn.who) f.drawn.kind)

  pub allowed_finish : (t : RunningTx) (tx : ClientTx) (part : Option Database) (turns : List (List Note)) (changes : List DeltaTree) (kept : Option SchemaData) (outcome : Outcome) → IsInStep session opening now (Some t) → tx_at seat.client t.number ≡ Some tx
      → Runs part t.body turns changes kept outcome → is_allowed (desk_run now.run) (step.Leaves seat.client.number t.number outcome kept) ≡ true
  allowed_finish t tx part turns changes kept outcome u found run =
      let h = drawn_as t.number tx found in
      let f = h.0 in
      let d = desk_run now.run in
      let drawn : drawn_at d.board.drawn t.number ≡ Some f.drawn = ap (drawn_at d.board.drawn) (sym h.1) ∙ f.there.drawn in
      let same = runs_as session opening now t u place seat tx at found in
      let first = first_started session opening now t u in
      let stage : is_created_stage f.drawn.stage ≡ false = ap (λ (x : DrawnTx). is_created_stage x.stage) (some_same (sym drawn ∙ first.found)) ∙ first.started in
      let fits = kept_fits part _ f.name f.drawn.kind tx.kind t.body turns changes kept outcome (subst (FitsKind _ f.name f.drawn.kind tx.kind) same.0 f.fits) run in
      ap (may_leave_where d seat.client.number outcome kept) drawn
      ∙ may_leave d seat.client.number outcome kept f.drawn f.client_is f.there.unfinished (ap (λ b. b && is_committed outcome) stage)
      (ap (λ o. fits_kept o f.drawn.kind (is_committed outcome) kept) f.there.name_is ∙ fits)
