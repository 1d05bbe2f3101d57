-- The versions of the upgrades that clients hold.
--     in_range              the schemas of databases with versions in range have such versions
--     upgrade_bodies        the body of an upgrade is one to a version in range
--     few_bodies            each body was made with the schema of a database of few stores
use Rattle.std.proofs.Common.{◌≡◌, ◌≤◌, ℕ, true, false, if◌then◌else◌, List, [], ◌∷◌, length, slice_get, Option, Some, None, is_some, refl, sym, ap, ◌∙◌, subst}
use Rattle.std.specs.List.{AllByRecursion, find}
use Rattle.std.proofs.lemmas.Cmp.{nat_list_eq_equiv}
use Rattle.std.proofs.lemmas.Option.{same_Some}
use Rattle.std.specs.FinMap as finite
use Rattle.idb_schema.specs.Schemas.{SchemaData}
use Rattle.idb_desk.specs.Databases.{database_under}
use Rattle.idb_desk.specs.Refusals.{is_version}
use Rattle.idb_desk.specs.Steps.{DeskRun, desk_run, IsDeskRun}
use Rattle.desk_steps.specs.declared.stands.TxKind.{TxKind}
use Rattle.desk_steps.specs.declared.stands.TxKind.TheVariants as kind
use Rattle.desk_facts.specs.Databases.{is_schema_named, AreOpenable}
use Rattle.item_changes.specs.Items.{Name, Database, Items}
use Rattle.idb_databases.specs.Items.{AreItems}
use Rattle.idb_databases.specs.declared.limits.TheConstants.{GREATEST_VERSION}
use Rattle.list_machine.specs.declared.limits.TheConstants.{GREATEST_STORE_COUNT}
use Rattle.request_lists.specs.Fronts.{is_upgrade_mode}
use Rattle.serial_order.specs.FinishEntries.{ScriptedBody, Scripted}
use Rattle.script_statements.specs.declared.script.ScriptSession.{ScriptSession}
use Rattle.script_handlers.specs.Handling.{Script}
use Rattle.client_machine.specs.ClientStates.{ClientTxKind, OwnTx, OfUpgrade, OfDeletion, ClientTx, tx_at}
use Rattle.legal_sessions.specs.Histories.{has_schema_name, ShowsItems}
use Rattle.session_facts.specs.Sessions.{SeatNow, SessionNow}
use Rattle.session_facts.specs.Telling.{RunningTx}
use Rattle.session_facts.specs.UnderWay.{IsInStep}
use Rattle.session_facts.specs.Fitting.{AreFew, FitsKind, FitsDrawn, FitsDesk, IsFitting}
use Rattle.session_limits.specs.Ranges.{AreInRange}
use Rattle.session_limits.proofs.Lists.{all_two, all_got, tx_found}
use Rattle.session_limits.proofs.Limits.{few_run}
use Rattle.session_limits.proofs.Versions.{upgrades_run}

-- ---- the schemas of an opening
abbrev IsFoundIn : List SchemaData → SchemaData → Type 0
IsFoundIn schemas s = find (has_schema_name s.name) schemas ≡ Some s

behind : (s : SchemaData) (ss : List SchemaData) (t : SchemaData) → IsFoundIn ss t → is_schema_named t.name s ≡ false → IsFoundIn (s ∷ ss) t
behind s ss t found out = ap (λ b. if b then Some s else find (has_schema_name t.name) ss) out ∙ found

-- no two have the same name
pub found_each : (schemas : List SchemaData) → AreOpenable schemas → AllByRecursion (IsFoundIn schemas) schemas
found_each [] openable = tt
found_each (s ∷ ss) openable = (
  ap (λ b. if b then Some s else find (has_schema_name s.name) ss) (nat_list_eq_equiv.refl s.name),
  all_two (IsFoundIn ss) (λ t. is_schema_named t.name s ≡ false) (IsFoundIn (s ∷ ss)) (behind s ss) ss (found_each ss openable.2) openable.1,
)

some_there : (o : Option Database) → is_some o ≡ true → (d : Database) × (o ≡ Some d)
some_there None e = cc
some_there (Some d) e = (d, refl)

one_in_range : (schemas : List SchemaData) (opening : Items) → AreItems opening → ShowsItems schemas opening → (s : SchemaData) → IsFoundIn schemas s → is_some (finite.get opening s.name) ≡ true → s.version ≤ GREATEST_VERSION
one_in_range schemas opening items shows s found some =
    let d = some_there (finite.get opening s.name) some in
    let by = shows.each s.name d.0 d.1 in
    let same : by.0 ≡ s = same_Some by.0 s (sym by.1 ∙ found) in
    let version : d.0.version ≡ s.version = sym by.2.version ∙ ap (λ (x : SchemaData). x.version) same in
    subst (λ (n : ℕ). n ≤ GREATEST_VERSION) version (items s.name d.0 d.1).version.1

pub in_range : (schemas : List SchemaData) (opening : Items) → AreItems opening → AreOpenable schemas → ShowsItems schemas opening → AreInRange schemas
in_range schemas opening items openable shows =
    all_two (IsFoundIn schemas) (λ s. is_some (finite.get opening s.name) ≡ true) (λ s. s.version ≤ GREATEST_VERSION) (one_in_range schemas opening items shows) schemas (found_each schemas openable) shows.only

-- ---- what a client holds
new_version : (there : Option SchemaData) (name : Name) (k : TxKind) (own : ClientTxKind) (body : ScriptedBody Script) → FitsKind there name k own (Scripted body) → is_upgrade_mode body.mode ≡ true
    → (new : ℕ) × (k ≡ kind.Upgrade new) × (body.schema.version ≡ new)
new_version there name kind.Plain (OwnTx complete abort env) body f upgrade = let no = f.mode_is in cc
new_version there name kind.Plain OfUpgrade body f upgrade = absurd f
new_version there name kind.Plain OfDeletion body f upgrade = absurd f
new_version there name (kind.Upgrade new) (OwnTx complete abort env) body f upgrade = absurd f
new_version there name (kind.Upgrade new) OfUpgrade body f upgrade = (new, refl, ap (λ (s : SchemaData). s.version) f.schema_is)
new_version there name (kind.Upgrade new) OfDeletion body f upgrade = absurd f
new_version there name kind.Deletion (OwnTx complete abort env) body f upgrade = absurd f
new_version there name kind.Deletion OfUpgrade body f upgrade = absurd f
new_version there name kind.Deletion OfDeletion body f upgrade = absurd f

pub upgrade_bodies : (session : ScriptSession) (opening : Items) (now : SessionNow) (running : Option RunningTx) (place : ℕ) (seat : SeatNow) (number : ℕ) (tx : ClientTx) (body : ScriptedBody Script)
    → IsInStep session opening now running → IsFitting now → AreItems opening → slice_get now.seats place ≡ Some seat → tx_at seat.client number ≡ Some tx → tx.body ≡ Scripted body
    → is_upgrade_mode body.mode ≡ true → is_version body.schema.version ≡ true
upgrade_bodies session opening now running place seat number tx body u fitting items at found is upgrade =
    let fits = all_got (λ (s : SeatNow). FitsDesk now.run s.client) now.seats place seat fitting.seats at in
    let f = (tx_found (FitsDrawn (desk_run now.run) seat.client.number) seat.client number tx fits.txs found).0 in
    let kind_fits = subst (FitsKind (database_under (desk_run now.run) f.name) f.name f.drawn.kind tx.kind) is f.fits in
    let v = new_version (database_under (desk_run now.run) f.name) f.name f.drawn.kind tx.kind body kind_fits upgrade in
    let within = in_range now.run.opening opening items fitting.openable u.shows in
    ap is_version v.2 ∙ upgrades_run now.run tx.number f.name f.drawn v.0 fitting.openable within u.desk f.there v.1

few_body : (r : DeskRun) (name : Name) (k : TxKind) (own : ClientTxKind) (body : ScriptedBody Script) → AreFew r.opening → IsDeskRun r → FitsKind (database_under (desk_run r) name) name k own (Scripted body) → length body.schema.entries ≤ GREATEST_STORE_COUNT
few_body r name kind.Plain (OwnTx complete abort env) body few desk f = few_run r name body.schema few desk f.schema_is
few_body r name kind.Plain OfUpgrade body few desk f = absurd f
few_body r name kind.Plain OfDeletion body few desk f = absurd f
few_body r name (kind.Upgrade new) (OwnTx complete abort env) body few desk f = absurd f
few_body r name (kind.Upgrade new) OfUpgrade body few desk f = f.few
few_body r name (kind.Upgrade new) OfDeletion body few desk f = absurd f
few_body r name kind.Deletion (OwnTx complete abort env) body few desk f = absurd f
few_body r name kind.Deletion OfUpgrade body few desk f = absurd f
few_body r name kind.Deletion OfDeletion body few desk f = absurd f

pub few_bodies : (session : ScriptSession) (opening : Items) (now : SessionNow) (running : Option RunningTx) (place : ℕ) (seat : SeatNow) (number : ℕ) (tx : ClientTx) (body : ScriptedBody Script)
    → IsInStep session opening now running → IsFitting now → slice_get now.seats place ≡ Some seat → tx_at seat.client number ≡ Some tx → tx.body ≡ Scripted body
    → length body.schema.entries ≤ GREATEST_STORE_COUNT
few_bodies session opening now running place seat number tx body u fitting at found is =
    let fits = all_got (λ (s : SeatNow). FitsDesk now.run s.client) now.seats place seat fitting.seats at in
    let f = (tx_found (FitsDrawn (desk_run now.run) seat.client.number) seat.client number tx fits.txs found).0 in
    few_body now.run f.name f.drawn.kind tx.kind body fitting.few u.desk (subst (FitsKind (database_under (desk_run now.run) f.name) f.name f.drawn.kind tx.kind) is f.fits)
