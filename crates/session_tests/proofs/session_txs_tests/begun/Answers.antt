use Rattle.std.proofs.Common.{◌≡◌, ℕ, Bool, List, [], Some, None, refl, sym, ◌∙◌, ap, subst, arith}
use Rattle.std.specs.FinMap as finite
use Rattle.idb_keys.specs.declared.names.Mode.TheVariants as mode
use Rattle.idb_schema.specs.Schemas.{SchemaData, new_schema}
use Rattle.item_changes.specs.Items.{Name, name_cmp}
use Rattle.request_lists.specs.Fronts.{Front}
use Rattle.serial_order.specs.NumberOrder.{FitsWhole}
use Rattle.script_handlers.specs.declared.handlers.ScriptHandler.{ScriptHandler}
use Rattle.client_parts.specs.Begun.{BegunState, scripted_body}
use Rattle.session_txs.specs.Running.{IsLoggableBody}
use Rattle.session_tests.proofs.session_txs_tests.begun.Goals as goal

-- a new database has no stores, and no version that is to be raised
first_fits : (name : Name) (version : ℕ) (names : List Name) (front : Front ScriptHandler) (threw : Bool) → FitsWhole None (scripted_body mode.VersionChange (new_schema name version []) names front threw)
first_fits name version names front threw = record {
  schema = record { rising = refl; ids = tt; each = tt };
  shows = record {
    named = λ q x at. let no : None ≡ Some x = sym (finite.get-empty name_cmp q) ∙ at in cc;
    database = λ e. refl;
    all = λ e q info at. cc;
  };
  raised = refl;
}

fits_as : (name : Name) (version : ℕ) (names : List Name) (front : Front ScriptHandler) (threw : Bool) (schema : SchemaData) → schema ≡ new_schema name version []
    → (begun : BegunState) → begun.body ≡ scripted_body mode.VersionChange schema names front threw → FitsWhole None begun.body
fits_as name version names front threw schema new begun is = subst (FitsWhole None) (sym (is ∙ ap (λ s. scripted_body mode.VersionChange s names front threw) new)) (first_fits name version names front threw)

pub returns-clause-fits : goal.returns-clause-fits
returns-clause-fits g c =
    let is = rw c.expect-schema.ensures at c.new.ensures in
    fits_as _ 1 _ _ _ _ (is ∙ ap (new_schema _ 1) c.new-stores.ensures) c.new-tx.result (ap (λ (b : BegunState). b.body) c.new-tx.ensures)

logs_as : (name : Name) (names : List Name) (front : Front ScriptHandler) (threw : Bool) (schema : SchemaData) → schema ≡ new_schema name 1 []
    → (begun : BegunState) → begun.body ≡ scripted_body mode.VersionChange schema names front threw → IsLoggableBody begun.body
logs_as name names front threw schema new begun is = subst IsLoggableBody (sym (is ∙ ap (λ s. scripted_body mode.VersionChange s names front threw) new)) (record { version = λ e. refl; few = omega arith })

pub returns-clause-loggable : goal.returns-clause-loggable
returns-clause-loggable g c =
    let is = rw c.expect-schema.ensures at c.new.ensures in
    logs_as _ _ _ _ _ (is ∙ ap (new_schema _ 1) c.new-stores.ensures) c.new-tx.result (ap (λ (b : BegunState). b.body) c.new-tx.ensures)
