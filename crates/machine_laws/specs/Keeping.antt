-- What the state of a transaction meets at every moment.
--     info_named            the definition of the store of a name;  AreApart: no two stores have one name
--     Shows                 each store of the database is as the schema says, and in an upgrade each store of the schema is there
--     TakesValue, IsPlaced  what was checked of an entry when it was placed, by the schema at its place in the list
--     schema_behind, Waits  the schema behind an entry;  each waiting entry was checked, and they lead to the front's schema
--     IsState               all of it
use Rattle.std.specs.Prelude.{◌≡◌, Bool, true, false, List, [], ◌∷◌, if◌then◌else◌, Option, Some, None, is_some, ⊤}
use Rattle.std.specs.FinMap as finite
use Rattle.clone_values.specs.View.{tree_of}
use Rattle.clone_values.specs.declared.value_types.Value.{Value}
use Rattle.idb_schema.specs.declared.calls.SchemaCall.{SchemaCall}
use Rattle.idb_schema.specs.declared.definitions.StoreInfo.{StoreInfo}
use Rattle.idb_schema.specs.declared.entries.StoreEntry.{StoreEntry}
use Rattle.idb_schema.specs.Schemas.{SchemaData, store_of}
use Rattle.version_upgrade.specs.Upgrades.{refusal_of_schema, schema_after}
use Rattle.idb_calls.specs.declared.calls.Call.{Call}
use Rattle.idb_calls.specs.declared.calls.Call.TheVariants.{Add, Put}
use Rattle.item_changes.specs.Store.{Store}
use Rattle.item_changes.specs.Storing.{CanStore}
use Rattle.item_changes.specs.Items.{Name, Database, is_same_name, stores_in}
use Rattle.request_lists.specs.declared.entries.ListEntry.{ListEntry}
use Rattle.request_lists.specs.declared.entries.ListEntry.TheVariants.{Request, Turn, Change}
use Rattle.request_lists.specs.Fronts.{is_upgrade}
use Rattle.request_lists.specs.Refusals.{is_store_gone}
use Rattle.list_machine.specs.States.{State}
use Rattle.list_machine.specs.Requests.{key_said}
use Rattle.list_machine.specs.Noting.{Noted}

-- ---- the schema and the database
abbrev pub info_named : List StoreEntry → Name → Option StoreInfo
info_named [] name = None
info_named (e ∷ es) name = if is_same_name e.info.name name then Some e.info else info_named es name

abbrev pub AreApart : List StoreEntry → Type 0
AreApart [] = ⊤
AreApart (e ∷ es) = (info_named es e.info.name ≡ None) × AreApart es

-- whole: the database has every store of the schema, and not only those of a scope
pub record Shows (whole : Bool) (schema : SchemaData) (there : Option Database) : Type 0 where
  pub named : (name : Name) (x : Store) → finite.get (stores_in there) name ≡ Some x → info_named schema.entries name ≡ Some x.info
  pub database : whole ≡ true → is_some there ≡ true
  pub all : whole ≡ true → (name : Name) (info : StoreInfo) → info_named schema.entries name ≡ Some info → is_some (finite.get (stores_in there) name) ≡ true

-- ---- the list
abbrev pub TakesValue : Option StoreInfo → Value → Option Value → Type 0
TakesValue None value key = ⊤
TakesValue (Some info) value key = CanStore info.path info.auto (tree_of value) (key_said key)

abbrev pub IsCheckedBy : SchemaData → Call → Type 0
IsCheckedBy schema (Add store value key) = TakesValue (store_of schema store) value key
IsCheckedBy schema (Put store value key) = TakesValue (store_of schema store) value key
IsCheckedBy schema _ = ⊤

pub record IsCheckedChange (whole : Bool) (schema : SchemaData) (call : SchemaCall) : Type 0 where
  pub upgrade : whole ≡ true
  pub there : is_store_gone schema call ≡ false
  pub taken : refusal_of_schema schema call ≡ None

abbrev pub IsPlaced : {D : Type 0} → Bool → SchemaData → ListEntry D → Type 0
IsPlaced whole schema (Request request call handler) = IsCheckedBy schema call
IsPlaced whole schema (Turn cursor call) = ⊤
IsPlaced whole schema (Change call) = IsCheckedChange whole schema call

abbrev pub schema_behind : {D : Type 0} → SchemaData → ListEntry D → SchemaData
schema_behind schema (Request request call handler) = schema
schema_behind schema (Turn cursor call) = schema
schema_behind schema (Change call) = schema_after schema call

-- from the schema as the entries that have run left it to the one as the calls left it
abbrev pub Waits : {D : Type 0} → Bool → SchemaData → List (ListEntry D) → SchemaData → Type 0
Waits whole schema [] last = last ≡ schema
Waits whole schema (entry ∷ entries) last = IsPlaced whole schema entry × Waits whole (schema_behind schema entry) entries last

pub record IsState {D : Type 0} (state : State D) : Type 0 where
  pub apart : AreApart state.schema.entries
  pub shows : Shows (is_upgrade state.front) state.schema state.database
  pub waits : Waits (is_upgrade state.front) state.schema state.front.waiting state.front.schema
  pub noted : Noted state
