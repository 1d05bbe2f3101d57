-- A transaction whose body has run.
--     BegunState            its durability, and what it begins with
--     scripted_body         what these parts begin with; its handlers are plain data
use Rattle.std.specs.Prelude.{Bool, List}
use Rattle.idb_keys.specs.declared.names.Mode.{Mode}
use Rattle.idb_keys.specs.declared.names.Durability.{Durability}
use Rattle.idb_schema.specs.Schemas.{SchemaData}
use Rattle.item_changes.specs.Items.{Name}
use Rattle.request_lists.specs.Fronts.{Front, front_map}
use Rattle.client_seats.specs.FinishEntries.{ScriptedBody}
use Rattle.script_handlers.specs.declared.handlers.ScriptHandler.{ScriptHandler}
use Rattle.script_handlers.specs.Handling.{Script}
use Rattle.script_handlers.specs.Seeing.{script_seen}

pub record BegunState : Type 0 where
  pub durability : Durability
  pub body : ScriptedBody Script

abbrev pub scripted_body : Mode → SchemaData → List Name → Front ScriptHandler → Bool → ScriptedBody Script
scripted_body m schema scope front threw = record { mode = m; schema = schema; names = scope; front = front_map script_seen front; threw = threw }
