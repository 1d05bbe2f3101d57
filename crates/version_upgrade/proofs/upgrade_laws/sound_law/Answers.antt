use Rattle.std.proofs.Common.{◌≡◌, Option, Some, None, option_map, unwrap_or, refl, ap}
use Rattle.std.specs.Prelude.{is_some}
use Rattle.std.specs.Option.{option_and_then}
use Rattle.idb_schema.specs.declared.calls.SchemaCall.{SchemaCall}
use Rattle.idb_schema.specs.declared.calls.SchemaCall.TheVariants.{CreateStore, DropStore, CreateIndex, DropIndex}
use Rattle.idb_schema.specs.Definitions.{index_named, store_named}
use Rattle.idb_schema.specs.Schemas.{SchemaData, stores_of, indexes_at, place_of}
use Rattle.idb_schema.specs.Sound.{AreSound}
use Rattle.version_upgrade.specs.Upgrades.{refusal_of_schema, schema_after}
use Rattle.version_upgrade.proofs.SoundLemmas.{sound_after}
use Rattle.version_upgrade.proofs.upgrade_laws.sound_law.Goals as goal

pub returns : goal.returns
returns c = sound_after c.sound_laws.ensures.new_store c.sound_laws.ensures.dropped_store c.sound_laws.ensures.new_index c.sound_laws.ensures.dropped_index
