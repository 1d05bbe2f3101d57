-- The body of an upgrade, so far (Indexed Database API 3.0, "upgrade a database").
--     BodyData, new_body    the schema and the front of a body;  of one that has called nothing
--     with_body_front       with another front
--     IsBegun               the front is what calls made of a new one of an upgrade without stores
--     as_left               the front as a body leaves it that returns or throws
use Rattle.std.specs.Prelude.{◌≡◌, ℕ, Bool, List, [], if◌then◌else◌}
use Rattle.idb_keys.specs.declared.names.Mode.TheVariants as mode
use Rattle.idb_schema.specs.Schemas.{SchemaData, new_schema}
use Rattle.request_lists.specs.Fronts.{Front, new_front}
use Rattle.request_lists.specs.Placing.{after_rest, after_throw, Becomes}
use Rattle.live_client.specs.Plans.{Plan}

pub record BodyData : Type 0 where
  pub schema : SchemaData
  pub front : Front Plan

-- an upgrade to version 2
abbrev pub new_body : List ℕ → BodyData
new_body name = record { schema = new_schema name 2 []; front = new_front mode.VersionChange (new_schema name 2 []) [] }

abbrev pub with_body_front : BodyData → Front Plan → BodyData
with_body_front body front = record body { front = front }

-- the schema has no stores
pub record IsBegun (schema : SchemaData) (front : Front Plan) : Type 0 where
  pub version : schema.version ≡ 2
  pub stores : schema ≡ new_schema schema.name schema.version []
  pub grew : Becomes (new_front mode.VersionChange schema []) front

abbrev pub as_left : Bool → Front Plan → Front Plan
as_left threw front = if threw then after_throw front else after_rest front
