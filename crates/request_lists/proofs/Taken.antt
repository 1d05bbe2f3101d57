-- What is known of a call that is not refused.
use Rattle.std.proofs.Common.{◌≡◌, Option, Some, None}
use Rattle.std.specs.Option.{option_or}
use Rattle.idb_schema.specs.declared.calls.SchemaCall.{SchemaCall}
use Rattle.version_upgrade.specs.Upgrades.{refusal_of_schema}
use Rattle.request_lists.specs.Fronts.{Front}
use Rattle.request_lists.specs.Refusals.{refusal_of_change}

none_behind : {A : Type 0} (o p : Option A) → option_or o p ≡ None → p ≡ None
none_behind None p e = e
none_behind (Some x) p e = cc

pub schema_taken : {D : Type 0} (front : Front D) (call : SchemaCall) → refusal_of_change call front ≡ None → refusal_of_schema front.schema call ≡ None
schema_taken front call e = none_behind _ _ e
