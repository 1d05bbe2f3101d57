-- Bodies of upgrades.
--     begun_new, begun_more             a body that begins, and one that went on
use Rattle.std.proofs.Common.{◌≡◌, ℕ, List, [], refl, sym, ◌∙◌, ap, subst}
use Rattle.idb_keys.specs.declared.names.Mode.TheVariants as mode
use Rattle.idb_schema.specs.Schemas.{SchemaData, new_schema}
use Rattle.request_lists.specs.Fronts.{Front, new_front}
use Rattle.request_lists.specs.Placing.{Becomes, Stays}
use Rattle.request_lists.proofs.Laws.{becomes_again}
use Rattle.live_client.specs.Plans.{Plan}
use Rattle.live_client.specs.Bodies.{IsBegun}

pub begun_new : (name : List ℕ) (schema copy : SchemaData) (front : Front Plan) → schema ≡ new_schema name 2 [] → copy ≡ schema → front ≡ new_front mode.VersionChange copy [] → IsBegun schema front
begun_new name schema copy front new same is = record {
  version = subst (λ (s : SchemaData). s.version ≡ 2) (sym new) refl;
  stores = subst (λ (s : SchemaData). s ≡ new_schema s.name s.version []) (sym new) refl;
  grew = subst (Becomes (new_front mode.VersionChange schema [])) (sym (is ∙ ap (λ s. new_front mode.VersionChange s []) same)) Stays;
}

pub begun_more : (schema : SchemaData) (front last : Front Plan) → IsBegun schema front → Becomes front last → IsBegun schema last
begun_more schema front last begun more = record { version = begun.version; stores = begun.stores; grew = becomes_again (new_front mode.VersionChange schema []) front last begun.grew more }
