use Rattle.std.proofs.Common.{ap, ◌∙◌}
use Rattle.idb_keys.specs.declared.names.Mode.TheVariants as mode
use Rattle.idb_schema.specs.Schemas.{new_schema}
use Rattle.request_lists.specs.Fronts.{new_front}
use Rattle.live_client.proofs.BodiesLemmas.{begun_new}
use Rattle.live_client.proofs.bodies.Body.new.Goals as goal

pub invariant_of-result : goal.invariant_of-result
invariant_of-result c = begun_new c.args.name c.in_ok-schema.schema c.in_ok-copy.copy c.new-front.result (c.in_ok-schema.ensures ∙ ap (new_schema c.args.name 2) c.new.ensures) c.in_ok-copy.ensures
    (c.new-front.ensures ∙ ap (new_front mode.VersionChange c.in_ok-copy.copy) c.new-3.ensures)
