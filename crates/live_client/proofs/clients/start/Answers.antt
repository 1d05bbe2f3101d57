use Rattle.std.proofs.Common.{◌∙◌, ap, Some}
use Rattle.live_stores.specs.Live.{database_at, live_from}
use Rattle.live_client.specs.Plans.{same_plan, asked_all}
use Rattle.live_client.proofs.UpgradesLemmas.{ready_so, started_as, parts_same}
use Rattle.live_client.proofs.clients.start.Goals as goal

pub new-live-requires-after_bounds : goal.new-live-requires-after_bounds
new-live-requires-after_bounds g c κs within = ready_so c.into_parts-schema.result.0 c.into_parts-schema.result.1 c.into_parts-schema.ensures.begun c.place_all.new.front c.place_all.ensures.becomes c.args.throws
    c.live_laws.ensures.body c.leave.new.front c.new-course.result c.in_ok-changes.changes c.new-stores-2.result c.leave.ensures c.new-course.ensures (c.new-stores-2.ensures ∙ ap (λ s. live_from (database_at (Some 1) s)) c.new-stores.ensures) c.in_ok-changes.ensures

pub returns : goal.returns
returns g c =
    started_as c.into_parts-schema.result.0 c.into_parts-schema.result.1 c.into_parts-schema.ensures.begun c.place_all.new.front c.place_all.ensures.becomes c.args.throws
    c.new-live.result (asked_all same_plan c.args.requests c.into_parts-schema.result.1) c.leave.new.front c.new-course.result c.in_ok-changes.changes c.new-stores-2.result c.new-live.ensures c.in_ok-place_all.ensures.placed c.leave.ensures c.new-course.ensures (c.new-stores-2.ensures ∙ ap (λ s. live_from (database_at (Some 1) s)) c.new-stores.ensures) c.in_ok-changes.ensures
    ∙ parts_same c.args.body c.into_parts-schema.result.0 c.into_parts-schema.result.1 c.args.requests c.args.throws c.into_parts-schema.ensures.schema c.into_parts-schema.ensures.front
