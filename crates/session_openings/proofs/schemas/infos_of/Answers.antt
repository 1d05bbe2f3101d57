use Rattle.std.proofs.Common.{sym, ◌∙◌}
use Rattle.std.specs.FinMap as finite
use Rattle.idb_databases.specs.Stores.{store_entry}
use Rattle.session_openings.proofs.Listing.{none_past, listed_more, listed_all}
use Rattle.session_openings.proofs.Stores.{info_there, may_push}
use Rattle.session_openings.proofs.schemas.infos_of.Goals as goal

pub unreachable-requires : goal.unreachable-requires
unreachable-requires g c = none_past (finite.entries c.args.stores.now) c.loop-place.place c.len-place-end.result (c.len-place-end.ensures.count ∙ finite.len-entries c.args.stores.now) c.loop-place-test.true c.in-None.ensures

pub push-requires : goal.push-requires
push-requires g c = may_push c.args.stores.now c.loop-place.place (store_entry c.in-Some.store.now) c.loop-place.infos c.in_ok-copy-in-Some.field-0 c.len-place-end.ensures.sound
    (sym c.in-Some.ensures) c.loop-place.invariant (c.in_ok-copy-in-Some.ensures ∙ c.info.ensures.info)

pub loop-place-preserved : goal.loop-place-preserved
loop-place-preserved g c = listed_more info_there (finite.entries c.args.stores.now) c.loop-place.place (store_entry c.in-Some.store.now) c.loop-place.infos c.push.new.self c.in_ok-copy-in-Some.field-0
    (sym c.in-Some.ensures) c.loop-place.invariant (c.in_ok-copy-in-Some.ensures ∙ c.info.ensures.info) c.in_ok-push-in-Some.ensures.stored

pub returns : goal.returns
returns g c = listed_all info_there (finite.entries c.args.stores.now) c.loop-place.place c.len-place-end.result c.loop-place.infos (c.len-place-end.ensures.count ∙ finite.len-entries c.args.stores.now) c.loop-place-test.false c.loop-place.invariant
