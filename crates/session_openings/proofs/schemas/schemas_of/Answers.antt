use Rattle.std.proofs.Common.{sym, ◌∙◌}
use Rattle.std.specs.FinMap as finite
use Rattle.idb_schema.specs.Schemas.{IsSchema}
use Rattle.idb_databases.specs.Views.{database_entry}
use Rattle.session_openings.specs.Opened.{opened_schema}
use Rattle.session_openings.proofs.Listing.{none_past, listed_more, listed_all, all_more}
use Rattle.session_openings.proofs.schemas.schemas_of.Goals as goal

pub unreachable-requires : goal.unreachable-requires
unreachable-requires g c = none_past (finite.entries c.args.databases.now) c.loop-place.place c.len-place-end.result (c.len-place-end.ensures.count ∙ finite.len-entries c.args.databases.now) c.loop-place-test.true c.in-None.ensures

pub loop-place-preserved : goal.loop-place-preserved
loop-place-preserved g c = record {
  made = listed_more opened_schema (finite.entries c.args.databases.now) c.loop-place.place (database_entry c.in-Some.database.now) c.loop-place.schemas c.push.new.self c.in_ok-schema_of-in-Some.field-0
      (sym c.in-Some.ensures) c.loop-place.invariant.made c.in_ok-schema_of-in-Some.ensures.made c.in_ok-push-in-Some.ensures.stored;
  valid = all_more IsSchema c.loop-place.schemas c.push.new.self c.in_ok-schema_of-in-Some.field-0 c.in_ok-push-in-Some.ensures.stored c.loop-place.invariant.valid c.in_ok-schema_of-in-Some.ensures.valid;
}

pub returns-clause-made : goal.returns-clause-made
returns-clause-made g c = listed_all opened_schema (finite.entries c.args.databases.now) c.loop-place.place c.len-place-end.result c.loop-place.schemas (c.len-place-end.ensures.count ∙ finite.len-entries c.args.databases.now) c.loop-place-test.false c.loop-place.invariant.made
