use Rattle.std.proofs.Common.{sym, ◌∙◌}
use Rattle.std.specs.FinMap as finite
use Rattle.idb_databases.specs.Views.{database_entry}
use Rattle.legal_sessions.specs.Legal.{has_of}
use Rattle.session_openings.proofs.Listing.{none_past, listed_more, listed_all}
use Rattle.session_openings.proofs.lines.lines_of.Goals as goal

pub unreachable-requires : goal.unreachable-requires
unreachable-requires g c = none_past (finite.entries c.args.databases.now) c.loop-place.place c.len-place-end.result (c.len-place-end.ensures.count ∙ finite.len-entries c.args.databases.now) c.loop-place-test.true c.in-None.ensures

pub loop-place-preserved : goal.loop-place-preserved
loop-place-preserved g c = listed_more has_of (finite.entries c.args.databases.now) c.loop-place.place (database_entry c.in-Some.database.now) c.loop-place.lines c.push.new.self c.in_ok-line_of-in-Some.field-0
    (sym c.in-Some.ensures) c.loop-place.invariant c.in_ok-line_of-in-Some.ensures c.in_ok-push-in-Some.ensures.stored

pub returns : goal.returns
returns g c = listed_all has_of (finite.entries c.args.databases.now) c.loop-place.place c.len-place-end.result c.loop-place.lines (c.len-place-end.ensures.count ∙ finite.len-entries c.args.databases.now) c.loop-place-test.false c.loop-place.invariant
