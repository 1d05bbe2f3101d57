use Rattle.session_openings.proofs.Showing.{shows_items, are_openable, are_few}
use Rattle.session_openings.proofs.openings.open_databases.Goals as goal

pub returns-clause-shows : goal.returns-clause-shows
returns-clause-shows g c = shows_items c.args.databases c.in_ok-schemas.schemas c.in_ok-schemas.ensures.made c.in_ok-schemas.ensures.valid c.len-count.ensures.sound

pub returns-clause-openable : goal.returns-clause-openable
returns-clause-openable g c = are_openable c.args.databases c.in_ok-schemas.schemas c.in_ok-schemas.ensures.made c.len-count.ensures.sound

pub returns-clause-few : goal.returns-clause-few
returns-clause-few g c = are_few c.args.databases c.in_ok-schemas.schemas c.in_ok-schemas.ensures.made c.requires.within
