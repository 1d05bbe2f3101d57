use Rattle.std.proofs.Common.{◌∙◌, sym, ap, Some, None}
use Rattle.session_databases.specs.Sessions.{database_seen, session_items}
use Rattle.session_databases.proofs.Seen.{got_of, of_without}
use Rattle.session_databases.proofs.entries.take_whole.Goals as goal

pub returns-in-Some-clause-part : goal.returns-in-Some-clause-part
returns-in-Some-clause-part g c = sym (got_of database_seen c.args.items.now.items c.args.name.now (Some c.in-Some.d) c.in-Some.ensures.taken)

pub returns-in-Some-clause-left : goal.returns-in-Some-clause-left
returns-in-Some-clause-left g c = ap session_items c.in-Some.ensures.left ∙ of_without database_seen c.args.items.now.items c.args.name.now

pub returns-in-None-clause-part : goal.returns-in-None-clause-part
returns-in-None-clause-part g c = sym (got_of database_seen c.args.items.now.items c.args.name.now None c.in-None.ensures.taken)

pub returns-in-None-clause-left : goal.returns-in-None-clause-left
returns-in-None-clause-left g c = ap session_items c.in-None.ensures.left ∙ of_without database_seen c.args.items.now.items c.args.name.now
