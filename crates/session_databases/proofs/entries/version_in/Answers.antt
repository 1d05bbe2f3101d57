use Rattle.std.proofs.Common.{◌∙◌, sym, ap, option_map}
use Rattle.item_changes.specs.Items.{Database}
use Rattle.session_databases.specs.Sessions.{database_seen}
use Rattle.session_databases.proofs.Seen.{get_of}
use Rattle.session_databases.proofs.entries.version_in.Goals as goal

pub returns-in-Some : goal.returns-in-Some
returns-in-Some g c = sym (ap (option_map (λ (d : Database). d.version)) (get_of database_seen c.args.items.now c.args.name.now ∙ ap (option_map database_seen) (sym c.in-Some.ensures)))

pub returns-in-None : goal.returns-in-None
returns-in-None g c = sym (ap (option_map (λ (d : Database). d.version)) (get_of database_seen c.args.items.now c.args.name.now ∙ ap (option_map database_seen) (sym c.in-None.ensures)))
