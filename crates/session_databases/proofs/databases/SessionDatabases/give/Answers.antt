use Rattle.std.proofs.Common.{◌∙◌, ap, option_map}
use Rattle.item_changes.specs.Items.{changed_at, stores_in}
use Rattle.live_stores.specs.Live.{database_at}
use Rattle.session_databases.specs.Parts.{joined_with}
use Rattle.session_databases.specs.Sessions.{session_items}
use Rattle.session_databases.proofs.Parts.{stores_held}
use Rattle.session_databases.proofs.databases.SessionDatabases.give.Goals as goal

pub returns-in-ReadOnly : goal.returns-in-ReadOnly
returns-in-ReadOnly g c = record {
  given = rw c.in-ReadOnly.is (
      c.in_ok-give_some-in-ReadOnly.ensures.given
      ∙ ap (λ stores. changed_at (session_items c.self.inside.items.items) c.args.database.now (option_map (joined_with c.args.names.now stores))) (stores_held c.args.version c.args.stores c.requires)
      ∙ ap (λ items. changed_at items c.args.database.now (option_map (joined_with c.args.names.now (stores_in (database_at c.args.version c.args.stores))))) c.self.view_is);
}

pub returns-in-ReadWrite : goal.returns-in-ReadWrite
returns-in-ReadWrite g c = record {
  given = rw c.in-ReadWrite.is (
      c.in_ok-give_some-in-ReadWrite.ensures.given
      ∙ ap (λ stores. changed_at (session_items c.self.inside.items.items) c.args.database.now (option_map (joined_with c.args.names.now stores))) (stores_held c.args.version c.args.stores c.requires)
      ∙ ap (λ items. changed_at items c.args.database.now (option_map (joined_with c.args.names.now (stores_in (database_at c.args.version c.args.stores))))) c.self.view_is);
}
