use Rattle.std.proofs.Common.{◌≡◌, sym, ap, ◌∙◌}
use Rattle.std.specs.FinMap as finite
use Rattle.std.specs.FinMap.Entries.{is_sorted-put}
use Rattle.item_changes.specs.Items.{name_cmp}
use Rattle.item_changes.proofs.Laws.{names_total, one_name}
use Rattle.idb_databases.specs.Views.{database_alone, items_seen}
use Rattle.idb_databases.specs.Items.{IsDatabase}
use Rattle.idb_databases.proofs.ByNames.{of_put, all_put}
use Rattle.idb_databases.proofs.databases.Databases.insert.Goals as goal

pub invariant_of-self-2 : goal.invariant_of-self-2
invariant_of-self-2 g c =
    let es = c.self.inside.items.items in
    let name : c.in_ok-name.name ≡ c.args.database.name = c.in_ok-name.ensures.cases in
    record {
      sorted = rw c.in_ok-put_in.ensures.stored (is_sorted-put name_cmp names_total c.in_ok-name.name c.args.database es c.self.invariant.sorted);
      sound = rw c.in_ok-put_in.ensures.stored (all_put name_cmp one_name (λ n d. (d.name ≡ n) × IsDatabase (database_alone d)) c.in_ok-name.name c.args.database es c.self.invariant.sound
          (sym name, record { version = c.requires; stores = c.len-stores.ensures.sound }));
    }

pub returns-clause-inserted : goal.returns-clause-inserted
returns-clause-inserted g c =
    let name : c.in_ok-name.name ≡ c.args.database.name = c.in_ok-name.ensures.cases in
    ap items_seen c.in_ok-put_in.ensures.stored
    ∙ of_put name_cmp database_alone names_total one_name c.self.inside.items.items c.in_ok-name.name c.args.database c.self.invariant.sorted
    ∙ ap (λ m. finite.insert m c.in_ok-name.name (database_alone c.args.database)) c.self.view_is
    ∙ ap (λ n. finite.insert c.args.self.now n (database_alone c.args.database)) name
