use Rattle.std.proofs.Common.{◌≡◌, length, sym, ap, ◌∙◌, rules}
use Rattle.std.specs.FinMap as finite
use Rattle.std.specs.FinMap.{find}
use Rattle.item_changes.specs.Items.{name_cmp}
use Rattle.item_changes.proofs.Laws.{one_name}
use Rattle.idb_databases.specs.Views.{database_alone}
use Rattle.idb_databases.specs.Items.{IsDatabase}
use Rattle.idb_databases.proofs.ByNames.{len_of, get_of, all_found, found_seen}
use Rattle.idb_databases.proofs.databases.Databases.len.Goals as goal

pub returns-clause-count : goal.returns-clause-count
returns-clause-count g c =
    let n : c.len.result ≡ length c.self.inside.items.items = search rules in
    n ∙ sym (len_of name_cmp database_alone c.self.inside.items.items c.self.invariant.sorted) ∙ ap finite.len c.self.view_is

pub returns-clause-sound : goal.returns-clause-sound
returns-clause-sound g c name d e =
    let es = c.self.inside.items.items in
    found_seen database_alone IsDatabase (find name_cmp name es) d (sym (get_of name_cmp database_alone es name c.self.invariant.sorted) ∙ ap (λ m. finite.get m name) c.self.view_is ∙ e)
    (λ x f. (all_found name_cmp one_name (λ n y. (y.name ≡ n) × IsDatabase (database_alone y)) name es x c.self.invariant.sound f).1)
