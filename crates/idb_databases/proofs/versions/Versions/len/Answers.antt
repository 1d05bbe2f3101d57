use Rattle.std.proofs.Common.{◌≡◌, length, sym, ap, ◌∙◌, rules}
use Rattle.std.specs.FinMap as finite
use Rattle.std.specs.FinMap.{find}
use Rattle.item_changes.specs.Items.{name_cmp}
use Rattle.item_changes.proofs.Laws.{one_name}
use Rattle.idb_databases.specs.Stores.{store_alone, IsStoreNamed}
use Rattle.idb_databases.proofs.ByNames.{len_of, get_of, all_found, found_seen}
use Rattle.idb_databases.proofs.versions.Versions.len.Goals as goal

pub returns-clause-count : goal.returns-clause-count
returns-clause-count g c =
    let n : c.len.result ≡ length c.self.inside.items.items = search rules in
    n ∙ sym (len_of name_cmp store_alone c.self.inside.items.items c.self.invariant.sorted) ∙ ap finite.len c.self.view_is

pub returns-clause-sound : goal.returns-clause-sound
returns-clause-sound g c name store e =
    let es = c.self.inside.items.items in
    found_seen store_alone (IsStoreNamed name) (find name_cmp name es) store (sym (get_of name_cmp store_alone es name c.self.invariant.sorted) ∙ ap (λ m. finite.get m name) c.self.view_is ∙ e)
    (λ k f. all_found name_cmp one_name (λ n k. IsStoreNamed n k.store) name es k c.self.invariant.sound f)
