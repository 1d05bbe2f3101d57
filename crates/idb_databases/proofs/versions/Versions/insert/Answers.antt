use Rattle.std.proofs.Common.{◌≡◌, sym, ap, ◌∙◌}
use Rattle.std.specs.FinMap as finite
use Rattle.std.specs.FinMap.Entries.{is_sorted-put}
use Rattle.item_changes.specs.Items.{name_cmp}
use Rattle.item_changes.proofs.Laws.{names_total, one_name}
use Rattle.idb_databases.specs.Stores.{store_alone, stores_seen, IsStoreNamed}
use Rattle.idb_databases.proofs.ByNames.{of_put, all_put}
use Rattle.idb_databases.proofs.versions.Versions.insert.Goals as goal

pub invariant_of-self-2 : goal.invariant_of-self-2
invariant_of-self-2 g c =
    let es = c.self.inside.items.items in
    let name : c.in_ok-name.name ≡ c.info.result.now.name = c.in_ok-name.ensures.cases in
    let own : c.args.store.store.info.name ≡ c.in_ok-name.name = sym (name ∙ ap (λ i. i.name) c.info.ensures.info) in
    record {
      sorted = rw c.in_ok-put_in.ensures.stored (is_sorted-put name_cmp names_total c.in_ok-name.name c.args.store es c.self.invariant.sorted);
      sound = rw c.in_ok-put_in.ensures.stored (all_put name_cmp one_name (λ n k. IsStoreNamed n k.store) c.in_ok-name.name c.args.store es c.self.invariant.sound (own, c.info.ensures.sound));
    }

pub returns-clause-inserted : goal.returns-clause-inserted
returns-clause-inserted g c =
    let name : c.in_ok-name.name ≡ c.info.result.now.name = c.in_ok-name.ensures.cases in
    ap stores_seen c.in_ok-put_in.ensures.stored
    ∙ of_put name_cmp store_alone names_total one_name c.self.inside.items.items c.in_ok-name.name c.args.store c.self.invariant.sorted
    ∙ ap (λ m. finite.insert m c.in_ok-name.name c.args.store.store) c.self.view_is
    ∙ ap (λ n. finite.insert c.args.self.now n c.args.store.store) (name ∙ ap (λ i. i.name) c.info.ensures.info)
