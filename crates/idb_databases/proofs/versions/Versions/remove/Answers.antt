use Rattle.std.proofs.Common.{sym, ap, ◌∙◌, not, option_map}
use Rattle.std.specs.Ordering.{eq_by_cmp}
use Rattle.std.specs.FinMap as finite
use Rattle.std.specs.FinMap.Entries.{is_sorted-where_key}
use Rattle.item_changes.specs.Items.{name_cmp}
use Rattle.item_changes.proofs.Laws.{names_total, one_name}
use Rattle.idb_databases.specs.Stores.{store_alone, stores_seen, IsStoreNamed}
use Rattle.idb_databases.proofs.ByNames.{get_of, of_without, all_without}
use Rattle.idb_databases.proofs.versions.Versions.remove.Goals as goal

pub invariant_of-self : goal.invariant_of-self
invariant_of-self g c =
    let es = c.self.inside.items.items in
    record {
      sorted = rw c.take_from.ensures.left (is_sorted-where_key name_cmp (λ x. not (eq_by_cmp name_cmp c.args.name.now x)) es c.self.invariant.sorted);
      sound = rw c.take_from.ensures.left (all_without name_cmp one_name (λ n k. IsStoreNamed n k.store) c.args.name.now es c.self.invariant.sound);
    }

pub returns-clause-taken : goal.returns-clause-taken
returns-clause-taken g c =
    ap (option_map store_alone) c.take_from.ensures.taken
    ∙ sym (get_of name_cmp store_alone c.self.inside.items.items c.args.name.now c.self.invariant.sorted)
    ∙ ap (λ m. finite.get m c.args.name.now) c.self.view_is

pub returns-clause-left : goal.returns-clause-left
returns-clause-left g c =
    ap stores_seen c.take_from.ensures.left
    ∙ of_without name_cmp store_alone names_total one_name c.self.inside.items.items c.args.name.now c.self.invariant.sorted
    ∙ ap (λ m. finite.remove m c.args.name.now) c.self.view_is
