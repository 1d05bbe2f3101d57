use Rattle.std.proofs.Common.{option_map, sym, ap, ◌∙◌}
use Rattle.item_changes.specs.Items.{store_at}
use Rattle.store_changes.specs.Making.{breaks}
use Rattle.record_changes.specs.Loosened.{with_indexes, meant, aside_of, with_indexes_at}
use Rattle.record_changes.proofs.Back.{one_back, meant_here}
use Rattle.record_changes.proofs.restoring.restore_one.Goals as goal

pub returns-in-Ok-clause-made : goal.returns-in-Ok-clause-made
returns-in-Ok-clause-made g c =
    let items = c.args.items.now in
    let db = c.args.db.now in
    let kept = c.in_ok-kept.kept.store in
    ap (λ m. meant m (aside_of db c.take_last.new.stores)) (c.in-Ok.ensures.made ∙ λ i. with_indexes_at items db (c.info-info.ensures.info i).name (c.info-info.ensures.info i).indexes)
    ∙ ap (λ s. meant (with_indexes_at items db kept.info.name kept.info.indexes) (aside_of db s)) c.in_ok-kept.ensures.left
    ∙ one_back items db kept.info.name c.args.aside.now kept c.in_ok-kept.ensures.there

pub returns-clause-damaged : goal.returns-clause-damaged
returns-clause-damaged g c = λ h.
    let items = c.args.items.now in
    let db = c.args.db.now in
    let kept = c.in_ok-kept.kept.store in
    record {
      name = kept.info.name;
      broken = ap breaks (meant_here items db kept.info.name c.args.aside.now kept c.in_ok-kept.ensures.there ∙ λ i. option_map (with_indexes (sym c.info-info.ensures.info i).indexes) (store_at items db (sym c.info-info.ensures.info i).name)) ∙ c.in-Err.ensures.damaged h;
    }
