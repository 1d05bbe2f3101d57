use Rattle.std.proofs.Common.{Some, sym, ap, ◌∙◌}
use Rattle.item_changes.specs.Effects.{if_there}
use Rattle.record_changes.specs.Loosened.{with_indexes}
use Rattle.record_changes.proofs.Maps.{replaced}
use Rattle.record_changes.proofs.loosening.set_indexes_in.Goals as goal

pub returns-in_ok-insert-in-Some-clause-made : goal.returns-in_ok-insert-in-Some-clause-made
returns-in_ok-insert-in-Some-clause-made g c =
    let name = c.args.name.now in
    let now = c.settle.ensures.store ∙ c.in_ok-set_indexes-in-Some.ensures.made in
    replaced c.args.stores.now c.remove.new.self c.insert.new.self name c.settle.new.self.store.info.name c.in-Some.store.store c.settle.new.self.store
    (if_there (with_indexes c.args.indexes.now)) (sym c.in-Some.ensures.taken) c.in-Some.ensures.left c.in_ok-insert-in-Some.ensures.inserted
    (ap (λ s. s.info.name) now ∙ (c.len-sound.ensures.sound name c.in-Some.store.store (sym c.in-Some.ensures.taken)).0)
    (ap Some (sym now))
