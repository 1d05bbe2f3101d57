use Rattle.std.proofs.Common.{true, Some, sym, ap}
use Rattle.idb_databases.specs.Views.{database_alone}
use Rattle.item_changes.specs.Effects.{OnStore, made, is_store_with, if_there}
use Rattle.record_changes.specs.Loosened.{with_indexes}
use Rattle.record_changes.proofs.Maps.{replaced}
use Rattle.record_changes.proofs.loosening.set_indexes_at.Goals as goal

pub insert-requires-after_bounds : goal.insert-requires-after_bounds
insert-requires-after_bounds g c κs within = (c.len-sound.ensures.sound c.args.db.now (database_alone c.in-Some.database) (sym c.in-Some.ensures.taken)).version

pub returns-in_ok-insert-in-Some-clause-made : goal.returns-in_ok-insert-in-Some-clause-made
returns-in_ok-insert-in-Some-clause-made g c =
    replaced c.args.items.now c.remove.new.self c.insert.new.self c.args.db.now c.in_ok-copy-in-Some.field-0 (database_alone c.in-Some.database) (record (database_alone c.in-Some.database) { stores = c.set_indexes_in.new.stores })
    (made (OnStore c.args.name.now (is_store_with (λ _. true)) (if_there (with_indexes c.args.indexes.now))))
    (sym c.in-Some.ensures.taken) c.in-Some.ensures.left c.in_ok-insert-in-Some.ensures.inserted c.in_ok-copy-in-Some.ensures
    (ap (λ s. Some (record (database_alone c.in-Some.database) { stores = s })) (sym c.in_ok-set_indexes_in-in-Some.ensures.made))
