use Rattle.record_changes.proofs.Asides.{put_too}
use Rattle.record_changes.proofs.loosening.put_aside.Goals as goal

pub returns : goal.returns
returns g c =
    put_too c.args.aside.now c.take_stores-stores.new.aside c.insert-2.new.self c.args.db.now c.in_ok-copy.field-0 c.args.store.store.info.name
    c.take_stores-stores.result c.insert.new.self c.args.store.store 1
    c.take_stores-stores.ensures.stores c.take_stores-stores.ensures.left c.in_ok-insert.ensures.inserted c.in_ok-insert-2.ensures.inserted c.in_ok-copy.ensures
