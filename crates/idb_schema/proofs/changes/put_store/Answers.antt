use Rattle.std.proofs.Common.{◌+◌, arith, sym}
use Rattle.idb_schema.specs.Schemas.{new_entry}
use Rattle.idb_schema.proofs.EntryLaws.{entries_put}
use Rattle.idb_schema.proofs.NamePlaces.{put_there}
use Rattle.idb_schema.proofs.changes.put_store.Goals as goal

pub returns-clause-valid : goal.returns-clause-valid
returns-clause-valid c =
    let fits = rw (c.deref.ensures.value, c.as_str.ensures.value) at c.in-Err.ensures.fits in
    rw (c.in_ok-insert-in-Err.ensures.items, c.in_ok-entry-in-Err.ensures) (entries_put c.args.entries.now.items c.in-Err.place c.args.next_id.now (c.args.next_id.now + 1) c.args.info c.requires.valid fits (omega arith))

pub returns-clause-added : goal.returns-clause-added
returns-clause-added c =
    let fits = rw (c.deref.ensures.value, c.as_str.ensures.value) at c.in-Err.ensures.fits in
    rw (c.in_ok-insert-in-Err.ensures.items, c.in_ok-entry-in-Err.ensures) (sym (put_there c.args.entries.now.items c.in-Err.place (new_entry c.args.info c.args.next_id.now) fits))
