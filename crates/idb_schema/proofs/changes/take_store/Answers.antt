use Rattle.idb_schema.proofs.EntryLaws.{entries_remove}
use Rattle.idb_schema.proofs.changes.take_store.Goals as goal

pub returns-clause-valid : goal.returns-clause-valid
returns-clause-valid c = rw c.remove.ensures.items (entries_remove c.args.entries.now.items c.args.place c.args.next_id c.requires.valid)
