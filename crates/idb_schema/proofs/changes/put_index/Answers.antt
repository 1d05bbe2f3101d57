use Rattle.std.proofs.lemmas.Result.{on_ok_weaker}
use Rattle.idb_schema.specs.Schemas.{entry_with_index}
use Rattle.idb_schema.proofs.EntryLaws.{indexed_valid, changed_there}
use Rattle.idb_schema.proofs.changes.put_index.Goals as goal

pub returns-clause-valid : goal.returns-clause-valid
returns-clause-valid c = indexed_valid c.add_index.result c.args.entries.now.items c.args.store c.args.next_id c.index_mut.result.now c.add_index.new.self c.args.index c.index_mut.ensures.value c.requires.in_range c.add_index.ensures.added c.add_index.ensures.unchanged c.requires.valid

pub returns-clause-added : goal.returns-clause-added
returns-clause-added c = on_ok_weaker c.add_index.result (changed_there (λ e. entry_with_index e c.args.index) c.args.entries.now.items c.args.store c.index_mut.result.now c.add_index.new.self c.index_mut.ensures.value) c.add_index.ensures.added
