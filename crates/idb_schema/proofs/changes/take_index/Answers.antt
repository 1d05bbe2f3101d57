use Rattle.idb_schema.specs.Schemas.{entry_without_index}
use Rattle.idb_schema.proofs.EntryLaws.{unindexed_valid, changed_there}
use Rattle.idb_schema.proofs.changes.take_index.Goals as goal

pub returns-clause-valid : goal.returns-clause-valid
returns-clause-valid c = unindexed_valid c.args.entries.now.items c.args.store c.args.next_id c.index_mut.result.now c.drop_index.new.self c.args.place c.index_mut.ensures.value c.requires.in_range c.drop_index.ensures c.requires.valid

pub returns-clause-left : goal.returns-clause-left
returns-clause-left c = changed_there (λ e. entry_without_index e c.args.place) c.args.entries.now.items c.args.store c.index_mut.result.now c.drop_index.new.self c.index_mut.ensures.value c.drop_index.ensures
