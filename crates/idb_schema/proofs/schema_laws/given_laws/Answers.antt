use Rattle.idb_schema.proofs.GivenLaws as laws
use Rattle.idb_schema.proofs.schema_laws.given_laws.Goals as goal

pub returns-clause-store : goal.returns-clause-store
returns-clause-store c = laws.named_was_given

pub returns-clause-index : goal.returns-clause-index
returns-clause-index c = laws.named_index_was_given

pub returns-clause-next_store : goal.returns-clause-next_store
returns-clause-next_store c = laws.not_next

pub returns-clause-next_index : goal.returns-clause-next_index
returns-clause-next_index c = laws.not_next_index

pub returns-clause-new_store : goal.returns-clause-new_store
returns-clause-new_store c = laws.given_after_store

pub returns-clause-dropped_store : goal.returns-clause-dropped_store
returns-clause-dropped_store c = laws.given_after_drop

pub returns-clause-new_index : goal.returns-clause-new_index
returns-clause-new_index c = laws.given_after_index

pub returns-clause-dropped_index : goal.returns-clause-dropped_index
returns-clause-dropped_index c = laws.given_after_index_drop
