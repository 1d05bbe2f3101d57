use Rattle.std.proofs.Common.{refl}
use Rattle.idb_schema.specs.Schemas.{entry_with_index, entry_without_index}
use Rattle.idb_schema.proofs.IdLaws.{place_kept}
use Rattle.idb_schema.proofs.DefinitionLaws as laws
use Rattle.idb_schema.proofs.schema_laws.change_laws.Goals as goal

pub returns-clause-new_store : goal.returns-clause-new_store
returns-clause-new_store c = laws.store_new

pub returns-clause-store_after_new : goal.returns-clause-store_after_new
returns-clause-store_after_new c = laws.store_after_new

pub returns-clause-index_after_new : goal.returns-clause-index_after_new
returns-clause-index_after_new c = laws.index_after_new

pub returns-clause-dropped_store : goal.returns-clause-dropped_store
returns-clause-dropped_store c = laws.store_dropped

pub returns-clause-store_after_drop : goal.returns-clause-store_after_drop
returns-clause-store_after_drop c = laws.store_after_drop

pub returns-clause-index_after_drop : goal.returns-clause-index_after_drop
returns-clause-index_after_drop c = laws.index_after_drop

pub returns-clause-dropped_with_store : goal.returns-clause-dropped_with_store
returns-clause-dropped_with_store c = laws.index_dropped_with_store

pub returns-clause-store_after_index : goal.returns-clause-store_after_index
returns-clause-store_after_index c = laws.store_after_index

pub returns-clause-store_after_index_drop : goal.returns-clause-store_after_index_drop
returns-clause-store_after_index_drop c = laws.store_after_index_drop

pub returns-clause-new_index : goal.returns-clause-new_index
returns-clause-new_index c = laws.index_new

pub returns-clause-index_after_index : goal.returns-clause-index_after_index
returns-clause-index_after_index c = laws.index_after_index

pub returns-clause-dropped_index : goal.returns-clause-dropped_index
returns-clause-dropped_index c = laws.index_dropped

pub returns-clause-index_after_index_drop : goal.returns-clause-index_after_index_drop
returns-clause-index_after_index_drop c = laws.index_after_index_drop

pub returns-clause-place_after_index : goal.returns-clause-place_after_index
returns-clause-place_after_index c = λ schema store info id. place_kept (λ e. entry_with_index e info) (λ e. refl) schema.entries store id.number

pub returns-clause-place_after_index_drop : goal.returns-clause-place_after_index_drop
returns-clause-place_after_index_drop c = λ schema store place id. place_kept (λ e. entry_without_index e place) (λ e. refl) schema.entries store id.number
