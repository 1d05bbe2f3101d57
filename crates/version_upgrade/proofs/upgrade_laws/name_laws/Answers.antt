use Rattle.std.proofs.Common.{◌≡◌, refl}
use Rattle.idb_schema.specs.Definitions.{store_named}
use Rattle.idb_schema.specs.Schemas.{stores_of, place_of}
use Rattle.version_upgrade.proofs.ChangesLemmas as laws
use Rattle.version_upgrade.proofs.upgrade_laws.name_laws.Goals as goal

pub returns-clause-new_store : goal.returns-clause-new_store
returns-clause-new_store c = λ schema name path auto other. laws.new_store schema _ other

pub returns-clause-dropped_store : goal.returns-clause-dropped_store
returns-clause-dropped_store c = λ schema name other h. laws.dropped_store schema name other h.rising (λ p. c.name_laws.ensures.store_stands (stores_of schema) name p) (store_named (stores_of schema) name) refl

pub returns-clause-new_index : goal.returns-clause-new_index
returns-clause-new_index c = λ schema store name path unique multi other some. laws.new_index schema store _ other (λ place. c.change_laws.ensures.place_after_index schema place _ store) (place_of schema store) some refl

pub returns-clause-dropped_index : goal.returns-clause-dropped_index
returns-clause-dropped_index c = λ schema store name other sound. laws.dropped_index schema store name other sound (λ is p. c.name_laws.ensures.index_stands is name p) (λ place at. c.change_laws.ensures.place_after_index_drop schema place at store) (place_of schema store) refl

pub returns-clause-stores_after_index : goal.returns-clause-stores_after_index
returns-clause-stores_after_index c = λ schema store name path unique multi other. laws.stores_stay_with schema _ other (place_of schema store)

pub returns-clause-stores_after_index_drop : goal.returns-clause-stores_after_index_drop
returns-clause-stores_after_index_drop c = λ schema store name other. laws.stores_stay_without schema name other (place_of schema store)

pub returns-clause-others_after_index : goal.returns-clause-others_after_index
returns-clause-others_after_index c = λ schema store id name path unique multi apart. laws.others_with schema store id _ apart (λ place. c.change_laws.ensures.place_after_index schema place _ id) (place_of schema store) refl

pub returns-clause-others_after_index_drop : goal.returns-clause-others_after_index_drop
returns-clause-others_after_index_drop c = λ schema store id name apart. laws.others_without schema store id name apart (λ place at. c.change_laws.ensures.place_after_index_drop schema place at id) (place_of schema store) refl
