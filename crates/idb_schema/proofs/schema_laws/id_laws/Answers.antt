use Rattle.idb_schema.proofs.PlaceLaws.{store_placed, index_placed}
use Rattle.idb_schema.proofs.DefinitionLaws.{store_defined, index_defined}
use Rattle.idb_schema.proofs.schema_laws.id_laws.Goals as goal

pub returns-clause-store : goal.returns-clause-store
returns-clause-store c = λ schema id place h. store_placed schema id place h

pub returns-clause-index : goal.returns-clause-index
returns-clause-index c = λ schema id store place h. index_placed schema id store place h

pub returns-clause-store_definition : goal.returns-clause-store_definition
returns-clause-store_definition c = store_defined

pub returns-clause-index_definition : goal.returns-clause-index_definition
returns-clause-index_definition c = index_defined
