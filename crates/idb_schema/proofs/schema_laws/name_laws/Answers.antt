use Rattle.idb_schema.proofs.NameLaws.{name_stands, name_absent, name_found}
use Rattle.idb_schema.proofs.schema_laws.name_laws.Goals as goal

pub returns-clause-store_stands : goal.returns-clause-store_stands
returns-clause-store_stands c = λ stores name place. name_stands (λ s. s.name) name stores place

pub returns-clause-store_absent : goal.returns-clause-store_absent
returns-clause-store_absent c = λ stores name place. name_absent (λ s. s.name) name stores place

pub returns-clause-index_stands : goal.returns-clause-index_stands
returns-clause-index_stands c = λ indexes name place. name_stands (λ i. i.name) name indexes place

pub returns-clause-index_absent : goal.returns-clause-index_absent
returns-clause-index_absent c = λ indexes name place. name_absent (λ i. i.name) name indexes place

pub returns-clause-found : goal.returns-clause-found
returns-clause-found c = λ schema name place h. name_found schema.entries schema.next_id place name h
