use Rattle.idb_schema.proofs.Laws.{sound_from, sound_put, sound_changed, with_one_more, with_one_less, indexes_there}
use Rattle.idb_schema.proofs.schema_laws.sound_laws.Goals as goal

pub returns-clause-new_schema : goal.returns-clause-new_schema
returns-clause-new_schema c = λ name version stores sound. sound_from 0 stores sound

pub returns-clause-new_store : goal.returns-clause-new_store
returns-clause-new_store c = λ schema info sound fits. sound_put schema.entries _ sound fits

pub returns-clause-new_index : goal.returns-clause-new_index
returns-clause-new_index c = λ schema store index sound fits new.
    sound_changed schema.entries store _ sound (λ e at holds. with_one_more e.info holds index fits (indexes_there schema.entries store e index.name at new))

pub returns-clause-dropped_index : goal.returns-clause-dropped_index
returns-clause-dropped_index c = λ schema store place sound. sound_changed schema.entries store _ sound (λ e at holds. with_one_less e.info holds place)
