use Rattle.store_contents.proofs.RecordChanges.{stored_changes, deleted_changes, cleared_changes}
use Rattle.store_contents.proofs.laws_of_stores.store_laws.Goals as goal

pub returns-clause-storing : goal.returns-clause-storing
returns-clause-storing c = stored_changes

pub returns-clause-deleting : goal.returns-clause-deleting
returns-clause-deleting c = deleted_changes

pub returns-clause-clearing : goal.returns-clause-clearing
returns-clause-clearing c = cleared_changes
