use Rattle.store_requests.proofs.RunChains.{storing_leaves, deleting_leaves, clearing_leaves}
use Rattle.store_requests.proofs.laws_of_leaving.leaving_laws.Goals as goal

pub returns-clause-storing : goal.returns-clause-storing
returns-clause-storing c = storing_leaves

pub returns-clause-deleting : goal.returns-clause-deleting
returns-clause-deleting c = deleting_leaves

pub returns-clause-clearing : goal.returns-clause-clearing
returns-clause-clearing c = clearing_leaves
