use Rattle.index_tables.proofs.RowLaws as laws
use Rattle.index_tables.proofs.meanings.change_laws.Goals as goal

pub returns-clause-added : goal.returns-clause-added
returns-clause-added c = laws.has_with_rows

pub returns-clause-removed : goal.returns-clause-removed
returns-clause-removed c = laws.has_without_rows

pub returns-clause-removal_undoes : goal.returns-clause-removal_undoes
returns-clause-removal_undoes c = laws.removal_undoes

pub returns-clause-addition_undoes : goal.returns-clause-addition_undoes
returns-clause-addition_undoes c = laws.addition_undoes
