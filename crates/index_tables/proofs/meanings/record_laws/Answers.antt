use Rattle.index_tables.proofs.Laws as laws
use Rattle.index_tables.proofs.meanings.record_laws.Goals as goal

pub returns-clause-there : goal.returns-clause-there
returns-clause-there c = laws.has_index_row

pub returns-clause-comes : goal.returns-clause-comes
returns-clause-comes c = laws.rows_with

pub returns-clause-comes_over : goal.returns-clause-comes_over
returns-clause-comes_over c = laws.rows_over

pub returns-clause-goes : goal.returns-clause-goes
returns-clause-goes c = laws.rows_without
