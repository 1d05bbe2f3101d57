use Rattle.index_tables.proofs.Laws as laws
use Rattle.index_tables.proofs.meanings.unique_laws.Goals as goal

pub returns-clause-none : goal.returns-clause-none
returns-clause-none c = laws.nothing_breaks

pub returns-clause-kept : goal.returns-clause-kept
returns-clause-kept c indexes records key e = laws.removal_keeps records key indexes e

pub returns-clause-broken : goal.returns-clause-broken
returns-clause-broken c = laws.broken_by

pub returns-clause-unbroken : goal.returns-clause-unbroken
returns-clause-unbroken c = laws.unbroken
