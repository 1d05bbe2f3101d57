use Rattle.item_changes.proofs.ScopeLemmas.{inside_all, outside_all, swap_all, applies_all, conflict_either_way, readers_change_nothing}
use Rattle.item_changes.proofs.laws_of_scopes.scope_laws.Goals as goal

pub returns-clause-inside : goal.returns-clause-inside
returns-clause-inside c = inside_all

pub returns-clause-outside : goal.returns-clause-outside
returns-clause-outside c = outside_all

pub returns-clause-swaps : goal.returns-clause-swaps
returns-clause-swaps c = swap_all

pub returns-clause-applies : goal.returns-clause-applies
returns-clause-applies c = applies_all

pub returns-clause-either_way : goal.returns-clause-either_way
returns-clause-either_way c = conflict_either_way

pub returns-clause-readers : goal.returns-clause-readers
returns-clause-readers c = readers_change_nothing
