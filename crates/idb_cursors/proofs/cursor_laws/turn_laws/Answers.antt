use Rattle.idb_cursors.proofs.TurnLaws as laws
use Rattle.idb_cursors.proofs.cursor_laws.turn_laws.Goals as goal

pub returns-clause-taken : goal.returns-clause-taken
returns-clause-taken c = λ rows turn place member. laws.taken_meets rows turn place member

pub returns-clause-never_back : goal.returns-clause-never_back
returns-clause-never_back c = λ rows turn more place member. laws.never_back rows turn more place member

pub returns-clause-in_store : goal.returns-clause-in_store
returns-clause-in_store c = laws.in_store

pub returns-clause-greatest_key : goal.returns-clause-greatest_key
returns-clause-greatest_key c = laws.greatest_key

pub returns-clause-first_of_its_key : goal.returns-clause-first_of_its_key
returns-clause-first_of_its_key c = λ rows turn place other member row. laws.first_of_its_key rows turn place other member row
