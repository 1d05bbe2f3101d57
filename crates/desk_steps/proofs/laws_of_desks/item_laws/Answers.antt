use Rattle.desk_steps.proofs.Sharing as sharing
use Rattle.desk_steps.proofs.laws_of_desks.item_laws.Goals as goal

pub returns-clause-one_database : goal.returns-clause-one_database
returns-clause-one_database c = sharing.one_database

pub returns-clause-two_databases : goal.returns-clause-two_databases
returns-clause-two_databases c = sharing.two_databases

pub returns-clause-whole_database : goal.returns-clause-whole_database
returns-clause-whole_database c = sharing.whole_shares

pub returns-clause-whole_databases : goal.returns-clause-whole_databases
returns-clause-whole_databases c = sharing.whole_databases
