use Rattle.client_machine.proofs.Agreeing.{agrees_begins, made_joined, agrees_own, agrees_other}
use Rattle.client_machine.proofs.laws_of_answers.agreeing_laws.Goals as goal

pub returns-clause-begins : goal.returns-clause-begins
returns-clause-begins c = agrees_begins

pub returns-clause-own : goal.returns-clause-own
returns-clause-own c = agrees_own

pub returns-clause-others : goal.returns-clause-others
returns-clause-others c = agrees_other

pub returns-clause-joined : goal.returns-clause-joined
returns-clause-joined c = made_joined
