use Rattle.request_lists.specs.Placing.{Stays}
use Rattle.request_tests.proofs.handler_calls_tests.NotingHandler.on_event.Goals as goal

pub returns-in_default-clause-becomes : goal.returns-in_default-clause-becomes
returns-in_default-clause-becomes c = Stays

pub returns-in-Ok-push-clause-becomes : goal.returns-in-Ok-push-clause-becomes
returns-in-Ok-push-clause-becomes c = Stays

pub returns-in-Err-clause-becomes : goal.returns-in-Err-clause-becomes
returns-in-Err-clause-becomes c = Stays
