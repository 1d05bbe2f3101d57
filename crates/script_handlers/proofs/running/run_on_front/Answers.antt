use Rattle.std.proofs.Common.{rules, ap}
use Rattle.request_lists.specs.Fronts.{front_map}
use Rattle.request_lists.specs.Placing.{Stays}
use Rattle.script_statements.specs.declared.script.Client.{Client}
use Rattle.script_handlers.specs.Seeing.{script_seen}
use Rattle.script_handlers.proofs.Runs.{ran}
use Rattle.script_handlers.proofs.running.run_on_front.Goals as goal

pub returns-in_err-shared-clause-becomes : goal.returns-in_err-shared-clause-becomes
returns-in_err-shared-clause-becomes c = Stays

pub returns-in_err-copy_of-clause-becomes : goal.returns-in_err-copy_of-clause-becomes
returns-in_err-copy_of-clause-becomes c = Stays

pub returns-in_err-nothing-clause-becomes : goal.returns-in_err-nothing-clause-becomes
returns-in_err-nothing-clause-becomes c = Stays

pub returns-in-Ok-clause-runs : goal.returns-in-Ok-clause-runs
returns-in-Ok-clause-runs c = ran _ _ _ _ _ _ _ _ _ _ _ _ (ap (front_map script_seen) c.replace.ensures.value) (search rules) (ap (λ (k : Client). k.blocks) c.deref.ensures) c.in-Ok.ensures.goes
