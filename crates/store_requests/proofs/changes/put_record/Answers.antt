use Rattle.std.proofs.Common.{◌++◌, ◌∙◌, ap}
use Rattle.std.specs.Prelude.{option_map}
use Rattle.std.specs.FinMap as finite
use Rattle.clone_values.specs.View.{tree_of, key_tree_of}
use Rattle.store_requests.specs.Runs.{number_changes, record_changes}
use Rattle.store_requests.proofs.StoringLemmas.{has_stored, has_refused}
use Rattle.std.proofs.Common.{refl, Err}
use Rattle.store_requests.proofs.changes.put_record.Goals as goal

pub returns-in-Ok-key_answer-clause-stored : goal.returns-in-Ok-key_answer-clause-stored
returns-in-Ok-key_answer-clause-stored g c =
    let new = c.store_record.new.self.store in
    let key = key_tree_of c.in-Ok.key in
    has_stored c.args.names.now c.args.store.now.store new (tree_of c.args.value) (option_map key_tree_of c.args.key) c.args.add c.args.changes.now c.key_answer.new.changes key
    (tree_of c.in-Ok-key_answer.answer) c.in-Ok.ensures.stored c.in-Ok-key_answer.ensures.answer
    (c.in-Ok-key_answer.ensures.noted ∙ ap (λ n. c.args.changes.now ++ (number_changes c.args.names.now n new.current ++ record_changes c.args.names.now key (finite.get new.records key))) c.current-before.ensures.value)

pub returns-in-Err-Constraint-clause-refused : goal.returns-in-Err-Constraint-clause-refused
returns-in-Err-Constraint-clause-refused g c = λ is.
    has_refused c.args.names.now c.args.store.now.store c.store_record.new.self.store (tree_of c.args.value) (option_map key_tree_of c.args.key) c.args.add c.args.changes.now c.args.changes.now
    (c.in-Err-Constraint.ensures.refused (ap Err c.in-Err-Constraint.field-0-is)) c.in-Err-Constraint.ensures.unchanged refl
