use Rattle.std.proofs.Common.{Err, ap, ◌∙◌}
use Rattle.std.specs.Prelude.{option_map}
use Rattle.clone_values.specs.View.{tree_of, key_tree_of}
use Rattle.live_stores.proofs.Runs.{storing_info, storing_refused, taken_back, can_take_back}
use Rattle.live_stores.proofs.changing.put.Goals as goal

pub returns-in-Ok-clause-name : goal.returns-in-Ok-clause-name
returns-in-Ok-clause-name g c =
    ap (λ s. s.info.name) c.in-Ok.ensures.stored.left
    ∙ ap (λ i. i.name) (storing_info c.args.names.now c.args.store.now.store (tree_of c.args.value) (option_map key_tree_of c.args.key) c.args.add)

pub returns-in-Err-Constraint-clause-unchanged : goal.returns-in-Err-Constraint-clause-unchanged
returns-in-Err-Constraint-clause-unchanged g c =
    let h = c.in-Err-Constraint.ensures.refused (ap Err c.in-Err-Constraint.field-0-is) in
    h.left ∙ storing_refused c.args.names.now c.args.store.now.store (tree_of c.args.value) (option_map key_tree_of c.args.key) c.args.add h.answered

pub returns-in-Err-Constraint-clause-name : goal.returns-in-Err-Constraint-clause-name
returns-in-Err-Constraint-clause-name g c =
    let h = c.in-Err-Constraint.ensures.refused (ap Err c.in-Err-Constraint.field-0-is) in
    ap (λ s. s.info.name) h.left
    ∙ ap (λ i. i.name) (storing_info c.args.names.now c.args.store.now.store (tree_of c.args.value) (option_map key_tree_of c.args.key) c.args.add)

pub take_back-requires-after_bounds : goal.take_back-requires-after_bounds
take_back-requires-after_bounds g c κs within =
    can_take_back c.args.store.now c.put_record.new.store c.mark-before.result c.mark-before.ensures.place c.mark-before.ensures.here c.in-Err-NoMemory.ensures.past
    c.mark-before.ensures.current c.mark-before.ensures.sound

pub returns-in-Err-NoMemory-clause-name : goal.returns-in-Err-NoMemory-clause-name
returns-in-Err-NoMemory-clause-name g c =
    ap (λ s. s.info.name) (c.take_back.ensures.store
    ∙ taken_back c.args.store.now c.put_record.new.store c.mark-before.result c.mark-before.ensures.place c.mark-before.ensures.here c.in-Err-NoMemory.ensures.past)
