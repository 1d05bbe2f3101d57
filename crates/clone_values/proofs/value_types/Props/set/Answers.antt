use Rattle.std.proofs.Common.{◌∙◌, sym, ap, map}
use Rattle.std.proofs.lemmas.Result.{on_ok_weaker, on_err_weaker}
use Rattle.clone_values.specs.Held.{items_held}
use Rattle.clone_values.specs.View.{prop_of, tree_of}
use Rattle.clone_values.proofs.NamesLaws.{replaced_either, inserted_either}
use Rattle.clone_values.proofs.Places.{map_replaced, map_inserted}
use Rattle.clone_values.proofs.value_types.Props.set.Goals as goal

pub invariant_of-self : goal.invariant_of-self
invariant_of-self c =
    let set = rw (← c.self.view_is, c.as_str.ensures.value) at (c.in-Ok.ensures.set_there (tree_of c.args.value)) in
    replaced_either c.replace_held.result (map prop_of (items_held c.self.inside.props)) _ _ c.args.name (tree_of c.args.value) c.self.invariant set (map_replaced prop_of c.replace_held.result _ _ _ _ c.replace_held.ensures.replaced)
    (on_err_weaker c.replace_held.result (ap (map prop_of)) c.replace_held.ensures.unchanged)

pub returns-in-Ok-clause-stored : goal.returns-in-Ok-clause-stored
returns-in-Ok-clause-stored c =
    let set = rw (← c.self.view_is, c.as_str.ensures.value) at (c.in-Ok.ensures.set_there (tree_of c.args.value)) in
    rw (← c.self.view_is) (on_ok_weaker c.replace_held.result (λ e. e ∙ sym set) (map_replaced prop_of c.replace_held.result _ _ _ _ c.replace_held.ensures.replaced))

pub returns-in-Ok-clause-rising : goal.returns-in-Ok-clause-rising
returns-in-Ok-clause-rising c =
    let set = rw (← c.self.view_is, c.as_str.ensures.value) at (c.in-Ok.ensures.set_there (tree_of c.args.value)) in
    (replaced_either c.replace_held.result (map prop_of (items_held c.self.inside.props)) _ _ c.args.name (tree_of c.args.value) c.self.invariant set (map_replaced prop_of c.replace_held.result _ _ _ _ c.replace_held.ensures.replaced)
    (on_err_weaker c.replace_held.result (ap (map prop_of)) c.replace_held.ensures.unchanged)).1

pub invariant_of-self-in-Err : goal.invariant_of-self-in-Err
invariant_of-self-in-Err c =
    let there = rw (← c.self.view_is, c.as_str.ensures.value) at c.in-Err.ensures.put_there in
    inserted_either c.insert_held.result (map prop_of (items_held c.self.inside.props)) _ _ c.args.name (tree_of c.args.value) c.self.invariant there.0 (rw (← c.self.view_is) at c.requires) (there.1 (tree_of c.args.value))
    (map_inserted prop_of c.insert_held.result _ _ _ _ c.insert_held.ensures.inserted) (on_err_weaker c.insert_held.result (ap (map prop_of)) c.insert_held.ensures.unchanged)

pub returns-in-Err-clause-stored : goal.returns-in-Err-clause-stored
returns-in-Err-clause-stored c =
    let there = rw (← c.self.view_is, c.as_str.ensures.value) at c.in-Err.ensures.put_there in
    rw (← c.self.view_is) (on_ok_weaker c.insert_held.result (λ e. e ∙ sym (there.1 (tree_of c.args.value))) (map_inserted prop_of c.insert_held.result _ _ _ _ c.insert_held.ensures.inserted))

pub returns-in-Err-clause-rising : goal.returns-in-Err-clause-rising
returns-in-Err-clause-rising c =
    let there = rw (← c.self.view_is, c.as_str.ensures.value) at c.in-Err.ensures.put_there in
    (inserted_either c.insert_held.result (map prop_of (items_held c.self.inside.props)) _ _ c.args.name (tree_of c.args.value) c.self.invariant there.0 (rw (← c.self.view_is) at c.requires) (there.1 (tree_of c.args.value))
    (map_inserted prop_of c.insert_held.result _ _ _ _ c.insert_held.ensures.inserted) (on_err_weaker c.insert_held.result (ap (map prop_of)) c.insert_held.ensures.unchanged)).1
