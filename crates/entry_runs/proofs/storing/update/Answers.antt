use Rattle.std.proofs.Common.{sym, ◌∙◌, ap}
use Rattle.std.specs.Prelude.{option_map}
use Rattle.clone_values.specs.View.{tree_of, key_tree_of}
use Rattle.entry_runs.proofs.Calls.{can_update, seen_place}
use Rattle.entry_runs.proofs.storing.update.Goals as goal

pub store_value-requires-after_bounds : goal.store_value-requires-after_bounds
store_value-requires-after_bounds g c κs within =
    can_update c.args.front.now c.requires.cursors c.args.number c.args.course.now (tree_of c.args.value.now) c.in-Some.store (key_tree_of c.in-Some.key) c.requires.value (sym c.in_ok-store.ensures ∙ ap (option_map seen_place) c.in-Some.is)
